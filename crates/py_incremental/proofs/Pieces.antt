-- What a decoder answers to pieces is what it answers to them joined.
use Rattle.std.proofs.Common.{◌≡◌, ℕ, ◌+◌, ◌≤◌, Bool, true, false, List, [], ◌∷◌, ◌++◌, length as len, drop, Ok, Err, refl, sym, ap, subst, ◌∙◌, arith}
use Rattle.std.proofs.Math.Seq.{drop-length}
use Rattle.std.proofs.lemmas.List.{append-nil, append_assoc}
use Rattle.std.proofs.lemmas.Bool.{true≢false}
use Rattle.py_flat.specs.declared.fault.IoFault.TheVariants.{UnicodeDecodeError}
use Rattle.py_plain.specs.declared.encoding.Encoding.{Encoding}
use Rattle.py_plain.specs.Units.{Order}
use Rattle.py_plain.specs.Handlers.{Treatment, treatment, reads_texts}
use Rattle.py_plain.specs.Items.{Ending, AtEnd, AtRange, AtCut, Walk, ends, characters_of}
use Rattle.py_plain.specs.Pieces.{walk_at, place_behind, unused, unless_refused}
use Rattle.py_plain.proofs.Walks.{walk-order}
use Rattle.py_plain.proofs.Joining.{two}
use Rattle.py_plain.proofs.Looking.{reading}
use Rattle.py_codec.specs.Decoding.{ended}
use Rattle.py_incremental.specs.Incremental.{DecoderView, walk_with, decoding_with, holding}
use Rattle.py_incremental.specs.Pieces.{Fed, pieces_of, texts_of, FedRun, bytes_behind, used_up}
use Rattle.py_codec.proofs.Ended.{CameTo, answered, refused_at}
use Rattle.py_incremental.proofs.Cuts.{walk_cut}
use Rattle.py_incremental.proofs.Moving.{moved, IsBehind}
use Rattle.py_incremental.proofs.Feeding.{left_short, waiting, Waits, left_waits, GoesOn, step_answered, run_goes_on}

-- the bytes that a run used up
gone_is : (before after : DecoderView) (run : List Fed) (goes : GoesOn before run after) → goes.gone ≡ used_up before run after
gone_is before after run goes = omega (arith, goes.within)

-- What is held.

-- what is held after a run is the end of the bytes that the decoder has had
pub held_is : (before after : DecoderView) (run : List Fed) → FedRun before run after → after.held ≡ drop (used_up before run after) (bytes_behind before run)
held_is before after run fed =
    let goes = run_goes_on before after run fed in
    goes.held ∙ ap (λ (k : ℕ). drop k (bytes_behind before run)) (gone_is before after run goes)

-- a decoder that held at most three bytes holds at most three after a run
pub stays_short : (before after : DecoderView) (run : List Fed) → len before.held ≤ 3 → FedRun before run after → len after.held ≤ 3
stays_short before after [] short is = subst (λ (d : DecoderView). len d.held ≤ 3) (sym is) short
stays_short before after (fed ∷ run) short (used, is, further) =
    let treat : Treatment = treatment before.handler before.encoding in
    let left = left_short before.encoding treat false before.order (before.held ++ fed.piece) used (step_answered before fed used is).came in
    stays_short (holding before false fed.piece used) after run left.1 further

-- the order stays as it was
pub order_stays : (before : DecoderView) (last : Bool) (piece : List ℕ) (used : ℕ) → (holding before last piece used).order ≡ before.order
order_stays before last piece used = walk-order before.encoding (treatment before.handler before.encoding) last before.order 0 0 (before.held ++ piece)

-- a decoder that holds what a piece left
abbrev IsWaiting : DecoderView → Type 0
IsWaiting decoder = Waits decoder.encoding (treatment decoder.handler decoder.encoding) decoder.order decoder.held

piece_waits : (before : DecoderView) (fed : Fed) (used : ℕ) → decoding_with before false fed.piece ≡ Ok (fed.text, used) → IsWaiting (holding before false fed.piece used)
piece_waits before fed used is =
    let treat : Treatment = treatment before.handler before.encoding in
    subst (λ (order : Order). Waits before.encoding treat order (drop used (before.held ++ fed.piece))) (sym (order_stays before false fed.piece used))
    (left_waits before.encoding treat before.order (before.held ++ fed.piece) used _ refl (step_answered before fed used is).came)

run_waits : (before after : DecoderView) (run : List Fed) → IsWaiting before → FedRun before run after → IsWaiting after
run_waits before after [] waits is = subst IsWaiting (sym is) waits
run_waits before after (fed ∷ run) waits (used, is, further) = run_waits (holding before false fed.piece used) after run (piece_waits before fed used is) further

-- What is answered.

-- an answer where a walk has a text and then nothing
so_far_by : (characters text held : List ℕ) (ending : Ending) (total gone : ℕ) → characters ≡ text → ending ≡ moved gone (waiting held) → gone + len held ≡ total → ended characters total UnicodeDecodeError ending ≡ Ok (text, gone)
so_far_by characters text [] ending total gone text_is ending_is all =
    let same : total ≡ gone = omega (arith, all) in
    ap (λ (e : Ending). ended characters total UnicodeDecodeError e) ending_is
    ∙ (ap (λ (cs : List ℕ). Ok (cs, total)) text_is ∙ ap (λ (k : ℕ). Ok (text, k)) same)
so_far_by characters text (byte ∷ held) ending total gone text_is ending_is all =
    let same : gone + 0 ≡ gone = omega arith in
    ap (λ (e : Ending). ended characters total UnicodeDecodeError e) ending_is
    ∙ (ap (λ (cs : List ℕ). Ok (cs, gone + 0)) text_is ∙ ap (λ (k : ℕ). Ok (text, k)) same)

-- the pieces of a run, joined, are answered with the texts joined, and leave what the run leaves
pub so_far : (before after : DecoderView) (first : Fed) (run : List Fed) → reads_texts before.handler ≡ true → FedRun before (first ∷ run) after → (decoding_with before false (pieces_of (first ∷ run)) ≡ Ok (texts_of (first ∷ run), used_up before (first ∷ run) after)) × (after ≡ holding before false (pieces_of (first ∷ run)) (used_up before (first ∷ run) after))
so_far before after first run reads (used, is, further) =
    let all : List Fed = first ∷ run in
    let goes = run_goes_on before after all (used, is, further) in
    let gone = gone_is before after all goes in
    let behind : IsBehind (texts_of all) goes.gone (walk_with before false (pieces_of all)) (walk_with after false []) = subst (λ (bytes : List ℕ). IsBehind (texts_of all) goes.gone (walk_with before false bytes) (walk_with after false [])) (append-nil (pieces_of all)) (goes.behind reads false []) in
    let alone : walk_with after false [] ≡ ends after.order (waiting after.held) = ap (λ (bytes : List ℕ). walk_at after.encoding (treatment after.handler after.encoding) false after.order 0 bytes) (append-nil after.held) ∙ run_waits (holding before false first.piece used) after run (piece_waits before first used is) further in
    let text_is = behind.characters ∙ (ap (λ (w : Walk). texts_of all ++ characters_of w.items) alone ∙ append-nil (texts_of all)) in
    let order_is : (walk_with before false (pieces_of all)).order ≡ after.order = behind.order ∙ ap (λ (w : Walk). w.order) alone in
    let ending_is = behind.ending ∙ ap (λ (w : Walk). moved goes.gone w.ending) alone in (
      so_far_by _ (texts_of all) after.held _ (len (bytes_behind before all)) goes.gone text_is ending_is goes.within ∙ ap (λ (k : ℕ). Ok (texts_of all, k)) gone,
      goes.same ∙ (ap (λ (bytes : List ℕ). record before { order = after.order; held = bytes }) (held_is before after all (used, is, further))
          ∙ ap (λ (order : Order). record before { order = order; held = drop (used_up before all after) (bytes_behind before all) }) (sym order_is)),
    )

-- a last walk is cut nowhere
at_end : (encoding : Encoding) (treat : Treatment) (order : Order) (bytes : List ℕ) (used : ℕ) (ending : Ending) → (walk_at encoding treat true order 0 bytes).ending ≡ ending → CameTo (len bytes) ending used → ending ≡ AtEnd
at_end encoding treat order bytes used AtEnd is came = refl
at_end encoding treat order bytes used (AtCut start) is came = absurd (true≢false (walk_cut encoding treat true order 0 0 bytes start is).more)
at_end encoding treat order bytes used (AtRange start end) is came = absurd came

whole_by : (characters text : List ℕ) (ending : Ending) (total other : ℕ) → characters ≡ text → ending ≡ AtEnd → total ≡ other → ended characters total UnicodeDecodeError ending ≡ Ok (text, other)
whole_by characters text ending total other text_is ending_is same =
    ap (λ (e : Ending). ended characters total UnicodeDecodeError e) ending_is
    ∙ (ap (λ (cs : List ℕ). Ok (cs, total)) text_is ∙ ap (λ (k : ℕ). Ok (text, k)) same)

-- the pieces of a run and a last one, joined, are answered with the texts joined
pub whole : (before after : DecoderView) (run : List Fed) (final text : List ℕ) (used : ℕ) → reads_texts before.handler ≡ true → FedRun before run after → decoding_with after true final ≡ Ok (text, used) → decoding_with before true (pieces_of run ++ final) ≡ Ok (texts_of run ++ text, len (bytes_behind before run ++ final))
whole before after run final text used reads fed is =
    let goes = run_goes_on before after run fed in
    let behind = goes.behind reads true final in
    let last = answered (characters_of (walk_with after true final).items) (len (after.held ++ final)) UnicodeDecodeError (walk_with after true final).ending text used is in
    let ends = at_end after.encoding (treatment after.handler after.encoding) after.order (after.held ++ final) used (walk_with after true final).ending refl last.came in
    whole_by _ (texts_of run ++ text) _ (len (before.held ++ (pieces_of run ++ final))) (len (bytes_behind before run ++ final))
    (behind.characters ∙ ap (λ (cs : List ℕ). texts_of run ++ cs) last.text_is)
    (behind.ending ∙ ap (moved goes.gone) ends)
    (ap (λ (bytes : List ℕ). len bytes) (sym (append_assoc before.held (pieces_of run) final)))

-- a piece that is refused after a run is refused in the pieces joined, at the range that counts from their first byte
pub refused : (before after : DecoderView) (run : List Fed) (last : Bool) (piece : List ℕ) (start end : ℕ) → reads_texts before.handler ≡ true → FedRun before run after → decoding_with after last piece ≡ Err (UnicodeDecodeError start end) → decoding_with before last (pieces_of run ++ piece) ≡ Err (UnicodeDecodeError (used_up before run after + start) (used_up before run after + end))
refused before after run last piece start end reads fed is =
    let goes = run_goes_on before after run fed in
    let behind = goes.behind reads last piece in
    let range = refused_at (characters_of (walk_with after last piece).items) (len (after.held ++ piece)) (walk_with after last piece).ending start end is in
    let walk : Walk = walk_with before last (pieces_of run ++ piece) in
    ap (λ (e : Ending). ended (characters_of walk.items) (len (before.held ++ (pieces_of run ++ piece))) UnicodeDecodeError e) (behind.ending ∙ ap (moved goes.gone) range)
    ∙ ap (λ (k : ℕ). Err (UnicodeDecodeError (k + start) (k + end))) (gone_is before after run goes)

-- a piece that is refused while more may come is refused whatever comes
refused_front : (decoder : DecoderView) (last : Bool) (piece more : List ℕ) (start end : ℕ) → reads_texts decoder.handler ≡ true → decoding_with decoder false piece ≡ Err (UnicodeDecodeError start end) → decoding_with decoder last (piece ++ more) ≡ Err (UnicodeDecodeError start end)
refused_front decoder last piece more start end reads is =
    let treat : Treatment = treatment decoder.handler decoder.encoding in
    let front : List ℕ = decoder.held ++ piece in
    let first : Walk = walk_with decoder false piece in
    let walk : Walk = walk_with decoder last (piece ++ more) in
    let range = refused_at (characters_of first.items) (len front) first.ending start end is in
    let in_two_is = two decoder.encoding treat (reading decoder.handler decoder.encoding reads) last decoder.order 0 front more in
    let split = in_two_is ∙ ap (λ (bytes : List ℕ). walk_at decoder.encoding treat last decoder.order 0 bytes) (append_assoc decoder.held piece more) in
    let stays : walk.ending ≡ AtRange start end =
    ap (λ (w : Walk). w.ending) (sym split)
    ∙ ap (λ (e : Ending). (unless_refused first.order e (walk_at decoder.encoding treat last first.order (place_behind 0 front e) (unused 0 front e ++ more))).ending) range in
    ap (λ (e : Ending). ended (characters_of walk.items) (len (decoder.held ++ (piece ++ more))) UnicodeDecodeError e) stays

-- a piece that is refused while more may come is refused so whatever comes after it
pub refused_for_good : (before after : DecoderView) (run : List Fed) (piece : List ℕ) (start end : ℕ) → reads_texts before.handler ≡ true → FedRun before run after → decoding_with after false piece ≡ Err (UnicodeDecodeError start end) → (last : Bool) (more : List ℕ) → decoding_with before last (pieces_of run ++ (piece ++ more)) ≡ Err (UnicodeDecodeError (used_up before run after + start) (used_up before run after + end))
refused_for_good before after run piece start end reads fed is last more =
    let goes = run_goes_on before after run fed in
    let same : after.handler ≡ before.handler = ap (λ (d : DecoderView). d.handler) goes.same in
    let reads_after : reads_texts after.handler ≡ true = ap reads_texts same ∙ reads in
    refused before after run last (piece ++ more) start end reads fed (refused_front after last piece more start end reads_after is)

-- after a last piece nothing is held
pub none_held : (before : DecoderView) (final text : List ℕ) (used : ℕ) → decoding_with before true final ≡ Ok (text, used) → (holding before true final used).held ≡ []
none_held before final text used is =
    let bytes : List ℕ = before.held ++ final in
    let walk : Walk = walk_with before true final in
    let came = (answered (characters_of walk.items) (len bytes) UnicodeDecodeError walk.ending text used is).came in
    let ends = at_end before.encoding (treatment before.handler before.encoding) before.order bytes used walk.ending refl came in
    let all : used ≡ len bytes = subst (λ (e : Ending). CameTo (len bytes) e used) ends came in
    ap (λ (k : ℕ). drop k bytes) all ∙ drop-length bytes
