-- How a decoder goes on after pieces that it answered.
use Rattle.std.proofs.Common.{◌≡◌, ℕ, ◌+◌, ◌-◌, ◌≤◌, Bool, true, false, List, [], ◌∷◌, ◌++◌, length as len, drop, Ok, refl, sym, ap, subst, ◌∙◌, arith}
use Rattle.std.proofs.Math.Seq.{drop-length}
use Rattle.std.proofs.lemmas.List.{append-nil, append_assoc, length-append, length-drop, drop-drop, drop-append-le}
use Rattle.py_flat.specs.declared.fault.IoFault.TheVariants.{UnicodeDecodeError}
use Rattle.py_plain.specs.declared.encoding.Encoding.{Encoding}
use Rattle.py_plain.specs.declared.handler.Handler.{Handler}
use Rattle.py_plain.specs.declared.handler.Handler.TheVariants.{Strict, Ignore, Replace, XmlCharRefReplace, BackslashReplace, SurrogatePass, SurrogateEscape}
use Rattle.py_plain.specs.Units.{Order}
use Rattle.py_plain.specs.Handlers.{Treatment, treatment, reads_texts}
use Rattle.py_plain.specs.Items.{Item, Ending, AtEnd, AtRange, AtCut, Walk, ends, characters_of}
use Rattle.py_plain.specs.Pieces.{LooksAtRange, walk_at, items_before, place_behind, unused, unless_refused}
use Rattle.py_plain.proofs.Walks.{characters-append}
use Rattle.py_plain.proofs.Joining.{two}
use Rattle.py_plain.proofs.Looking.{reading}
use Rattle.py_codec.proofs.Ended.{CameTo, IsAnswered, answered}
use Rattle.py_incremental.specs.Incremental.{DecoderView, walk_with, decoding_with, holding}
use Rattle.py_incremental.specs.Pieces.{Fed, pieces_of, texts_of, FedRun, bytes_behind}
use Rattle.py_incremental.proofs.Cuts.{AreCut, walk_cut, cut_size, cut_again}
use Rattle.py_incremental.proofs.Moving.{IgnoresPlace, moved, moved_twice, moved_none, IsBehind, walk_moved}

-- What is left unused.

left_by : (encoding : Encoding) (treat : Treatment) (last : Bool) (order : Order) (bytes : List ℕ) (used : ℕ) (ending : Ending) → (walk_at encoding treat last order 0 bytes).ending ≡ ending → CameTo (len bytes) ending used → (used ≤ len bytes) × (len (drop used bytes) ≤ 3)
left_by encoding treat last order bytes used AtEnd is came = (omega (arith, came), omega (arith, came, length-drop used bytes))
left_by encoding treat last order bytes used (AtCut start) is came =
    let cut = walk_cut encoding treat last order 0 0 bytes start is in
    let size = cut_size encoding order (drop (start - 0) bytes) cut.cut in
    (omega (arith, came, size.0, length-drop (start - 0) bytes), omega (arith, came, size.1, length-drop (start - 0) bytes, length-drop used bytes))
left_by encoding treat last order bytes used (AtRange start end) is came = absurd came

-- no more bytes are used than there are, and at most three are left
pub left_short : (encoding : Encoding) (treat : Treatment) (last : Bool) (order : Order) (bytes : List ℕ) (used : ℕ) → CameTo (len bytes) (walk_at encoding treat last order 0 bytes).ending used → (used ≤ len bytes) × (len (drop used bytes) ≤ 3)
left_short encoding treat last order bytes used came = left_by encoding treat last order bytes used (walk_at encoding treat last order 0 bytes).ending refl came

-- the ending of a walk over bytes that are left, while more may come
abbrev pub waiting : List ℕ → Ending
waiting [] = AtEnd
waiting (byte ∷ rest) = AtCut 0

-- bytes that a walk stops before, while more may come
abbrev pub Waits : Encoding → Treatment → Order → List ℕ → Type 0
Waits encoding treat order bytes = walk_at encoding treat false order 0 bytes ≡ ends order (waiting bytes)

waits_cut : (encoding : Encoding) (treat : Treatment) (order : Order) (bytes : List ℕ) → AreCut encoding order bytes → Waits encoding treat order bytes
waits_cut encoding treat order [] cut = absurd (omega (arith, (cut_size encoding order [] cut).0))
waits_cut encoding treat order (byte ∷ rest) cut = cut_again encoding treat order (byte ∷ rest) cut

-- a walk over the bytes that an answered piece left has no items, while more may come
pub left_waits : (encoding : Encoding) (treat : Treatment) (order : Order) (bytes : List ℕ) (used : ℕ) (ending : Ending) → (walk_at encoding treat false order 0 bytes).ending ≡ ending → CameTo (len bytes) ending used → Waits encoding treat order (drop used bytes)
left_waits encoding treat order bytes used AtEnd is came =
    let none : [] ≡ drop used bytes = sym (drop-length bytes) ∙ ap (λ (k : ℕ). drop k bytes) (sym came) in
    subst (Waits encoding treat order) none refl
left_waits encoding treat order bytes used (AtCut start) is came =
    let cut = walk_cut encoding treat false order 0 0 bytes start is in
    let here : start - 0 ≡ used = omega (arith, came) in
    subst (λ (k : ℕ). Waits encoding treat order (drop k bytes)) here (waits_cut encoding treat order (drop (start - 0) bytes) cut.cut)
left_waits encoding treat order bytes used (AtRange start end) is came = absurd came

-- The walk goes on at what is left.

-- where a front was answered, the walk goes on at what is left of it
goes_from : (encoding : Encoding) (treat : Treatment) (last : Bool) (order : Order) (front rest : List ℕ) (used : ℕ) (items : List Item) (ending : Ending) → CameTo (len front) ending used → items_before items (unless_refused order ending (walk_at encoding treat last order (place_behind 0 front ending) (unused 0 front ending ++ rest))) ≡ items_before items (walk_at encoding treat last order used (drop used front ++ rest))
goes_from encoding treat last order front rest used items AtEnd came =
    let here : 0 + len front ≡ used = omega (arith, came) in
    let none : [] ≡ drop used front = sym (drop-length front) ∙ ap (λ (k : ℕ). drop k front) (sym came) in
    ap (λ (p : ℕ). items_before items (walk_at encoding treat last order p rest)) here
    ∙ ap (λ (bytes : List ℕ). items_before items (walk_at encoding treat last order used (bytes ++ rest))) none
goes_from encoding treat last order front rest used items (AtCut start) came =
    let here : start - 0 ≡ used = omega (arith, came) in
    ap (λ (p : ℕ). items_before items (walk_at encoding treat last order p (drop (start - 0) front ++ rest))) (sym came)
    ∙ ap (λ (k : ℕ). items_before items (walk_at encoding treat last order used (drop k front ++ rest))) here
goes_from encoding treat last order front rest used items (AtRange start end) came = absurd came

behind_items : (items : List Item) (text : List ℕ) (by : ℕ) (walk far near : Walk) → characters_of items ≡ text → walk ≡ items_before items far → IsBehind [] by far near → IsBehind text by walk near
behind_items items text by walk far near text_is walk_is behind = record {
  characters = ap (λ (w : Walk). characters_of w.items) walk_is ∙ (characters-append items far.items ∙ (ap (λ (cs : List ℕ). cs ++ characters_of far.items) text_is ∙ ap (λ (cs : List ℕ). text ++ cs) behind.characters));
  order = ap (λ (w : Walk). w.order) walk_is ∙ behind.order;
  ending = ap (λ (w : Walk). w.ending) walk_is ∙ behind.ending;
}

-- where a front was answered, the walk over all has its text, and then the walk over what is left of it and the rest, in the order
-- that the front reached
pub goes_on : (encoding : Encoding) (treat : Treatment) → LooksAtRange treat → IgnoresPlace treat → (last : Bool) (order : Order) (front rest text : List ℕ) (used : ℕ) → characters_of (walk_at encoding treat false order 0 front).items ≡ text → CameTo (len front) (walk_at encoding treat false order 0 front).ending used → IsBehind text used (walk_at encoding treat last order 0 (front ++ rest)) (walk_at encoding treat last (walk_at encoding treat false order 0 front).order 0 (drop used front ++ rest))
goes_on encoding treat looks ignores last order front rest text used text_is came =
    let first : Walk = walk_at encoding treat false order 0 front in
    let left : List ℕ = drop used front ++ rest in
    let here : used + 0 ≡ used = omega arith in
    let split : walk_at encoding treat last order 0 (front ++ rest) ≡ items_before first.items (walk_at encoding treat last first.order used left) =
    sym (two encoding treat looks last order 0 front rest) ∙ goes_from encoding treat last first.order front rest used first.items first.ending came in
    let behind = subst (λ (p : ℕ). IsBehind [] used (walk_at encoding treat last first.order p left) (walk_at encoding treat last first.order 0 left)) here (walk_moved encoding treat last first.order used 0 0 left ignores) in
    behind_items first.items text used _ _ _ text_is split behind

-- no handler looks at the place
pub ignores : (handler : Handler) (encoding : Encoding) → IgnoresPlace (treatment handler encoding)
ignores Strict encoding here there rest size = refl
ignores Ignore encoding here there rest size = refl
ignores Replace encoding here there rest size = refl
ignores XmlCharRefReplace encoding here there rest size = refl
ignores BackslashReplace encoding here there rest size = refl
ignores SurrogatePass encoding here there rest size = refl
ignores SurrogateEscape encoding here there rest size = refl

-- A run of pieces.

then_behind : (text more : List ℕ) (by further : ℕ) (walk between behind : Walk) → IsBehind text by walk between → IsBehind more further between behind → IsBehind (text ++ more) (by + further) walk behind
then_behind text more by further walk between behind first second = record {
  characters = first.characters ∙ (ap (λ (cs : List ℕ). text ++ cs) second.characters ∙ sym (append_assoc text more (characters_of behind.items)));
  order = first.order ∙ second.order;
  ending = first.ending ∙ (ap (moved by) second.ending ∙ moved_twice by further behind.ending);
}

-- what a run of pieces leaves, and how the walk over all goes on after it
pub record GoesOn (before : DecoderView) (run : List Fed) (after : DecoderView) : Type 0 where
  pub gone : ℕ
  pub within : gone + len after.held ≡ len (bytes_behind before run)
  pub held : after.held ≡ drop gone (bytes_behind before run)
  pub same : after ≡ record before { order = after.order; held = after.held }
  pub behind : reads_texts before.handler ≡ true → (last : Bool) (rest : List ℕ) → IsBehind (texts_of run) gone (walk_with before last (pieces_of run ++ rest)) (walk_with after last rest)

-- the walk over the held bytes and a piece that is answered has the text of the answer, and came to the bytes that were used
pub step_answered : (before : DecoderView) (fed : Fed) (used : ℕ) → decoding_with before false fed.piece ≡ Ok (fed.text, used) → IsAnswered (characters_of (walk_with before false fed.piece).items) (len (before.held ++ fed.piece)) (walk_with before false fed.piece).ending fed.text used
step_answered before fed used is = answered _ _ UnicodeDecodeError _ fed.text used is

goes_none : (before after : DecoderView) → after ≡ before → GoesOn before [] after
goes_none before after is = record {
  gone = 0;
  within = omega (arith, ap (λ (d : DecoderView). len d.held) is, ap (λ (bytes : List ℕ). len bytes) (append-nil before.held));
  held = ap (λ (d : DecoderView). d.held) is ∙ sym (append-nil before.held);
  same = ap (λ (d : DecoderView). record d { order = after.order; held = after.held }) is;
  behind = λ reads last rest. record {
    characters = ap (λ (d : DecoderView). characters_of (walk_with d last rest).items) (sym is);
    order = ap (λ (d : DecoderView). (walk_with d last rest).order) (sym is);
    ending = ap (λ (d : DecoderView). (walk_with d last rest).ending) (sym is) ∙ moved_none (walk_with after last rest).ending;
  };
}

goes_piece : (before after : DecoderView) (fed : Fed) (run : List Fed) (used : ℕ) → IsAnswered (characters_of (walk_with before false fed.piece).items) (len (before.held ++ fed.piece)) (walk_with before false fed.piece).ending fed.text used → GoesOn (holding before false fed.piece used) run after → GoesOn before (fed ∷ run) after
goes_piece before after fed run used first further =
    let treat : Treatment = treatment before.handler before.encoding in
    let front : List ℕ = before.held ++ fed.piece in
    let pieces : List ℕ = pieces_of run in
    let fits = (left_short before.encoding treat false before.order front used first.came).0 in
    let whole : front ++ pieces ≡ before.held ++ (fed.piece ++ pieces) = append_assoc before.held fed.piece pieces in
    record {
      gone = used + further.gone;
      within = omega (arith, fits, further.within, length-append (drop used front) pieces, length-drop used front, length-append front pieces, ap (λ (bytes : List ℕ). len bytes) whole);
      held = further.held ∙ (ap (drop further.gone) (sym (drop-append-le used front pieces fits)) ∙ (drop-drop further.gone used (front ++ pieces) ∙ ap (drop (used + further.gone)) whole));
      same = further.same;
      behind = λ reads last rest.
          let split : front ++ (pieces ++ rest) ≡ before.held ++ ((fed.piece ++ pieces) ++ rest) = append_assoc before.held fed.piece (pieces ++ rest) ∙ ap (λ (bytes : List ℕ). before.held ++ bytes) (sym (append_assoc fed.piece pieces rest)) in
          let step = goes_on before.encoding treat (reading before.handler before.encoding reads) (ignores before.handler before.encoding) last before.order front (pieces ++ rest) fed.text used first.text_is first.came in
          subst (λ (bytes : List ℕ). IsBehind (fed.text ++ texts_of run) (used + further.gone) (walk_at before.encoding treat last before.order 0 bytes) (walk_with after last rest)) split
          (then_behind fed.text (texts_of run) used further.gone _ _ _ step (further.behind reads last rest));
    }

-- a run of answered pieces goes on at what it left
pub run_goes_on : (before after : DecoderView) (run : List Fed) → FedRun before run after → GoesOn before run after
run_goes_on before after [] fed = goes_none before after fed
run_goes_on before after (fed ∷ run) (used, is, further) =
    goes_piece before after fed run used (step_answered before fed used is) (run_goes_on (holding before false fed.piece used) after run further)
