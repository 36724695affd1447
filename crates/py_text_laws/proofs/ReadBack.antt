-- What is left where a text was written, and what a reading gives there.
use Rattle.std.proofs.Common.{◌≡◌, ℕ, ◌+◌, Bool, true, false, not, nat_lt, List, ◌++◌, length as len, take, drop, Option, Some, None, refl, sym, ap, ◌∙◌, arith, length-append}
use Rattle.std.proofs.lemmas.Bool.{le-ltb}
use Rattle.std.proofs.lemmas.List.{take_at, take-append-drop, drop-drop}
use Rattle.py_flat.specs.declared.fault.IoFault.{IoFault}
use Rattle.py_flat.specs.declared.fault.IoFault.TheVariants as fault
use Rattle.py_flat.specs.declared.life.Life.{Life}
use Rattle.py_flat.specs.declared.life.Life.TheVariants as life
use Rattle.py_flat.specs.Bytes.{lay}
use Rattle.py_flat.specs.Calls.{Text, Count}
use Rattle.py_flat.specs.Refusals.{or_else, refused_if}
use Rattle.py_flat.proofs.Laying.{lay_reads_back}
use Rattle.py_plain.specs.declared.newlines.Newlines.{Newlines}
use Rattle.py_plain.specs.Units.{Order}
use Rattle.py_plain.specs.Handlers.{Treatment, treatment}
use Rattle.py_plain.specs.Items.{Ending, Walk, walk_from, characters_of, refusal_of}
use Rattle.py_plain.specs.NewlineRule.{translated}
use Rattle.py_plain.specs.Encode.{text_bytes, Encoded, encoded}
use Rattle.py_plain.proofs.OwnText.{IsTextBefore, walk-own}
use Rattle.py_plain_text.specs.TextFile.{TextFile, clean_at}
use Rattle.py_plain_text.specs.Rest.{Rest, text_rest}
use Rattle.py_plain_text.specs.Telling.{placed}
use Rattle.py_plain_text.specs.TextStep.{range_refusal, answered_text, after_text_read, text_read}
use Rattle.py_plain_text.specs.TextWriting.{written_treatment, written_bytes}
use Rattle.py_plain_text.specs.TextCalls.{Read, WriteText}
use Rattle.py_plain_text.specs.TextRefusals.{life_refusal, argument_refusal, refusal}
use Rattle.py_plain_text.specs.TextExact.{after_writing, answered, exact}
use Rattle.py_codec.proofs.Texts.{written_from}
use Rattle.py_text_laws.specs.Written.{NeedsNoHandler, is_kept, rest_behind}
use Rattle.py_text_laws.proofs.Keeping.{text_there, text_scalars, written_kept, read_kept}

-- The bytes.

-- a text that needs no handler is written as its characters' own bytes
pub own_bytes_written : (file : TextFile) (text : List ℕ) → NeedsNoHandler file.settings.encoding text → is_kept file.settings.newline text ≡ true → text_bytes file.settings.encoding text ≡ Some (written_bytes file.settings text)
own_bytes_written file text none kept =
    let there = text_there file.settings.encoding text none in
    let as_it_is : written_bytes file.settings text ≡ (encoded file.settings.encoding (written_treatment file.settings) text).bytes =
    ap (λ (cs : List ℕ). (encoded file.settings.encoding (written_treatment file.settings) cs).bytes) (written_kept file.settings.newline text kept) in
    let own : written_bytes file.settings text ≡ there.0 = as_it_is ∙ ap (λ (e : Encoded). e.bytes) (written_from file.settings.encoding (written_treatment file.settings) 0 text there.0 there.1) in
    there.1 ∙ ap (λ (bs : List ℕ). Some bs) (sym own)

-- laid bytes stand where they were laid, before those behind them
laid_before : (bytes : List ℕ) (place : ℕ) (laid : List ℕ) → drop place (lay bytes place laid) ≡ laid ++ drop (place + len laid) (lay bytes place laid)
laid_before bytes place laid =
    let all : List ℕ = drop place (lay bytes place laid) in
    sym (take-append-drop (len laid) all)
    ∙ (ap (λ (bs : List ℕ). bs ++ drop (len laid) all) (lay_reads_back bytes place laid)
    ∙ ap (λ (bs : List ℕ). laid ++ bs) (drop-drop (len laid) place (lay bytes place laid)))

-- What is left.

-- what is left of a text by its decoding
abbrev left_by : Newlines → Walk → Rest
left_by newline walk = record { characters = translated newline (characters_of walk.items); refusal = refusal_of walk.ending }

left_before : (newline : Newlines) (text : List ℕ) (walk behind : Walk) → is_kept newline text ≡ true → IsTextBefore text walk behind → left_by newline walk ≡ rest_behind text (left_by newline behind)
left_before newline text walk behind kept before =
    let characters : translated newline (characters_of walk.items) ≡ text ++ translated newline (characters_of behind.items) =
    ap (translated newline) before.characters ∙ read_kept newline text (characters_of behind.items) kept in
    ap (λ (cs : List ℕ). record { characters = cs; refusal = refusal_of walk.ending }) characters
    ∙ ap (λ (e : Ending). record { characters = text ++ translated newline (characters_of behind.items); refusal = refusal_of e }) before.ending

-- a text after another was written in it
abbrev pub after : TextFile → List ℕ → TextFile
after file text = after_writing file (written_bytes file.settings text)

-- from where a text was written it is left, and then what is left behind it
pub left_written : (file : TextFile) (text : List ℕ) → NeedsNoHandler file.settings.encoding text → is_kept file.settings.newline text ≡ true → (order : Order) → text_rest (placed (after file text) (clean_at file.place.at order)) ≡ rest_behind text (text_rest (placed (after file text) (clean_at (after file text).place.at order)))
left_written file text none kept order =
    let encoding = file.settings.encoding in
    let treat : Treatment = treatment file.settings.handler encoding in
    let place = file.place.at in
    let bytes = written_bytes file.settings text in
    let all = lay file.bytes place bytes in
    let behind = drop (place + len bytes) all in
    ap (λ (bs : List ℕ). left_by file.settings.newline (walk_from encoding treat true order place 0 bs)) (laid_before file.bytes place bytes)
    ∙ left_before file.settings.newline text (walk_from encoding treat true order place 0 (bytes ++ behind)) (walk_from encoding treat true order (place + len bytes) 0 behind) kept
    (walk-own encoding treat true order place text bytes behind (text_scalars encoding text none) (own_bytes_written file text none kept))

-- The calls.

-- what an accepted write leaves
pub exact_written : (file : TextFile) (text : List ℕ) → refusal file (WriteText text) ≡ None → exact file (WriteText text) ≡ (Count (len text), after file text)
exact_written file text accepted = ap (answered file (WriteText text)) accepted

-- what is written is written in a live text
pub lives_by : (was : Life) (later : Option IoFault) (text : List ℕ) → or_else (life_refusal was (WriteText text)) later ≡ None → was ≡ life.Live
lives_by life.Live later text is = refl
lives_by life.Failed later text is = absurd (cc)
lives_by life.Closed later text is = absurd (cc)
lives_by life.Detached later text is = absurd (cc)

no_range : (range : Option (ℕ × ℕ)) → range_refusal false range ≡ None
no_range None = refl
no_range (Some range) = refl

-- a reading of as many characters as a text has, where that text is left first
reads_text : (file : TextFile) (text : List ℕ) (rest behind : Rest) → rest ≡ rest_behind text behind → (text_read file (Some (len text)) rest).0 ≡ Text text
reads_text file text rest behind is =
    let left : List ℕ = text ++ behind.characters in
    let enough : nat_lt (len left) (len text) ≡ false = le-ltb (len left) (len text) (omega (arith, length-append text behind.characters)) in
    let none : range_refusal (nat_lt (len left) (len text)) behind.refusal ≡ None = ap (λ (b : Bool). range_refusal b behind.refusal) enough ∙ no_range behind.refusal in
    ap (λ (r : Rest). (text_read file (Some (len text)) r).0) is
    ∙ (ap (λ (why : Option IoFault). (answered_text file why (take (len text) left) (after_text_read file (Some (len text)) (take (len text) left))).0) none
    ∙ ap (λ (cs : List ℕ). Text cs) (take_at text behind.characters (len text) refl))

free_to_read : (was : Life) (readable : Bool) (size : Option ℕ) → was ≡ life.Live → readable ≡ true → or_else (life_refusal was (Read size)) (or_else (refused_if (not readable) fault.Unsupported) None) ≡ None
free_to_read was readable size lives can = rw (lives, can) refl

-- a text that stands where another was written is read back, whether it may be written or not
pub read_there : (file : TextFile) (text : List ℕ) → NeedsNoHandler file.settings.encoding text → is_kept file.settings.newline text ≡ true → file.life ≡ life.Live → file.can.readable ≡ true → (order : Order) → (exact (placed (after file text) (clean_at file.place.at order)) (Read (Some (len text)))).0 ≡ Text text
read_there file text none kept lives readable order =
    let back = placed (after file text) (clean_at file.place.at order) in
    let through : refusal back (Read (Some (len text))) ≡ None = free_to_read file.life file.can.readable (Some (len text)) lives readable in
    ap (λ (why : Option IoFault). (answered back (Read (Some (len text))) why).0) through
    ∙ reads_text back text (text_rest back) (text_rest (placed (after file text) (clean_at (after file text).place.at order))) (left_written file text none kept order)

pub read_back : (file : TextFile) (text : List ℕ) → NeedsNoHandler file.settings.encoding text → is_kept file.settings.newline text ≡ true → refusal file (WriteText text) ≡ None → file.can.readable ≡ true → (order : Order) → (exact (placed (after file text) (clean_at file.place.at order)) (Read (Some (len text)))).0 ≡ Text text
read_back file text none kept accepted readable order =
    let later : Option IoFault = or_else (refused_if (not file.can.writable) fault.Unsupported) (argument_refusal file (WriteText text)) in
    read_there file text none kept (lives_by file.life later text accepted) readable order
