-- Texts that a newline rule writes and reads as they are, and their bytes.
use Rattle.std.proofs.Common.{◌≡◌, inl, inr, ℕ, Bool, true, false, not, ◌||◌, nat_eq, if◌then◌else◌, List, [], ◌∷◌, ◌++◌, Option, Some, refl, sym, ap, ◌∙◌, append_assoc}
use Rattle.std.specs.List.{All}
use Rattle.std.specs.Char.{IsScalar}
use Rattle.std.proofs.lemmas.Bool.{cases_Bool, cond-true, cond-false, eqb-true, and_parts}
use Rattle.std.proofs.lemmas.List.Elements.{All-nil, All-cons, All-head, All-tail}
use Rattle.py_flat.specs.Lines.{lf, cr}
use Rattle.py_plain.specs.declared.encoding.Encoding.{Encoding}
use Rattle.py_plain.specs.declared.newlines.Newlines.{Newlines}
use Rattle.py_plain.specs.declared.newlines.Newlines.TheVariants as rule
use Rattle.py_plain.specs.Escapes.{each_spelled}
use Rattle.py_plain.specs.Encode.{own_bytes, joined_bytes, text_bytes}
use Rattle.py_plain.specs.NewlineRule.{released, universal, ends_held, translated}
use Rattle.py_plain.proofs.Translating.{finished}
use Rattle.py_plain_text.specs.TextWriting.{written_as, written}
use Rattle.py_codec.proofs.Refusals.{some_bytes}
use Rattle.py_text_laws.specs.Written.{HasBytes, NeedsNoHandler, is_without, is_kept}

-- The bytes of a text.

-- a text with bytes
abbrev pub HasText : Encoding → List ℕ → Type 0
HasText encoding text = (bytes : List ℕ) × (text_bytes encoding text ≡ Some bytes)

-- a text whose characters all have bytes has bytes
pub text_there : (encoding : Encoding) (text : List ℕ) → NeedsNoHandler encoding text → HasText encoding text
text_there encoding [] all = ([], refl)
text_there encoding (c ∷ text) all =
    let own = some_bytes (own_bytes encoding c) (sym (All-head (HasBytes encoding) c text all).1) in
    let behind = text_there encoding text (All-tail (HasBytes encoding) c text all) in
    (own.0 ++ behind.0, ap (λ (o : Option (List ℕ)). joined_bytes o (text_bytes encoding text)) own.1 ∙ ap (joined_bytes (Some own.0)) behind.1)

-- its characters are those of a text
pub text_scalars : (encoding : Encoding) (text : List ℕ) → NeedsNoHandler encoding text → All IsScalar text
text_scalars encoding [] all = All-nil IsScalar
text_scalars encoding (c ∷ text) all =
    All-cons IsScalar c text (All-head (HasBytes encoding) c text all).0 (text_scalars encoding text (All-tail (HasBytes encoding) c text all))

-- Written as it is.

-- characters of which each is written as itself
each_itself : (spell : ℕ → List ℕ) (text : List ℕ) → All (λ c. spell c ≡ c ∷ []) text → each_spelled spell text ≡ text
each_itself spell [] all = refl
each_itself spell (c ∷ text) all =
    ap (λ (cs : List ℕ). cs ++ each_spelled spell text) (All-head (λ (d : ℕ). spell d ≡ d ∷ []) c text all)
    ∙ ap (λ (cs : List ℕ). c ∷ cs) (each_itself spell text (All-tail (λ (d : ℕ). spell d ≡ d ∷ []) c text all))

written_alone : (newline : Newlines) (c : ℕ) → nat_eq c lf ≡ false → written_as newline c ≡ c ∷ []
written_alone newline c isnt = cond-false (nat_eq c lf) _ (c ∷ []) isnt

-- an LF that is written as itself
written_lf : (c : ℕ) → (if nat_eq c lf then lf ∷ [] else c ∷ []) ≡ c ∷ []
written_lf c = elim (cases_Bool (nat_eq c lf)) [
  | inl is ↦ cond-true (nat_eq c lf) (lf ∷ []) (c ∷ []) is ∙ ap (λ (d : ℕ). d ∷ []) (sym (eqb-true c lf is))
  | inr isnt ↦ cond-false (nat_eq c lf) (lf ∷ []) (c ∷ []) isnt
]

all_written_lf : (text : List ℕ) → All (λ c. (if nat_eq c lf then lf ∷ [] else c ∷ []) ≡ c ∷ []) text
all_written_lf [] = All-nil (λ (c : ℕ). (if nat_eq c lf then lf ∷ [] else c ∷ []) ≡ c ∷ [])
all_written_lf (c ∷ text) = All-cons (λ (d : ℕ). (if nat_eq d lf then lf ∷ [] else d ∷ []) ≡ d ∷ []) c text (written_lf c) (all_written_lf text)

isnt_so : (test : Bool) → not test ≡ true → test ≡ false
isnt_so true is = absurd (cc)
isnt_so false is = refl

-- the first of a text without a character isn't that one, and the rest is without it too
without_first : (character c : ℕ) (text : List ℕ) → is_without character (c ∷ text) ≡ true → (nat_eq c character ≡ false) × (is_without character text ≡ true)
without_first character c text is =
    let parts = and_parts (not (nat_eq c character)) (is_without character text) is in
    (isnt_so (nat_eq c character) parts.0, parts.1)

all_written_alone : (newline : Newlines) (text : List ℕ) → is_without lf text ≡ true → All (λ c. written_as newline c ≡ c ∷ []) text
all_written_alone newline [] is = All-nil (λ (c : ℕ). written_as newline c ≡ c ∷ [])
all_written_alone newline (c ∷ text) is =
    let parts = without_first lf c text is in
    All-cons (λ (d : ℕ). written_as newline d ≡ d ∷ []) c text (written_alone newline c parts.0) (all_written_alone newline text parts.1)

-- a text that a rule keeps is written as it is
pub written_kept : (newline : Newlines) (text : List ℕ) → is_kept newline text ≡ true → written newline text ≡ text
written_kept rule.Universal text is = each_itself (written_as rule.Universal) text (all_written_lf text)
written_kept rule.Passthrough text is = each_itself (written_as rule.Passthrough) text (all_written_lf text)
written_kept rule.Lf text is = each_itself (written_as rule.Lf) text (all_written_lf text)
written_kept rule.Cr text is = each_itself (written_as rule.Cr) text (all_written_alone rule.Cr text is)
written_kept rule.Crlf text is = each_itself (written_as rule.Crlf) text (all_written_alone rule.Crlf text is)

-- Read as it is.

-- the universal rule over a text without CR, and what stands behind it
universal_kept : (text more : List ℕ) → is_without cr text ≡ true → finished false (text ++ more) ≡ text ++ finished false more
universal_kept [] more is = refl
universal_kept (c ∷ text) more is =
    let parts = without_first cr c text is in
    ap (λ (b : Bool). ((if b || false then [] else c ∷ []) ++ universal b (text ++ more)) ++ released (ends_held b (text ++ more))) parts.0
    ∙ ap (λ (cs : List ℕ). c ∷ cs) (universal_kept text more parts.1)

-- a text that a rule keeps is read as it is, and then what stands behind it
pub read_kept : (newline : Newlines) (text more : List ℕ) → is_kept newline text ≡ true → translated newline (text ++ more) ≡ text ++ translated newline more
read_kept rule.Universal text more is = universal_kept text more is
read_kept rule.Passthrough text more is = append_assoc text more []
read_kept rule.Lf text more is = append_assoc text more []
read_kept rule.Cr text more is = append_assoc text more []
read_kept rule.Crlf text more is = append_assoc text more []
