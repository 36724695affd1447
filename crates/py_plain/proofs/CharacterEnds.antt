-- The first line of a text's bytes ends where the first line of its characters does: the bytes of a character past ASCII are no LF and
-- no CR.
use Rattle.std.proofs.Common.{◌≡◌, ℕ, suc, ◌-◌, ◌<◌, ◌≤◌, Bool, true, false, not, nat_eq, ◌&&◌, ◌||◌, if◌then◌else◌, List, [], ◌∷◌, ◌++◌, length, get_or, chars, Result, Ok, Err, encode_utf8_all, refl, sym, ap, inl, inr, ◌∙◌, arith, append-nil}
use Rattle.std.specs.Bool.{⊤}
use Rattle.std.specs.Char.{encode_utf8}
use Rattle.std.specs.Str.{IsUtf8}
use Rattle.std.proofs.lemmas.Bool.{cases_lt}
use Rattle.std.proofs.lemmas.Bool.Decides.{nat_tests}
use Rattle.std.proofs.lemmas.Str.{inside_one, length-encode, len_utf8_bounds, encode_ascii, encodes-chars}
use Rattle.py_flat.specs.Lines.{LineEnd, Lf, Cr, CrLf, AnyEnd, lf, cr, begins_with_lf, line_after, has_end_after}
use Rattle.py_plain.specs.declared.newlines.Newlines.{Newlines}
use Rattle.py_plain.specs.NewlineRule.{line_end, ends_held}
use Rattle.py_plain.specs.FindNewline.{kept_back, byte_place, newline_place}
use Rattle.py_plain.proofs.LineEnds.{here, Passed, neither, line_passed, end_passed, held_behind}

-- bytes past ASCII
abbrev Highs : List ℕ → Type 0
Highs [] = ⊤
Highs (x ∷ xs) = (128 ≤ x) × Highs xs

highs : (xs : List ℕ) → ((k : ℕ) → k < length xs → 128 ≤ get_or xs k 0) → Highs xs
highs [] high = tt
highs (x ∷ xs) high = (high 0 (omega arith), highs xs (λ k less. high (suc k) (omega arith)))

high_bytes : (c : ℕ) → 128 ≤ c → Highs (encode_utf8 c)
high_bytes c above = highs (encode_utf8 c) (λ k less. elim (cases_lt (get_or (encode_utf8 c) k 0) 128) [
  | inl low ↦ absurd (omega (arith, low, above, inside_one c [] (encode_utf8 c) k (sym (append-nil (encode_utf8 c))) less low))
  | inr high ↦ high
])

no_lf : (x : ℕ) → 128 ≤ x → nat_eq x lf ≡ false
no_lf x above = grind (arith, nat_tests)

no_cr : (x : ℕ) → 128 ≤ x → nat_eq x cr ≡ false
no_cr x above = grind (arith, nat_tests)

high_passed : (end : LineEnd) (after_cr : Bool) (xs ys : List ℕ) → Highs xs → Passed end after_cr xs ys
high_passed end after_cr [] ys high = tt
high_passed end after_cr (x ∷ xs) ys high = (neither end after_cr x (xs ++ ys) (no_lf x high.0) (no_cr x high.0), high_passed end (nat_eq x cr) xs ys high.1)

high_held : (held : Bool) (xs : List ℕ) → Highs xs → 1 ≤ length xs → ends_held held xs ≡ false
high_held held [] high some = absurd (omega (arith, some))
high_held held (x ∷ []) high some = no_cr x high.0
high_held held (x ∷ y ∷ ys) high some = high_held (nat_eq x cr) (y ∷ ys) high.1 (omega arith)

high_begins : (xs ys : List ℕ) → Highs xs → 1 ≤ length xs → begins_with_lf (xs ++ ys) ≡ false
high_begins [] ys high some = absurd (omega (arith, some))
high_begins (x ∷ xs) ys high some = no_lf x high.0

some_bytes : (c : ℕ) → 1 ≤ length (encode_utf8 c)
some_bytes c = omega (arith, length-encode c, (len_utf8_bounds c).0)

-- whether a line ends with an element is told by how those behind it begin
here_by_next : (end : LineEnd) (after_cr : Bool) (c : ℕ) (xs ys : List ℕ) → begins_with_lf xs ≡ begins_with_lf ys → here end after_cr c xs ≡ here end after_cr c ys
here_by_next Lf after_cr c xs ys same = refl
here_by_next Cr after_cr c xs ys same = refl
here_by_next CrLf after_cr c xs ys same = refl
here_by_next AnyEnd after_cr c xs ys same = ap (λ (b : Bool). (nat_eq c lf || (nat_eq c cr && not b)) || false) same

begins_same : (cs : List ℕ) → begins_with_lf (encode_utf8_all cs) ≡ begins_with_lf cs
begins_same [] = refl
begins_same (c ∷ cs) = elim (cases_lt c 128) [
  | inl low ↦ ap (λ (t : List ℕ). begins_with_lf (t ++ encode_utf8_all cs)) (encode_ascii c low)
  | inr high ↦ high_begins (encode_utf8 c) (encode_utf8_all cs) (high_bytes c high) (some_bytes c) ∙ sym (no_lf c high)
]

pub held_same : (held : Bool) (cs : List ℕ) → ends_held held (encode_utf8_all cs) ≡ ends_held held cs
held_same held [] = refl
held_same held (c ∷ cs) =
    let first : ends_held held (encode_utf8 c) ≡ nat_eq c cr = elim (cases_lt c 128) [
      | inl low ↦ ap (ends_held held) (encode_ascii c low)
      | inr high ↦ high_held held (encode_utf8 c) (high_bytes c high) (some_bytes c) ∙ sym (no_cr c high)
    ] in
    held_behind held (encode_utf8 c) (encode_utf8_all cs)
    ∙ (ap (λ (b : Bool). ends_held b (encode_utf8_all cs)) first
    ∙ held_same (nat_eq c cr) cs)

-- a line ends in the bytes where one ends in the characters
end_same : (end : LineEnd) (after_cr : Bool) (cs : List ℕ) → has_end_after end after_cr (encode_utf8_all cs) ≡ has_end_after end after_cr cs
end_same end after_cr [] = refl
end_same end after_cr (c ∷ cs) = elim (cases_lt c 128) [
  | inl low ↦
      ap (λ (t : List ℕ). has_end_after end after_cr (t ++ encode_utf8_all cs)) (encode_ascii c low)
      ∙ (ap (λ (b : Bool). b || has_end_after end (nat_eq c cr) (encode_utf8_all cs)) (here_by_next end after_cr c (encode_utf8_all cs) cs (begins_same cs))
      ∙ ap (λ (b : Bool). here end after_cr c cs || b) (end_same end (nat_eq c cr) cs))
  | inr high ↦
      end_passed end after_cr (encode_utf8 c) (encode_utf8_all cs) (high_passed end after_cr (encode_utf8 c) (encode_utf8_all cs) (high_bytes c high))
      ∙ (ap (λ (b : Bool). has_end_after end b (encode_utf8_all cs)) (high_held after_cr (encode_utf8 c) (high_bytes c high) (some_bytes c) ∙ sym (no_cr c high))
      ∙ (end_same end (nat_eq c cr) cs
      ∙ ap (λ (b : Bool). b || has_end_after end (nat_eq c cr) cs) (sym (neither end after_cr c cs (no_lf c high) (no_cr c high)))))
]

-- and the bytes of the line are the line of the bytes
rest_of_line : (b : Bool) (line same : List ℕ) → line ≡ encode_utf8_all same → (if b then [] else line) ≡ encode_utf8_all (if b then [] else same)
rest_of_line true line same is = refl
rest_of_line false line same is = is

line_same : (end : LineEnd) (after_cr : Bool) (cs : List ℕ) → line_after end after_cr (encode_utf8_all cs) ≡ encode_utf8_all (line_after end after_cr cs)
line_same end after_cr [] = refl
line_same end after_cr (c ∷ cs) = elim (cases_lt c 128) [
  | inl low ↦
      let rest : List ℕ = line_after end (nat_eq c cr) (encode_utf8_all cs) in
      ap (λ (t : List ℕ). line_after end after_cr (t ++ encode_utf8_all cs)) (encode_ascii c low)
      ∙ (ap (λ (b : Bool). c ∷ (if b then [] else rest)) (here_by_next end after_cr c (encode_utf8_all cs) cs (begins_same cs))
      ∙ (ap (λ (t : List ℕ). c ∷ t) (rest_of_line (here end after_cr c cs) rest (line_after end (nat_eq c cr) cs) (line_same end (nat_eq c cr) cs))
      ∙ ap (λ (t : List ℕ). t ++ encode_utf8_all (if here end after_cr c cs then [] else line_after end (nat_eq c cr) cs)) (sym (encode_ascii c low))))
  | inr high ↦
      line_passed end after_cr (encode_utf8 c) (encode_utf8_all cs) (high_passed end after_cr (encode_utf8 c) (encode_utf8_all cs) (high_bytes c high))
      ∙ (ap (λ (b : Bool). encode_utf8 c ++ line_after end b (encode_utf8_all cs)) (high_held after_cr (encode_utf8 c) (high_bytes c high) (some_bytes c) ∙ sym (no_cr c high))
      ∙ (ap (λ (t : List ℕ). encode_utf8 c ++ t) (line_same end (nat_eq c cr) cs)
      ∙ ap (λ (b : Bool). encode_utf8 c ++ encode_utf8_all (if b then [] else line_after end (nat_eq c cr) cs)) (sym (neither end after_cr c cs (no_lf c high) (no_cr c high)))))
]

kept_same : (end : LineEnd) (cs : List ℕ) → kept_back end (encode_utf8_all cs) ≡ kept_back end cs
kept_same Lf cs = refl
kept_same Cr cs = refl
kept_same CrLf cs = ap (λ (b : Bool). if b then 1 else 0) (held_same false cs)
kept_same AnyEnd cs = refl

-- the place in the bytes of a text is that of its characters
place_same : (rule : Newlines) (cs : List ℕ) → byte_place (line_end rule) (encode_utf8_all cs) ≡ newline_place rule cs
place_same rule cs =
    let end : LineEnd = line_end rule in
    let bytes : List ℕ = encode_utf8_all cs in
    ap (λ (b : Bool). if b then Ok (length (line_after end false bytes)) else Err (length bytes - kept_back end bytes)) (end_same end false cs)
    ∙ (ap (λ (t : List ℕ). if has_end_after end false cs then Ok (length t) else Err (length bytes - kept_back end bytes)) (line_same end false cs)
    ∙ ap (λ (n : ℕ). if has_end_after end false cs then Ok (length (encode_utf8_all (line_after end false cs))) else Err (length bytes - n)) (kept_same end cs))

pub place_of_text : (rule : Newlines) (text bytes : List ℕ) → IsUtf8 text → bytes ≡ text → byte_place (line_end rule) bytes ≡ newline_place rule (chars text)
place_of_text rule text bytes utf8 are = ap (byte_place (line_end rule)) (are ∙ sym (encodes-chars text utf8)) ∙ place_same rule (chars text)

pub place_by : (shown rule : Newlines) (text bytes : List ℕ) (result : Result ℕ ℕ) → shown ≡ rule → IsUtf8 text → bytes ≡ text → result ≡ byte_place (line_end rule) bytes → result ≡ newline_place shown (chars text)
place_by shown rule text bytes result is utf8 are found = found ∙ (place_of_text rule text bytes utf8 are ∙ ap (λ (r : Newlines). newline_place r (chars text)) (sym is))
