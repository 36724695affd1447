-- What stands for a refused range has no line end, and an item has at most four bytes.
use Rattle.std.proofs.Common.{refl, ◌∙◌, ap, ◌≡◌, ◌⊎◌, inl, inr, ℕ, zero, suc, ◌+◌, ◌≤◌, ◌*◌, ◌/◌, ◌%◌, ◌==◌, Bool, true, false, nat_eq, nat_lt, List, [], ◌∷◌, ◌++◌, length as len, take, codes, Option, Some, None, IfSome, if◌then◌else◌, subst, arith}
use Rattle.std.specs.Bool.{⊤}
use Rattle.std.proofs.lemmas.List.{length-append, length-take}
use Rattle.std.specs.Fmt.{decimal, digits, digits_onto, digit_glyph}
use Rattle.py_plain.specs.declared.encoding.Encoding.{Encoding}
use Rattle.py_plain.specs.declared.encoding.Encoding.TheVariants.{Utf8, Latin1, Ascii, Utf16Le, Utf16Be}
use Rattle.py_plain.specs.declared.handler.Handler.{Handler}
use Rattle.py_plain.specs.declared.handler.Handler.TheVariants.{Strict, Ignore, Replace, XmlCharRefReplace, BackslashReplace, SurrogatePass, SurrogateEscape}
use Rattle.py_plain.specs.declared.unit.Unit.{Unit as Read}
use Rattle.py_plain.specs.declared.unit.Unit.TheVariants.{Character, Malformed, Cut}
use Rattle.py_plain.specs.Utf8.{unit_after, lead}
use Rattle.py_plain.specs.Utf16.{is_high, is_low, code_unit, joined, behind_high, unit_of, utf16_unit}
use Rattle.py_plain.specs.OneByte.{is_ascii}
use Rattle.py_plain.specs.Units.{Order, first_unit}
use Rattle.py_plain.specs.UnitLaws.{IsUtf8Long, IsWithin}
use Rattle.py_plain.specs.Escapes.{hex_digit, hex_digits, backslash_escape, surrogate_escape, each_spelled}
use Rattle.py_plain.specs.Handlers.{Replaced, treatment, escaped, front_past_ascii, reads_texts}
use Rattle.py_plain.specs.Items.{Given, item_of, first_item}
use Rattle.py_plain.proofs.Items.{handled_given}
use Rattle.py_plain.proofs.UnitLaws.{unit_uses}
use Rattle.py_plain.proofs.AnyUnits.{unit_within_any}
use Rattle.py_plain.proofs.Looking.{front_within, reading, using}

-- characters of which none is an LF or a CR
abbrev pub Unbroken : List ℕ → Type 0
Unbroken [] = ⊤
Unbroken (c ∷ cs) = (14 ≤ c) × Unbroken cs

unbroken_both : (xs ys : List ℕ) → Unbroken xs → Unbroken ys → Unbroken (xs ++ ys)
unbroken_both [] ys first second = second
unbroken_both (x ∷ xs) ys first second = (first.0, unbroken_both xs ys first.1 second)

either_way : {A : Type 0} (P : A → Type 0) (test : Bool) (x y : A) → P x → P y → P (if test then x else y)
either_way P true x y first second = first
either_way P false x y first second = second

hex_unbroken : (count value : ℕ) → Unbroken (hex_digits count value)
hex_unbroken zero value = tt
hex_unbroken (suc count) value =
    unbroken_both (hex_digits count (value / 16)) (hex_digit (value % 16) ∷ []) (hex_unbroken count (value / 16))
    (either_way (λ (n : ℕ). 14 ≤ n) (nat_lt (value % 16) 10) (0x30 + value % 16) (0x57 + value % 16) (omega arith) (omega arith), tt)

backslash_unbroken : (value : ℕ) → Unbroken (backslash_escape value)
backslash_unbroken value =
    either_way Unbroken (nat_lt value 0x100) (codes "\\x" ++ hex_digits 2 value) (if nat_lt value 0x10000 then codes "\\u" ++ hex_digits 4 value else codes "\\U" ++ hex_digits 8 value)
    (unbroken_both (codes "\\x") (hex_digits 2 value) (omega arith, (omega arith, tt)) (hex_unbroken 2 value))
    (either_way Unbroken (nat_lt value 0x10000) (codes "\\u" ++ hex_digits 4 value) (codes "\\U" ++ hex_digits 8 value)
    (unbroken_both (codes "\\u") (hex_digits 4 value) (omega arith, (omega arith, tt)) (hex_unbroken 4 value))
    (unbroken_both (codes "\\U") (hex_digits 8 value) (omega arith, (omega arith, tt)) (hex_unbroken 8 value)))

digits_unbroken : (count n : ℕ) (behind : List ℕ) → Unbroken behind → Unbroken (digits_onto count 10 false n behind)
digits_unbroken zero n behind known = known
digits_unbroken (suc count) n behind known =
    let glyph : ℕ = digit_glyph false (n % 10) in
    let onto : Unbroken (glyph ∷ behind) = (either_way (λ (k : ℕ). 14 ≤ k) (nat_lt (n % 10) 10) (48 + n % 10) (87 + n % 10) (omega arith) (omega arith), known) in
    either_way Unbroken (n / 10 == 0) (glyph ∷ behind) (digits_onto count 10 false (n / 10) (glyph ∷ behind)) onto (digits_unbroken count (n / 10) (glyph ∷ behind) onto)

decimal_unbroken : (n : ℕ) → Unbroken (decimal n)
unfolding digits
decimal_unbroken n = digits_unbroken 64 n [] tt

surrogate_unbroken : (byte : ℕ) → Unbroken (surrogate_escape byte)
surrogate_unbroken byte = (omega arith, decimal_unbroken (0xDC00 + byte))

each_unbroken : (spell : ℕ → List ℕ) → ((value : ℕ) → Unbroken (spell value)) → (values : List ℕ) → Unbroken (each_spelled spell values)
each_unbroken spell known [] = tt
each_unbroken spell known (value ∷ values) = unbroken_both (spell value) (each_spelled spell values) (known value) (each_unbroken spell known values)

escaped_unbroken : (bytes characters : List ℕ) (used : ℕ) → escaped bytes ≡ Replaced characters used → Unbroken characters
escaped_unbroken [] characters used is = absurd (cc)
escaped_unbroken (byte ∷ rest) characters used is =
    let same : each_spelled surrogate_escape (byte ∷ rest) ≡ characters = cc in
    subst Unbroken same (each_unbroken surrogate_escape surrogate_unbroken (byte ∷ rest))

-- what stands for a refused range
replaced_unbroken : (handler : Handler) (encoding : Encoding) (place size : ℕ) (rest characters : List ℕ) (used : ℕ) → reads_texts handler ≡ true → treatment handler encoding place rest size ≡ Replaced characters used → Unbroken characters
replaced_unbroken Strict encoding place size rest characters used reads is = absurd (cc)
replaced_unbroken Ignore encoding place size rest characters used reads is = let same : [] ≡ characters = cc in subst Unbroken same tt
replaced_unbroken Replace encoding place size rest characters used reads is = let same : 0xFFFD ∷ [] ≡ characters = cc in subst Unbroken same (omega arith, tt)
replaced_unbroken XmlCharRefReplace encoding place size rest characters used reads is = absurd (cc)
replaced_unbroken BackslashReplace encoding place size rest characters used reads is =
    let same : each_spelled backslash_escape (take size rest) ≡ characters = cc in
    subst Unbroken same (each_unbroken backslash_escape backslash_unbroken (take size rest))
replaced_unbroken SurrogatePass encoding place size rest characters used reads is = absurd (cc)
replaced_unbroken SurrogateEscape encoding place size rest characters used reads is = escaped_unbroken (front_past_ascii (take size rest)) characters used is

-- And how long it is.

pub hex_long : (count value : ℕ) → len (hex_digits count value) ≡ count
hex_long zero value = refl
hex_long (suc count) value =
    let more : len (hex_digits count (value / 16)) ≡ count = hex_long count (value / 16) in
    length-append (hex_digits count (value / 16)) (hex_digit (value % 16) ∷ []) ∙ omega (arith, more)

pub backslash_short : (value : ℕ) → len (backslash_escape value) ≤ 65
backslash_short value =
    either_way (λ (t : List ℕ). len t ≤ 65) (nat_lt value 0x100) (codes "\\x" ++ hex_digits 2 value) (if nat_lt value 0x10000 then codes "\\u" ++ hex_digits 4 value else codes "\\U" ++ hex_digits 8 value)
    (omega (arith, hex_long 2 value))
    (either_way (λ (t : List ℕ). len t ≤ 65) (nat_lt value 0x10000) (codes "\\u" ++ hex_digits 4 value) (codes "\\U" ++ hex_digits 8 value) (omega (arith, hex_long 4 value)) (omega (arith, hex_long 8 value)))

digits_short : (count n : ℕ) (behind : List ℕ) → len (digits_onto count 10 false n behind) ≤ count + len behind
digits_short zero n behind = omega arith
digits_short (suc count) n behind =
    let glyph : ℕ = digit_glyph false (n % 10) in
    let more : len (digits_onto count 10 false (n / 10) (glyph ∷ behind)) ≤ count + len (glyph ∷ behind) = digits_short count (n / 10) (glyph ∷ behind) in
    either_way (λ (t : List ℕ). len t ≤ suc count + len behind) (n / 10 == 0) (glyph ∷ behind) (digits_onto count 10 false (n / 10) (glyph ∷ behind)) (omega arith) (omega (arith, more))

decimal_short : (n : ℕ) → len (decimal n) ≤ 64
unfolding digits
decimal_short n = let all : len (digits_onto 64 10 false n []) ≤ 64 + len {A = ℕ} [] = digits_short 64 n [] in omega (arith, all)

pub surrogate_short : (byte : ℕ) → len (surrogate_escape byte) ≤ 65
surrogate_short byte = omega (arith, decimal_short (0xDC00 + byte))

pub each_short : (spell : ℕ → List ℕ) → ((value : ℕ) → len (spell value) ≤ 65) → (values : List ℕ) → len (each_spelled spell values) ≤ 65 * len values
each_short spell short [] = omega arith
each_short spell short (value ∷ values) = omega (arith, short value, each_short spell short values, length-append (spell value) (each_spelled spell values))

escaped_short : (bytes characters : List ℕ) (used : ℕ) → len bytes ≤ 4 → escaped bytes ≡ Replaced characters used → len characters ≤ 260
escaped_short [] characters used few is = absurd (cc)
escaped_short (byte ∷ rest) characters used few is =
    let same : each_spelled surrogate_escape (byte ∷ rest) ≡ characters = cc in
    subst (λ (t : List ℕ). len t ≤ 260) same (omega (arith, few, each_short surrogate_escape surrogate_short (byte ∷ rest)))

pub replaced_short : (handler : Handler) (encoding : Encoding) (place size : ℕ) (rest characters : List ℕ) (used : ℕ) → reads_texts handler ≡ true → size ≤ 4 → treatment handler encoding place rest size ≡ Replaced characters used → len characters ≤ 260
replaced_short Strict encoding place size rest characters used reads few is = absurd (cc)
replaced_short Ignore encoding place size rest characters used reads few is = let same : [] ≡ characters = cc in subst (λ (t : List ℕ). len t ≤ 260) same (omega arith)
replaced_short Replace encoding place size rest characters used reads few is = let same : 0xFFFD ∷ [] ≡ characters = cc in subst (λ (t : List ℕ). len t ≤ 260) same (omega arith)
replaced_short XmlCharRefReplace encoding place size rest characters used reads few is = absurd (cc)
replaced_short BackslashReplace encoding place size rest characters used reads few is =
    let same : each_spelled backslash_escape (take size rest) ≡ characters = cc in
    let less : len (take size rest) ≤ 4 = omega (arith, few, length-take size rest) in
    subst (λ (t : List ℕ). len t ≤ 260) same (omega (arith, less, each_short backslash_escape backslash_short (take size rest)))
replaced_short SurrogatePass encoding place size rest characters used reads few is = absurd (cc)
replaced_short SurrogateEscape encoding place size rest characters used reads few is =
    escaped_short (front_past_ascii (take size rest)) characters used (omega (arith, few, length-take size rest, front_within (take size rest))) is

-- A unit has at most four bytes.

abbrev pub IsSmall : Read → Type 0
IsSmall (Character c n) = n ≤ 4
IsSmall (Malformed n) = n ≤ 4
IsSmall (Cut n) = n ≤ 4

long_small : (unit : Read) (left : ℕ) → IsUtf8Long unit left → IsSmall unit
long_small (Character c n) left long = long.1
long_small (Malformed n) left long = omega (arith, long.1)
long_small (Cut n) left long = omega (arith, long.1)

high_small : (big : Bool) (high : ℕ) (rest : List ℕ) → IsSmall (behind_high big high rest)
high_small big high [] = omega arith
high_small big high (first ∷ []) = omega arith
high_small big high (first ∷ second ∷ rest) =
    either_way IsSmall (is_low (code_unit big first second)) (Character (joined high (code_unit big first second)) 4) (Malformed 2) (omega arith) (omega arith)

two_small : (big : Bool) (unit : ℕ) (rest : List ℕ) → IsSmall (unit_of big unit rest)
two_small big unit rest =
    either_way IsSmall (is_high unit) (behind_high big unit rest) (if is_low unit then Malformed 2 else Character unit 2) (high_small big unit rest)
    (either_way IsSmall (is_low unit) (Malformed 2) (Character unit 2) (omega arith) (omega arith))

utf16_small : (big : Bool) (bytes : List ℕ) → IfSome (utf16_unit big bytes) IsSmall
utf16_small big [] = tt
utf16_small big (first ∷ []) = omega arith
utf16_small big (first ∷ second ∷ rest) = two_small big (code_unit big first second) rest

pub unit_small : (encoding : Encoding) (order : Order) (at_start : Bool) (bytes : List ℕ) → IfSome (first_unit encoding order at_start bytes) IsSmall
unit_small Utf8 order at_start [] = tt
unit_small Utf8 order at_start (byte ∷ rest) = long_small (unit_after byte (lead byte) rest) (len (byte ∷ rest)) (unit_uses byte rest)
unit_small Latin1 order at_start [] = tt
unit_small Latin1 order at_start (byte ∷ rest) = omega arith
unit_small Ascii order at_start [] = tt
unit_small Ascii order at_start (byte ∷ rest) = either_way IsSmall (is_ascii byte) (Character byte 1) (Malformed 1) (omega arith) (omega arith)
unit_small Utf16Le order at_start bytes = utf16_small false bytes
unit_small Utf16Be order at_start bytes = utf16_small true bytes

-- Items.

-- an item of so many bytes that are left has one to four of them, and one character, or such as stand for a refused range
pub record IsItem (left : ℕ) (characters : List ℕ) (used : ℕ) : Type 0 where
  pub some : 1 ≤ used
  pub small : used ≤ 4
  pub within : used ≤ left
  pub short : len characters ≤ 260
  pub kind : ((c : ℕ) × (characters ≡ c ∷ [])) ⊎ Unbroken characters

range_item : (handler : Handler) (encoding : Encoding) → reads_texts handler ≡ true → (place left size : ℕ) (rest characters : List ℕ) (used : ℕ) → 1 ≤ size → size ≤ left → size ≤ 4 → treatment handler encoding place rest size ≡ Replaced characters used → IsItem left characters used
range_item handler encoding reads place left size rest characters used some within small is =
    let shorter : used ≤ size = (reading handler encoding reads).within place size rest characters used is in
    record {
      some = (using handler encoding reads).some place size rest characters used some is;
      small = omega (arith, shorter, small);
      within = omega (arith, shorter, within);
      short = replaced_short handler encoding place size rest characters used reads small is;
      kind = inr (replaced_unbroken handler encoding place size rest characters used reads is);
    }

unit_item : (handler : Handler) (encoding : Encoding) → reads_texts handler ≡ true → (place left : ℕ) (rest characters : List ℕ) (used : ℕ) (unit : Option Read) → IfSome unit (λ u. IsWithin u left) → IfSome unit IsSmall → item_of (treatment handler encoding) true place rest unit ≡ Given characters used → IsItem left characters used
unit_item handler encoding reads place left rest characters used None within small is = absurd (cc)
unit_item handler encoding reads place left rest characters used (Some (Character c n)) within small is =
    let same : n ≡ used = cc in
    let alone : characters ≡ c ∷ [] = cc in
    record { some = omega (arith, same, within.0); small = omega (arith, same, small); within = omega (arith, same, within.1); short = omega (arith, ap len alone); kind = inl (c, alone) }
unit_item handler encoding reads place left rest characters used (Some (Malformed n)) within small is =
    range_item handler encoding reads place left n rest characters used within.0 within.1 small (handled_given n (treatment handler encoding place rest n) characters used is)
unit_item handler encoding reads place left rest characters used (Some (Cut n)) within small is =
    range_item handler encoding reads place left n rest characters used within.0 (omega (arith, within.1)) small (handled_given n (treatment handler encoding place rest n) characters used is)

-- what stands first of some bytes
pub first_is_item : (handler : Handler) (encoding : Encoding) → reads_texts handler ≡ true → (order : Order) (place : ℕ) (rest characters : List ℕ) (used : ℕ) → first_item encoding (treatment handler encoding) true order place rest ≡ Given characters used → IsItem (len rest) characters used
first_is_item handler encoding reads order place rest characters used is =
    unit_item handler encoding reads place (len rest) rest characters used (first_unit encoding order (nat_eq place 0) rest) (unit_within_any encoding order (nat_eq place 0) rest) (unit_small encoding order (nat_eq place 0) rest) is
