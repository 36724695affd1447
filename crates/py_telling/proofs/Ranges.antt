-- What stands for a refused range, and how few bytes that has.
use Rattle.std.proofs.Common.{◌≡◌, ℕ, zero, suc, ◌+◌, ◌*◌, ◌/◌, ◌%◌, ◌<◌, ◌≤◌, ◌==◌, Bool, true, false, nat_eq, nat_lt, if◌then◌else◌, List, [], ◌∷◌, ◌++◌, length as len, get_or, take, codes, Some, refl, ap, subst, ◌∙◌, arith, Option, None, encode_utf8_all}
use Rattle.std.specs.Bool.{⊤}
use Rattle.std.specs.Char.{encode_utf8}
use Rattle.std.specs.Fmt.{decimal, digits, digits_onto, digit_glyph}
use Rattle.std.proofs.lemmas.Bool.{lt-ltb, cond-true, cond-false}
use Rattle.std.proofs.lemmas.Bool.Decides.{nat_tests}
use Rattle.std.proofs.lemmas.List.{length-append}
use Rattle.std.proofs.lemmas.Str.{encode_ascii}
use Rattle.py_plain.specs.declared.encoding.Encoding.{Encoding}
use Rattle.py_plain.specs.declared.handler.Handler.{Handler}
use Rattle.py_plain.specs.declared.handler.Handler.TheVariants.{Strict, Ignore, Replace, XmlCharRefReplace, BackslashReplace, SurrogatePass, SurrogateEscape}
use Rattle.py_plain.specs.declared.unit.Unit.{Unit as Read}
use Rattle.py_plain.specs.declared.unit.Unit.TheVariants.{Character, Malformed, Cut}
use Rattle.py_plain.specs.UnitLaws.{IsWithin}
use Rattle.py_plain.specs.Units.{Order, Unknown, first_unit}
use Rattle.py_plain.specs.Escapes.{hex_digit, hex_digits, backslash_escape, surrogate_escape, each_spelled}
use Rattle.py_plain.specs.Handlers.{Replaced, escaped, front_past_ascii, treatment, reads_texts}
use Rattle.py_plain.specs.Items.{Given, item_handled, item_of, first_item}
use Rattle.py_plain.proofs.Items.{handled_given}
use Rattle.py_plain_text.proofs.Unbroken.{first_is_item}
use Rattle.py_telling.specs.declared.seen_item.SeenItem.TheVariants as seen
use Rattle.py_telling.specs.Seen.{HaveNoLineEnd, AreAscii, StandFor, IsFewIn, Shows}

-- Characters of an escape.

-- ASCII characters of which none is a line end
abbrev pub Signs : List ℕ → Type 0
Signs [] = ⊤
Signs (c ∷ cs) = (14 ≤ c) × (c < 0x80) × Signs cs

signs_both : (xs ys : List ℕ) → Signs xs → Signs ys → Signs (xs ++ ys)
signs_both [] ys first second = second
signs_both (x ∷ xs) ys first second = (first.0, first.1, signs_both xs ys first.2 second)

either_way : {A : Type 0} (P : A → Type 0) (test : Bool) (x y : A) → P x → P y → P (if test then x else y)
either_way P true x y first second = first
either_way P false x y first second = second

hex_sign : (value : ℕ) → Signs (hex_digit (value % 16) ∷ [])
hex_sign value = either_way (λ (c : ℕ). Signs (c ∷ [])) (nat_lt (value % 16) 10) (0x30 + value % 16) (0x57 + value % 16) (omega arith, omega arith, tt) (omega arith, omega arith, tt)

hex_signs : (count value : ℕ) → Signs (hex_digits count value)
hex_signs zero value = tt
hex_signs (suc count) value = signs_both (hex_digits count (value / 16)) (hex_digit (value % 16) ∷ []) (hex_signs count (value / 16)) (hex_sign value)

hex_long : (count value : ℕ) → len (hex_digits count value) ≡ count
hex_long zero value = refl
hex_long (suc count) value =
    let more : len (hex_digits count (value / 16)) ≡ count = hex_long count (value / 16) in
    length-append (hex_digits count (value / 16)) (hex_digit (value % 16) ∷ []) ∙ omega (arith, more)

backslash_signs : (value : ℕ) → Signs (backslash_escape value)
backslash_signs value =
    either_way Signs (nat_lt value 0x100) (codes "\\x" ++ hex_digits 2 value) (if nat_lt value 0x10000 then codes "\\u" ++ hex_digits 4 value else codes "\\U" ++ hex_digits 8 value)
    (signs_both (codes "\\x") (hex_digits 2 value) (omega arith, omega arith, (omega arith, omega arith, tt)) (hex_signs 2 value))
    (either_way Signs (nat_lt value 0x10000) (codes "\\u" ++ hex_digits 4 value) (codes "\\U" ++ hex_digits 8 value)
    (signs_both (codes "\\u") (hex_digits 4 value) (omega arith, omega arith, (omega arith, omega arith, tt)) (hex_signs 4 value))
    (signs_both (codes "\\U") (hex_digits 8 value) (omega arith, omega arith, (omega arith, omega arith, tt)) (hex_signs 8 value)))

backslash_long : (byte : ℕ) → byte < 0x100 → len (backslash_escape byte) ≡ 4
backslash_long byte below =
    let two : List ℕ = codes "\\x" ++ hex_digits 2 byte in
    ap len (cond-true (nat_lt byte 0x100) two (if nat_lt byte 0x10000 then codes "\\u" ++ hex_digits 4 byte else codes "\\U" ++ hex_digits 8 byte) (lt-ltb byte 0x100 below))
    ∙ omega (arith, hex_long 2 byte)

digit_sign : (n : ℕ) (behind : List ℕ) → Signs behind → Signs (digit_glyph false (n % 10) ∷ behind)
digit_sign n behind known = either_way (λ (c : ℕ). Signs (c ∷ behind)) (nat_lt (n % 10) 10) (48 + n % 10) (87 + n % 10) (omega arith, omega arith, known) (omega arith, omega arith, known)

digits_signs : (count n : ℕ) (behind : List ℕ) → Signs behind → Signs (digits_onto count 10 false n behind)
digits_signs zero n behind known = known
digits_signs (suc count) n behind known =
    let onto : List ℕ = digit_glyph false (n % 10) ∷ behind in
    either_way Signs (n / 10 == 0) onto (digits_onto count 10 false (n / 10) onto) (digit_sign n behind known) (digits_signs count (n / 10) onto (digit_sign n behind known))

digits_more : (count n : ℕ) (behind : List ℕ) → 10 ≤ n → digits_onto (suc count) 10 false n behind ≡ digits_onto count 10 false (n / 10) (digit_glyph false (n % 10) ∷ behind)
digits_more count n behind long =
    let isnt : n / 10 == 0 ≡ false = grind (arith, nat_tests) in
    cond-false (n / 10 == 0) (digit_glyph false (n % 10) ∷ behind) (digits_onto count 10 false (n / 10) (digit_glyph false (n % 10) ∷ behind)) isnt

digits_last : (count n : ℕ) (behind : List ℕ) → n < 10 → digits_onto (suc count) 10 false n behind ≡ digit_glyph false (n % 10) ∷ behind
digits_last count n behind short =
    let is : n / 10 == 0 ≡ true = grind (arith, nat_tests) in
    cond-true (n / 10 == 0) (digit_glyph false (n % 10) ∷ behind) (digits_onto count 10 false (n / 10) (digit_glyph false (n % 10) ∷ behind)) is

-- a number of five digits
five_digits : (n : ℕ) → 10000 ≤ n → n < 100000 → len (digits_onto 64 10 false n []) ≡ 5
five_digits n from to =
    let ones : List ℕ = digit_glyph false (n % 10) ∷ [] in
    let tens : List ℕ = digit_glyph false (n / 10 % 10) ∷ ones in
    let hundreds : List ℕ = digit_glyph false (n / 10 / 10 % 10) ∷ tens in
    let thousands : List ℕ = digit_glyph false (n / 10 / 10 / 10 % 10) ∷ hundreds in
    ap len (
    digits_more 63 n [] (omega arith)
    ∙ (digits_more 62 (n / 10) ones (omega arith)
    ∙ (digits_more 61 (n / 10 / 10) tens (omega arith)
    ∙ (digits_more 60 (n / 10 / 10 / 10) hundreds (omega arith)
    ∙ digits_last 59 (n / 10 / 10 / 10 / 10) thousands (omega arith)))))

decimal_signs : (n : ℕ) → Signs (decimal n)
unfolding digits
decimal_signs n = digits_signs 64 n [] tt

decimal_long : (n : ℕ) → 10000 ≤ n → n < 100000 → len (decimal n) ≡ 5
unfolding digits
decimal_long n from to = five_digits n from to

surrogate_signs : (value : ℕ) → Signs (surrogate_escape value)
surrogate_signs value = (omega arith, omega arith, decimal_signs (0xDC00 + value))

surrogate_long : (byte : ℕ) → byte < 0x100 → len (surrogate_escape byte) ≡ 6
surrogate_long byte below = omega (arith, decimal_long (0xDC00 + byte) (omega arith) (omega arith))

each_signs : (spell : ℕ → List ℕ) → ((value : ℕ) → Signs (spell value)) → (values : List ℕ) → Signs (each_spelled spell values)
each_signs spell known [] = tt
each_signs spell known (value ∷ values) = signs_both (spell value) (each_spelled spell values) (known value) (each_signs spell known values)

-- Ranges.

-- numbers that are bytes
abbrev pub EachIsByte : List ℕ → Type 0
EachIsByte bytes = (at : ℕ) → get_or bytes at 0 < 0x100

backslashes_long : (bytes : List ℕ) → EachIsByte bytes → len (each_spelled backslash_escape bytes) ≡ 4 * len bytes
backslashes_long [] each = refl
backslashes_long (byte ∷ bytes) each =
    length-append (backslash_escape byte) (each_spelled backslash_escape bytes) ∙ omega (arith, backslash_long byte (each 0), backslashes_long bytes (λ at. each (suc at)))

surrogates_long : (bytes : List ℕ) → EachIsByte bytes → len (each_spelled surrogate_escape bytes) ≡ 6 * len bytes
surrogates_long [] each = refl
surrogates_long (byte ∷ bytes) each =
    length-append (surrogate_escape byte) (each_spelled surrogate_escape bytes) ∙ omega (arith, surrogate_long byte (each 0), surrogates_long bytes (λ at. each (suc at)))

no_line_end : (cs : List ℕ) → Signs cs → HaveNoLineEnd cs
no_line_end [] signs = tt
no_line_end (c ∷ cs) signs = (λ is. omega (arith, signs.0, is), λ is. omega (arith, signs.0, is), no_line_end cs signs.2)

all_ascii : (cs : List ℕ) → Signs cs → AreAscii cs
all_ascii [] signs = tt
all_ascii (c ∷ cs) signs = (signs.1, all_ascii cs signs.2)

signs_stand : (count : ℕ) (cs : List ℕ) → len cs ≡ count → Signs cs → StandFor count cs
signs_stand count cs long signs = record { long = long; unbroken = no_line_end cs signs; ascii = λ more. all_ascii cs signs }

-- a front of bytes
pub each_taken : (size : ℕ) (bytes : List ℕ) → EachIsByte bytes → EachIsByte (take size bytes)
each_taken zero bytes each at = omega arith
each_taken (suc size) [] each at = omega arith
each_taken (suc size) (byte ∷ bytes) each zero = each 0
each_taken (suc size) (byte ∷ bytes) each (suc at) = each_taken size bytes (λ k. each (suc k)) at

pub none_stand : StandFor 0 []
none_stand = record { long = refl; unbroken = tt; ascii = λ more. tt }

pub mark_stands : StandFor 1 (0xFFFD ∷ [])
mark_stands = record { long = refl; unbroken = (λ is. omega (arith, is), λ is. omega (arith, is), tt); ascii = λ more. absurd (omega (arith, more)) }

pub backslashes_stand : (bytes : List ℕ) (size : ℕ) → len bytes ≡ size → EachIsByte bytes → StandFor (4 * size) (each_spelled backslash_escape bytes)
backslashes_stand bytes size long each = signs_stand (4 * size) (each_spelled backslash_escape bytes) (backslashes_long bytes each ∙ omega (arith, long)) (each_signs backslash_escape backslash_signs bytes)

-- the front of a range before its first ASCII byte
pub escaped_shown : (size : ℕ) (front : List ℕ) (used : ℕ) → len front ≡ used → 1 ≤ used → EachIsByte front → Shows (item_handled size (escaped front)) (seen.Replaced (6 * used) used)
escaped_shown size [] used long some each = absurd (omega (arith, long, some))
escaped_shown size (byte ∷ bytes) used long some each = (signs_stand (6 * used) (each_spelled surrogate_escape (byte ∷ bytes)) (surrogates_long (byte ∷ bytes) each ∙ omega (arith, long)) (each_signs surrogate_escape surrogate_signs (byte ∷ bytes)), long)

-- Items.

escaped_signs : (bytes characters : List ℕ) (used : ℕ) → escaped bytes ≡ Replaced characters used → Signs characters
escaped_signs [] characters used is = absurd (cc)
escaped_signs (byte ∷ rest) characters used is =
    let same : each_spelled surrogate_escape (byte ∷ rest) ≡ characters = cc in
    subst Signs same (each_signs surrogate_escape surrogate_signs (byte ∷ rest))

-- more than one character that stand for a range
treated_signs : (handler : Handler) (encoding : Encoding) (place size : ℕ) (rest characters : List ℕ) (used : ℕ) → reads_texts handler ≡ true → 2 ≤ len characters → treatment handler encoding place rest size ≡ Replaced characters used → Signs characters
treated_signs Strict encoding place size rest characters used reads more is = absurd (cc)
treated_signs Ignore encoding place size rest characters used reads more is = let same : [] ≡ characters = cc in absurd (omega (arith, more, ap len same))
treated_signs Replace encoding place size rest characters used reads more is = let same : 0xFFFD ∷ [] ≡ characters = cc in absurd (omega (arith, more, ap len same))
treated_signs XmlCharRefReplace encoding place size rest characters used reads more is = absurd (cc)
treated_signs BackslashReplace encoding place size rest characters used reads more is =
    let same : each_spelled backslash_escape (take size rest) ≡ characters = cc in
    subst Signs same (each_signs backslash_escape backslash_signs (take size rest))
treated_signs SurrogatePass encoding place size rest characters used reads more is = absurd (cc)
treated_signs SurrogateEscape encoding place size rest characters used reads more is = escaped_signs (front_past_ascii (take size rest)) characters used is

unit_signs : (handler : Handler) (encoding : Encoding) → reads_texts handler ≡ true → (place : ℕ) (rest characters : List ℕ) (used : ℕ) (unit : Option Read) → 2 ≤ len characters → item_of (treatment handler encoding) true place rest unit ≡ Given characters used → Signs characters
unit_signs handler encoding reads place rest characters used None more is = absurd (cc)
unit_signs handler encoding reads place rest characters used (Some (Character c n)) more is = let same : c ∷ [] ≡ characters = cc in absurd (omega (arith, more, ap len same))
unit_signs handler encoding reads place rest characters used (Some (Malformed n)) more is = treated_signs handler encoding place n rest characters used reads more (handled_given n (treatment handler encoding place rest n) characters used is)
unit_signs handler encoding reads place rest characters used (Some (Cut n)) more is = treated_signs handler encoding place n rest characters used reads more (handled_given n (treatment handler encoding place rest n) characters used is)

-- an item of more than one character
pub item_signs : (handler : Handler) (encoding : Encoding) → reads_texts handler ≡ true → (order : Order) (place : ℕ) (rest characters : List ℕ) (used : ℕ) → 2 ≤ len characters → first_item encoding (treatment handler encoding) true order place rest ≡ Given characters used → Signs characters
item_signs handler encoding reads order place rest characters used more is = unit_signs handler encoding reads place rest characters used (first_unit encoding order (nat_eq place 0) rest) more is

-- in UTF-8 the first of them have a byte each
pub ascii_encoded : (count : ℕ) (cs : List ℕ) → AreAscii cs → len (encode_utf8_all (take count cs)) ≡ len (take count cs)
ascii_encoded zero cs ascii = refl
ascii_encoded (suc count) [] ascii = refl
ascii_encoded (suc count) (c ∷ cs) ascii =
    let one : len (encode_utf8 c) ≡ 1 = ap len (encode_ascii c ascii.0) in
    length-append (encode_utf8 c) (encode_utf8_all (take count cs)) ∙ omega (arith, one, ascii_encoded count cs ascii.1)

pub signs_encoded : (count : ℕ) (cs : List ℕ) → Signs cs → len (encode_utf8_all (take count cs)) ≡ len (take count cs)
signs_encoded count cs signs = ascii_encoded count cs (all_ascii cs signs)

-- Units.

-- a unit is an item of a text, where refused ranges give nothing
pub unit_few : (encoding : Encoding) (bytes : List ℕ) (unit : Read) → first_unit encoding Unknown true bytes ≡ Some unit → IsWithin unit (len bytes) → IsFewIn (len bytes) unit
unit_few encoding bytes (Character c n) is within = (within.0, (first_is_item Ignore encoding refl Unknown 0 bytes (c ∷ []) n (ap (item_of (treatment Ignore encoding) true 0 bytes) is)).small, within.1)
unit_few encoding bytes (Malformed n) is within = (within.0, (first_is_item Ignore encoding refl Unknown 0 bytes [] n (ap (item_of (treatment Ignore encoding) true 0 bytes) is)).small, within.1)
unit_few encoding bytes (Cut n) is within = (within.0, (first_is_item Ignore encoding refl Unknown 0 bytes [] n (ap (item_of (treatment Ignore encoding) true 0 bytes) is)).small, omega (arith, within.1))
