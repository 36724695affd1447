-- Some handlers give for any run a text of ASCII, which can be written in any encoding.
use Rattle.std.proofs.Common.{◌≡◌, ℕ, zero, suc, ◌+◌, ◌-◌, ◌/◌, ◌%◌, ◌<◌, ◌==◌, Bool, true, false, nat_lt, List, [], ◌∷◌, ◌++◌, length as len, take, codes, Option, Some, None, Ok, if◌then◌else◌, refl, ap, ◌∙◌, arith}
use Rattle.std.specs.List.{All}
use Rattle.std.specs.Fmt.{decimal, digits, digits_onto, digit_glyph}
use Rattle.std.proofs.lemmas.Bool.{lt-ltb, cond-true}
use Rattle.std.proofs.lemmas.List.Elements.{All-nil, All-cons, All-head, All-tail, All-append}
use Rattle.std.specs.Char.{encode_utf8}
use Rattle.py_plain.specs.declared.encoding.Encoding.{Encoding}
use Rattle.py_plain.specs.declared.encoding.Encoding.TheVariants.{Utf8, Latin1, Ascii, Utf16Le, Utf16Be}
use Rattle.py_plain.specs.declared.handler.Handler.{Handler}
use Rattle.py_plain.specs.declared.handler.Handler.TheVariants.{Strict, Ignore, Replace, XmlCharRefReplace, BackslashReplace, SurrogatePass, SurrogateEscape}
use Rattle.py_plain.specs.Escapes.{hex_digit, hex_digits, backslash_escape, character_reference, each_spelled}
use Rattle.py_plain.specs.Encode.{utf16_bytes, own_bytes, joined_bytes, text_bytes, run_length, EncodeHandled, Written, EncodeTreatment, written_as, encode_treatment, EncodeEnding, AllWritten, Encoded, first_written, characters_behind, onto_encoded, encoded_from}
use Rattle.py_codec.specs.declared.handler_ref.HandlerRef.TheVariants.{Builtin}
use Rattle.py_codec.specs.ErrorHandler.{EncodeMeaning}
use Rattle.py_codec.specs.Treating.{encode_fault}
use Rattle.py_codec.specs.Encoding.{encode_ended, encoding_by}
use Rattle.py_codec.specs.Laws.{writes_runs}

-- ASCII.

abbrev AreAscii : List ℕ → Type 0
AreAscii text = All (λ c. c < 0x80) text

ascii_none : AreAscii []
ascii_none = All-nil (λ c. c < 0x80)

ascii_more : (c : ℕ) (text : List ℕ) → c < 0x80 → AreAscii text → AreAscii (c ∷ text)
ascii_more c text = All-cons (λ c. c < 0x80) c text

ascii_both : (text more : List ℕ) → AreAscii text → AreAscii more → AreAscii (text ++ more)
ascii_both text more = All-append (λ c. c < 0x80) text more

ascii_one : (c : ℕ) → c < 0x80 → AreAscii (c ∷ [])
ascii_one c below = ascii_more c [] below ascii_none

-- Decimal digits.

-- one of two texts of ASCII is one
either : (test : Bool) (text other : List ℕ) → AreAscii text → AreAscii other → AreAscii (if test then text else other)
either true text other ascii more = ascii
either false text other ascii more = more

-- a digit, by the test whether it is below ten
glyph_below : (ten : Bool) (digit : ℕ) → digit < 10 → (if ten then 48 + digit else 87 + digit) < 0x80
glyph_below true digit small = omega (arith, small)
glyph_below false digit small = omega (arith, small)

-- the last digits of a number before a text of ASCII
digits_from : (count number : ℕ) (behind : List ℕ) → AreAscii behind → AreAscii (digits_onto count 10 false number behind)
digits_from zero number behind ascii = ascii
digits_from (suc count) number behind ascii =
    let digit : ℕ = digit_glyph false (number % 10) in
    let more : AreAscii (digit ∷ behind) = ascii_more digit behind (glyph_below (nat_lt (number % 10) 10) (number % 10) (omega arith)) ascii in
    either (number / 10 == 0) _ _ more (digits_from count (number / 10) (digit ∷ behind) more)

-- the decimal digits of any number are ASCII
decimal_ascii : (number : ℕ) → AreAscii (decimal number)
unfolding digits
decimal_ascii number = digits_from 64 number [] ascii_none

-- The texts that stand for runs.

hex_digit_below : (ten : Bool) (value : ℕ) → value < 16 → (if ten then 0x30 + value else 0x57 + value) < 0x80
hex_digit_below true value small = omega (arith, small)
hex_digit_below false value small = omega (arith, small)

hex_digits_ascii : (count value : ℕ) → AreAscii (hex_digits count value)
hex_digits_ascii zero value = ascii_none
hex_digits_ascii (suc count) value =
    ascii_both (hex_digits count (value / 16)) (hex_digit (value % 16) ∷ []) (hex_digits_ascii count (value / 16))
    (ascii_one (hex_digit (value % 16)) (hex_digit_below (nat_lt (value % 16) 10) (value % 16) (omega arith)))

-- two characters before a text
pair_before : (first second : ℕ) (text : List ℕ) → first < 0x80 → second < 0x80 → AreAscii text → AreAscii (first ∷ second ∷ text)
pair_before first second text one two ascii = ascii_more first (second ∷ text) one (ascii_more second text two ascii)

backslash_ascii : (value : ℕ) → AreAscii (backslash_escape value)
backslash_ascii value =
    either (nat_lt value 0x100) _ _ (pair_before 92 120 (hex_digits 2 value) (omega arith) (omega arith) (hex_digits_ascii 2 value))
    (either (nat_lt value 0x10000) _ _ (pair_before 92 117 (hex_digits 4 value) (omega arith) (omega arith) (hex_digits_ascii 4 value))
    (pair_before 92 85 (hex_digits 8 value) (omega arith) (omega arith) (hex_digits_ascii 8 value)))

reference_ascii : (value : ℕ) → AreAscii (character_reference value)
reference_ascii value =
    pair_before 38 35 (decimal value ++ codes ";") (omega arith) (omega arith)
    (ascii_both (decimal value) (codes ";") (decimal_ascii value) (ascii_one 59 (omega arith)))

spelled_ascii : (spell : ℕ → List ℕ) → ((value : ℕ) → AreAscii (spell value)) → (values : List ℕ) → AreAscii (each_spelled spell values)
spelled_ascii spell ascii [] = ascii_none
spelled_ascii spell ascii (value ∷ values) = ascii_both (spell value) (each_spelled spell values) (ascii value) (spelled_ascii spell ascii values)

-- ASCII characters have bytes in each encoding.

-- bytes that are there
abbrev HasBytes : Option (List ℕ) → Type 0
HasBytes own = (bytes : List ℕ) × (own ≡ Some bytes)

-- a character of ASCII has bytes in each encoding
own_of_ascii : (encoding : Encoding) (c : ℕ) → c < 0x80 → HasBytes (own_bytes encoding c)
own_of_ascii Utf8 c below = (encode_utf8 c, refl)
own_of_ascii Latin1 c below = (c ∷ [], cond-true (nat_lt c 0x100) (Some (c ∷ [])) None (lt-ltb c 0x100 (omega (arith, below))))
own_of_ascii Ascii c below = (c ∷ [], cond-true (nat_lt c 0x80) (Some (c ∷ [])) None (lt-ltb c 0x80 below))
own_of_ascii Utf16Le c below = (utf16_bytes false c, refl)
own_of_ascii Utf16Be c below = (utf16_bytes true c, refl)

bytes_of_ascii : (encoding : Encoding) (text : List ℕ) → AreAscii text → HasBytes (text_bytes encoding text)
bytes_of_ascii encoding [] ascii = ([], refl)
bytes_of_ascii encoding (c ∷ text) ascii =
    let own = own_of_ascii encoding c (All-head (λ c. c < 0x80) c text ascii) in
    let more = bytes_of_ascii encoding text (All-tail (λ c. c < 0x80) c text ascii) in
    (own.0 ++ more.0, ap (λ o. joined_bytes o (text_bytes encoding text)) own.1 ∙ ap (λ o. joined_bytes (Some own.0) o) more.1)

-- bytes stand for all of a run
abbrev IsWritten : EncodeHandled → ℕ → Type 0
IsWritten handled size = (bytes : List ℕ) × (handled ≡ Written bytes size)

as_bytes : (encoding : Encoding) (text : List ℕ) (size : ℕ) → AreAscii text → IsWritten (written_as (text_bytes encoding text) size) size
as_bytes encoding text size ascii =
    let own = bytes_of_ascii encoding text ascii in
    (own.0, ap (λ o. written_as o size) own.1)

-- the four handlers give bytes for every run
pub given : (handler : Handler) → writes_runs handler ≡ true → (encoding : Encoding) (place : ℕ) (rest : List ℕ) (size : ℕ) → IsWritten (encode_treatment handler encoding place rest size) size
given Strict writes encoding place rest size = absurd (cc)
given Ignore writes encoding place rest size = ([], refl)
given Replace writes encoding place rest size = as_bytes encoding _ size (spelled_ascii (λ c. 0x3F ∷ []) (λ c. ascii_one 0x3F (omega arith)) (take size rest))
given XmlCharRefReplace writes encoding place rest size = as_bytes encoding _ size (spelled_ascii character_reference reference_ascii (take size rest))
given BackslashReplace writes encoding place rest size = as_bytes encoding _ size (spelled_ascii backslash_escape backslash_ascii (take size rest))
given SurrogatePass writes encoding place rest size = absurd (cc)
given SurrogateEscape writes encoding place rest size = absurd (cc)

-- The whole text is written.

-- a handler that always gives bytes
abbrev AlwaysGives : EncodeTreatment → Type 0
AlwaysGives treat = (place : ℕ) (rest : List ℕ) (size : ℕ) → IsWritten (treat place rest size) size

-- an encoding goes on after a character's bytes, and after those that stand for a run
ends_by : (encoding : Encoding) (treat : EncodeTreatment) → AlwaysGives treat → (place size : ℕ) (rest text : List ℕ) (own : Option (List ℕ)) → ((skip : ℕ) → (encoded_from encoding treat (place + 1) skip text).ending ≡ AllWritten) → (onto_encoded place size (first_written treat place rest size own) (encoded_from encoding treat (place + 1) (characters_behind (first_written treat place rest size own)) text)).ending ≡ AllWritten
ends_by encoding treat gives place size rest text (Some bytes) behind = behind 0
ends_by encoding treat gives place size rest text None behind =
    ap (λ (handled : EncodeHandled). (onto_encoded place size handled (encoded_from encoding treat (place + 1) (characters_behind handled) text)).ending) (gives place rest size).1 ∙ behind (size - 1)

ends : (encoding : Encoding) (treat : EncodeTreatment) → AlwaysGives treat → (place skip : ℕ) (text : List ℕ) → (encoded_from encoding treat place skip text).ending ≡ AllWritten
ends encoding treat gives place skip [] = refl
ends encoding treat gives place (suc skip) (c ∷ text) = ends encoding treat gives (place + 1) skip text
ends encoding treat gives place zero (c ∷ text) =
    ends_by encoding treat gives place (run_length encoding (c ∷ text)) (c ∷ text) text (own_bytes encoding c) (λ skip. ends encoding treat gives (place + 1) skip text)

-- by a built-in handler that writes each run, encoding a text succeeds, for all of its characters
pub never_refused : {H : Type 0} (meaning : H → EncodeMeaning) (handler : Handler) → writes_runs handler ≡ true → (encoding : Encoding) (text : List ℕ) → (bytes : List ℕ) × (encoding_by meaning (Builtin handler) encoding text ≡ Ok (bytes, len text))
never_refused meaning handler writes encoding text =
    let made : Encoded = encoded_from encoding (encode_treatment handler encoding) 0 0 text in
    (made.bytes, ap (λ (e : EncodeEnding). encode_ended made.bytes (len text) (encode_fault meaning (Builtin handler) encoding text) e) (ends encoding (encode_treatment handler encoding) (given handler writes encoding) 0 0 text))
