-- Words of a line, and the numbers and bytes among them: this project's script language, docs/PROGRAM.md.
use Rattle.std.specs.Prelude.{ℕ, ◌+◌, ◌-◌, ◌*◌, ◌^◌, ◌==◌, ◌&&◌, nat_le, nat_lt, ℤ, pos, negsuc, neg_ℤ, Bool, List, [], ◌∷◌, ◌++◌, chars, Option, Some, None, codes, if◌then◌else◌}
use Rattle.std.specs.List.{slice_split}
use Rattle.std.specs.Option.{option_and_then}
use Rattle.std.specs.Result.{result_ok}
use Rattle.std.specs.Str.{bytes_eq, is_utf8}
use Rattle.hex.specs.Hex.{decode_of}

-- the words of a line, parted by one space: two spaces in a row have an empty word between them
abbrev pub words_of : List ℕ → List (List ℕ)
words_of line = slice_split (λ byte. byte == 32) line

-- words, each with a space before it
abbrev pub spaced : List (List ℕ) → List ℕ
spaced [] = []
spaced (word ∷ words) = (32 ∷ word) ++ spaced words

-- whether a byte is a decimal digit
unfoldable pub is_digit : ℕ → Bool
is_digit byte = nat_le 48 byte && nat_le byte 57

-- the value of decimal digits after those of `value`; None where a byte is no digit
abbrev pub value_onto : ℕ → List ℕ → Option ℕ
value_onto value [] = Some value
value_onto value (digit ∷ digits) = if is_digit digit then value_onto (value * 10 + (digit - 48)) digits else None

-- a number that a size of this machine holds, 64 bits
abbrev pub as_size : Option ℕ → Option ℕ
as_size None = None
as_size (Some value) = if nat_lt value (2 ^ 64) then Some value else None

-- the number of one or more decimal digits, leading zeros too, with no sign; None where it is above 18446744073709551615
abbrev pub decimal_value : List ℕ → Option ℕ
decimal_value [] = None
decimal_value (digit ∷ digits) = as_size (value_onto 0 (digit ∷ digits))

-- a number as one that 64 bits hold with a sign; None where it is above 9223372036854775807
abbrev pub as_positive : Option ℕ → Option ℤ
as_positive None = None
as_positive (Some value) = if nat_lt value (2 ^ 63) then Some (pos value) else None

-- the negative of a number, one that 64 bits hold with a sign; None where it is below -9223372036854775808
abbrev pub as_negative : Option ℕ → Option ℤ
as_negative None = None
as_negative (Some value) = if nat_le value (2 ^ 63) then Some (neg_ℤ (pos value)) else None

-- the number of one or more decimal digits, leading zeros too, after at most one `-`; None where it is below -9223372036854775808 or above 9223372036854775807
abbrev pub integer_value : List ℕ → Option ℤ
integer_value [] = None
integer_value (byte ∷ bytes) = if byte == 45 then as_negative (decimal_value bytes) else as_positive (decimal_value (byte ∷ bytes))

-- an integer as a whence, which 32 bits hold with a sign; None where it is below -2147483648 or above 2147483647
abbrev pub as_whence : ℤ → Option ℤ
as_whence (pos value) = if nat_lt value (2 ^ 31) then Some (pos value) else None
as_whence (negsuc value) = if nat_lt value (2 ^ 31) then Some (negsuc value) else None

-- the whence of a word: an integer from -2147483648 to 2147483647
abbrev pub whence_value : List ℕ → Option ℤ
whence_value word = option_and_then as_whence (integer_value word)

-- the bytes that are written in hex, two digits of either case to a byte; None where they are no hex
abbrev pub hex_bytes : List ℕ → Option (List ℕ)
hex_bytes digits = result_ok (decode_of digits)

-- the characters of bytes that are well-formed UTF-8; None of others
abbrev pub text_of : List ℕ → Option (List ℕ)
text_of bytes = if is_utf8 bytes then Some (chars bytes) else None

-- the text whose UTF-8 is written in hex, two digits of either case to a byte; None where they are no hex, or the bytes no UTF-8
abbrev pub hex_text : List ℕ → Option (List ℕ)
hex_text digits = option_and_then text_of (hex_bytes digits)

-- the bytes of a word: at least one, in hex, or `-` for none; None where it is neither
abbrev pub word_bytes : List ℕ → Option (List ℕ)
word_bytes [] = None
word_bytes (digit ∷ digits) = if bytes_eq (digit ∷ digits) (codes "-") then Some [] else hex_bytes (digit ∷ digits)

-- the text of a word: the UTF-8 of at least one character, in hex, or `-` for none; None where it is neither
abbrev pub word_text : List ℕ → Option (List ℕ)
word_text word = option_and_then text_of (word_bytes word)

-- an item before those that follow; None where either is malformed
abbrev pub item_before : {A : Type 0} → Option A → Option (List A) → Option (List A)
item_before (Some item) (Some items) = Some (item ∷ items)
item_before _ _ = None

-- the bytes of words, each one's apart; None where one is malformed
abbrev pub words_bytes : List (List ℕ) → Option (List (List ℕ))
words_bytes [] = Some []
words_bytes (word ∷ words) = item_before (word_bytes word) (words_bytes words)
