-- How numbers are spelled in the texts that stand for refused ranges.
use Rattle.std.specs.Prelude.{ℕ, zero, suc, ◌+◌, ◌/◌, ◌%◌, nat_lt, List, [], ◌∷◌, ◌++◌, codes, decimal, if◌then◌else◌}

-- a digit of a number below 16, in small letters
abbrev pub hex_digit : ℕ → ℕ
hex_digit value = if nat_lt value 10 then 0x30 + value else 0x57 + value

-- the last n hexadecimal digits of a number
abbrev pub hex_digits : ℕ → ℕ → List ℕ
hex_digits zero value = []
hex_digits (suc count) value = hex_digits count (value / 16) ++ hex_digit (value % 16) ∷ []

-- a number below 256 as `\x` and two digits, one below 65536 as `\u` and four, and another as `\U` and eight (Python's
-- documentation of `backslashreplace`)
abbrev pub backslash_escape : ℕ → List ℕ
backslash_escape value =
    if nat_lt value 0x100 then codes "\\x" ++ hex_digits 2 value
    else if nat_lt value 0x10000 then codes "\\u" ++ hex_digits 4 value
    else codes "\\U" ++ hex_digits 8 value

-- `&#`, the decimal number, `;`
abbrev pub character_reference : ℕ → List ℕ
character_reference value = codes "&#" ++ decimal value ++ codes ";"

-- `#` and the decimal number of the surrogate U+DC00 + byte (Python gives the surrogate itself, which no text here holds)
abbrev pub surrogate_escape : ℕ → List ℕ
surrogate_escape byte = codes "#" ++ decimal (0xDC00 + byte)

-- `\x` and the four digits of a surrogate
abbrev pub surrogate_pass : ℕ → List ℕ
surrogate_pass surrogate = codes "\\x" ++ hex_digits 4 surrogate

-- each of some numbers spelled, one after the other
abbrev pub each_spelled : (ℕ → List ℕ) → List ℕ → List ℕ
each_spelled spell [] = []
each_spelled spell (value ∷ values) = spell value ++ each_spelled spell values
