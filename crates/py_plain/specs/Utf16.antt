-- The first unit of UTF-16: the Unicode Standard, Table 3-5 (surrogate pairs) and chapter 3, section 3.9 (encoding
-- forms). A code unit is two bytes, by the order of the encoding.
use Rattle.std.specs.Prelude.{ℕ, ◌+◌, ◌-◌, ◌*◌, Bool, List, [], ◌∷◌, Option, Some, None, if◌then◌else◌}
use Rattle.py_plain.specs.declared.unit.Unit.{Unit}
use Rattle.py_plain.specs.declared.unit.Unit.TheVariants.{Character, Malformed, Cut}
use Rattle.py_plain.specs.Utf8.{is_within}

-- two bytes as a number; `big` says that the greater comes first
abbrev pub code_unit : Bool → ℕ → ℕ → ℕ
code_unit big first second = if big then first * 256 + second else second * 256 + first

-- the first of a pair; the second of one
unfoldable pub is_high : ℕ → Bool
is_high unit = is_within 0xD800 0xDBFF unit

unfoldable pub is_low : ℕ → Bool
is_low unit = is_within 0xDC00 0xDFFF unit

-- the character of a pair, from U+10000 to U+10FFFF
abbrev pub joined : ℕ → ℕ → ℕ
joined high low = 0x10000 + (high - 0xD800) * 0x400 + (low - 0xDC00)

-- the unit that begins with the first of a pair: a character, where its second follows; the end within the pair; or
-- an unpaired unit
abbrev pub behind_high : Bool → ℕ → List ℕ → Unit
behind_high big high [] = Cut 2
behind_high big high (first ∷ []) = Cut 3
behind_high big high (first ∷ second ∷ rest) = if is_low (code_unit big first second) then Character (joined high (code_unit big first second)) 4 else Malformed 2

abbrev pub unit_of : Bool → ℕ → List ℕ → Unit
unit_of big unit rest =
    if is_high unit then behind_high big unit rest
    else if is_low unit then Malformed 2
    else Character unit 2

-- what some bytes begin with; nothing where there are none
abbrev pub utf16_unit : Bool → List ℕ → Option Unit
utf16_unit big [] = None
utf16_unit big (first ∷ []) = Some (Cut 1)
utf16_unit big (first ∷ second ∷ rest) = Some (unit_of big (code_unit big first second) rest)
