-- The first unit of UTF-8: the Unicode Standard, Table 3-7 (well-formed byte sequences) and chapter 3, section 3.9
-- (substitution of maximal subparts).
use Rattle.std.specs.Prelude.{ℕ, zero, suc, ◌+◌, ◌-◌, ◌*◌, Bool, ◌&&◌, nat_le, List, [], ◌∷◌, Option, Some, None, if◌then◌else◌}
use Rattle.py_plain.specs.declared.unit.Unit.{Unit}
use Rattle.py_plain.specs.declared.unit.Unit.TheVariants.{Character, Malformed, Cut}

-- what a byte says that begins a sequence
pub data Lead : Type 0 where
  -- the byte is a character by itself
  Alone : Lead
  -- n bytes follow, the first of them from `low` to `high`; `bits` are what the leading byte adds to the character
  Leads : (follow low high bits : ℕ) → Lead
  -- no well-formed sequence begins with the byte
  Never : Lead

-- whether a byte lies from `low` to `high`
unfoldable pub is_within : ℕ → ℕ → ℕ → Bool
is_within low high byte = nat_le low byte && nat_le byte high

-- the rows of Table 3-7, by the first byte
unfoldable pub lead : ℕ → Lead
lead byte =
    if is_within 0x00 0x7F byte then Alone
    else if is_within 0xC2 0xDF byte then Leads 1 0x80 0xBF (byte - 0xC0)
    else if is_within 0xE0 0xE0 byte then Leads 2 0xA0 0xBF (byte - 0xE0)
    else if is_within 0xE1 0xEC byte then Leads 2 0x80 0xBF (byte - 0xE0)
    else if is_within 0xED 0xED byte then Leads 2 0x80 0x9F (byte - 0xE0)
    else if is_within 0xEE 0xEF byte then Leads 2 0x80 0xBF (byte - 0xE0)
    else if is_within 0xF0 0xF0 byte then Leads 3 0x90 0xBF (byte - 0xF0)
    else if is_within 0xF1 0xF3 byte then Leads 3 0x80 0xBF (byte - 0xF0)
    else if is_within 0xF4 0xF4 byte then Leads 3 0x80 0x8F (byte - 0xF0)
    else Never

-- after `length` bytes of a sequence whose character is `bits` so far, `follow` more must stand, the next of them
-- from `low` to `high`
abbrev pub sequence : (length follow low high bits : ℕ) → List ℕ → Unit
sequence length zero low high bits rest = Character bits length
sequence length (suc follow) low high bits [] = Cut length
sequence length (suc follow) low high bits (byte ∷ rest) = if is_within low high byte then sequence (length + 1) follow 0x80 0xBF (bits * 64 + (byte - 0x80)) rest else Malformed length

abbrev pub unit_after : ℕ → Lead → List ℕ → Unit
unit_after byte Alone rest = Character byte 1
unit_after byte (Leads follow low high bits) rest = sequence 1 follow low high bits rest
unit_after byte Never rest = Malformed 1

-- what some bytes begin with; nothing where there are none
abbrev pub utf8_unit : List ℕ → Option Unit
utf8_unit [] = None
utf8_unit (byte ∷ rest) = Some (unit_after byte (lead byte) rest)
