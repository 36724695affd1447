-- The first unit of the encodings whose characters are one byte each: ISO 8859-1, in which byte n is the character n,
-- and ASCII, which has the first 128 of them.
use Rattle.std.specs.Prelude.{ℕ, Bool, nat_lt, List, [], ◌∷◌, Option, Some, None, if◌then◌else◌}
use Rattle.py_plain.specs.declared.unit.Unit.{Unit}
use Rattle.py_plain.specs.declared.unit.Unit.TheVariants.{Character, Malformed}

unfoldable pub is_ascii : ℕ → Bool
is_ascii byte = nat_lt byte 0x80

abbrev pub latin1_unit : List ℕ → Option Unit
latin1_unit [] = None
latin1_unit (byte ∷ rest) = Some (Character byte 1)

abbrev pub ascii_unit : List ℕ → Option Unit
ascii_unit [] = None
ascii_unit (byte ∷ rest) = Some (if is_ascii byte then Character byte 1 else Malformed 1)
