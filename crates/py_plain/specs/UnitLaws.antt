-- How long a unit is, and which numbers are bytes.
use Rattle.std.specs.Prelude.{ℕ, ◌<◌, ◌≤◌, ◌≡◌, List}
use Rattle.std.specs.List.{All}
use Rattle.py_plain.specs.declared.unit.Unit.{Unit}
use Rattle.py_plain.specs.declared.unit.Unit.TheVariants.{Character, Malformed, Cut}

-- a unit of UTF-8 of n bytes that are left: a character has at most four, a refused range at most three, and a cut one is all that is left
abbrev pub IsUtf8Long : Unit → ℕ → Type 0
IsUtf8Long (Character c n) left = (1 ≤ n) × (n ≤ 4) × (n ≤ left)
IsUtf8Long (Malformed n) left = (1 ≤ n) × (n ≤ 3) × (n ≤ left)
IsUtf8Long (Cut n) left = (1 ≤ n) × (n ≤ 3) × (n ≡ left)

-- in any encoding a unit has a byte, and no more than are left; a cut one is all of them
abbrev pub IsWithin : Unit → ℕ → Type 0
IsWithin (Character c n) left = (1 ≤ n) × (n ≤ left)
IsWithin (Malformed n) left = (1 ≤ n) × (n ≤ left)
IsWithin (Cut n) left = (1 ≤ n) × (n ≡ left)

-- numbers that are bytes
abbrev pub AreBytes : List ℕ → Type 0
AreBytes bytes = All (λ byte. byte < 0x100) bytes
