-- The ends of the numbers that a stream works with.
use Rattle.std.specs.Prelude.{ℕ}

-- the greatest place, size and end of a write: a file's position is a signed number of 64 bits (Python's documentation of `seek`)
abbrev pub greatest_place : ℕ
greatest_place = 9223372036854775807

-- where each count of the outside stands still: the greatest number of 64 bits
abbrev pub greatest_count : ℕ
greatest_count = 18446744073709551615
