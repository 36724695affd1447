-- A file's bytes, read from a place and written at a place. A character list of a memory stream goes the same way.
use Rattle.std.specs.Prelude.{ℕ, ◌+◌, ◌-◌, List, [], ◌∷◌, ◌++◌, length, take, drop, replicate, Option, Some, None, nat_eq, if◌then◌else◌}

-- what is left from a place on: nothing at the end and past it
abbrev pub left_at : List ℕ → ℕ → List ℕ
left_at bytes place = drop place bytes

-- the bytes up to a place, zeros after their end where it lies past it
abbrev pub filled_to : List ℕ → ℕ → List ℕ
filled_to bytes place = take place bytes ++ replicate (place - length bytes) 0

-- the bytes after a write at a place: zeros up to it, then what is written over what stands there; what lies after stays. A write of nothing changes nothing
abbrev pub lay : List ℕ → ℕ → List ℕ → List ℕ
lay bytes place [] = bytes
lay bytes place (byte ∷ more) = filled_to bytes place ++ (byte ∷ more) ++ drop (place + length (byte ∷ more)) bytes

-- the bytes cut, or lengthened by zeros, to a size
abbrev pub resized : List ℕ → ℕ → List ℕ
resized bytes size = filled_to bytes size

-- the first bytes, at most as many as a size says; without one, all
abbrev pub first_of : Option ℕ → List ℕ → List ℕ
first_of None bytes = bytes
first_of (Some size) bytes = take size bytes

-- the first bytes, at most as many as a size says; all for a size of 0, as a buffer of no size gives
abbrev pub first_or_all : ℕ → List ℕ → List ℕ
first_or_all size bytes = if nat_eq size 0 then bytes else take size bytes
