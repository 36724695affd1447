-- Causes of answers: the counts of faults and waits that the outside keeps. A count never falls, and stands still at
-- its type's end, where it counts as risen.
use Rattle.std.specs.Prelude.{◌≡◌, ℕ, ◌+◌, ◌≤◌, min, Bool, nat_le}
use Rattle.py_flat.specs.Limits.{greatest_count}

-- a count after n more, of which it tells no more than it can hold
abbrev pub counted : ℕ → ℕ → ℕ
counted old more = min (old + more) greatest_count

-- a count rose
abbrev pub Rose : ℕ → ℕ → Type 0
Rose old new = counted old 1 ≤ new

-- whether a count rose, as a test
abbrev pub rose : ℕ → ℕ → Bool
rose old new = nat_le (counted old 1) new

-- a count rose by this much
abbrev pub RoseBy : ℕ → ℕ → ℕ → Type 0
RoseBy more old new = new ≡ counted old more
