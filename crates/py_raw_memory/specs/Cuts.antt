-- What one element of a plan makes of a transfer.
use Rattle.std.specs.Prelude.{ℕ, ◌==◌, min, max, Option, Some, None, if◌then◌else◌}
use Rattle.py_raw_memory.specs.declared.cut.Cut.{Cut}
use Rattle.py_raw_memory.specs.declared.cut.Cut.TheVariants.{Take, Wait, Break}
use Rattle.py_raw_memory.specs.declared.cut.Turn.{Turn}
use Rattle.py_raw_memory.specs.declared.cut.Turn.TheVariants.{Moves, Stalls, Waits, Breaks}

-- a write of n bytes of a piece: none of a piece that isn't empty is a fault
abbrev pub takes : ℕ → ℕ → Turn
takes count asked = if count == 0 then (if asked == 0 then Moves 0 else Stalls) else Moves count

-- what an element of a plan makes of a read of n bytes, which are there; without an element all is moved
abbrev pub read_by : Option Cut → ℕ → Turn
read_by None asked = Moves asked
read_by (Some (Take most)) asked = Moves (min (max most 1) asked)
read_by (Some Wait) asked = Waits
read_by (Some (Break most)) asked = Breaks 0

-- what an element of a plan makes of a write of n bytes; without an element all is moved
abbrev pub write_by : Option Cut → ℕ → Turn
write_by None asked = Moves asked
write_by (Some (Take most)) asked = takes (min most asked) asked
write_by (Some Wait) asked = Waits
write_by (Some (Break most)) asked = Breaks (min most asked)
