-- no entry so far is of the path
use Rattle.std.proofs.Common.{◌≡◌, None, take}
use Rattle.py_raw_memory.specs.Entries.{held_in}
use Rattle.py_raw_memory.proofs.entries.place_of.Given as goal

abbrev pub invariant-loop-place : goal.invariant-loop-place
invariant-loop-place g l = held_in (take l.place l.entries) l.path ≡ None
