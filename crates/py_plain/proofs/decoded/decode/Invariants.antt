use Rattle.std.proofs.Common.{length, ◌-◌}
use Rattle.py_plain.specs.Units.{Order}
use Rattle.py_plain.proofs.Walks.{Continues}
use Rattle.py_plain.proofs.decoded.decode.Given as goal

-- what is out and the walk from here are the whole walk
abbrev pub invariant-loop-place : goal.invariant-loop-place
invariant-loop-place l = (order : Order) → Continues l.encoding l.handler l.last order l.bytes l.from l.place l.characters.items

abbrev pub decreases-loop-place : goal.decreases-loop-place
decreases-loop-place l = length l.bytes - l.place
