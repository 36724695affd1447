use Rattle.std.proofs.Common.{◌-◌, ◌≤◌, length}
use Rattle.py_held_text.proofs.reach.behind_unit.Given as goal

-- no more units were looked at than there are
abbrev pub invariant-loop-at : goal.invariant-loop-at
invariant-loop-at l = l.at ≤ length l.bytes

abbrev pub decreases-loop-at : goal.decreases-loop-at
decreases-loop-at l = length l.bytes - l.at
