use Rattle.std.proofs.Common.{◌-◌, length}
use Rattle.py_plain.proofs.LineEnds.{IsPassed}
use Rattle.py_plain.proofs.find_newline.find_pair.Given as goal

-- no line ends before the place to search from
abbrev pub invariant-loop-at : goal.invariant-loop-at
invariant-loop-at l = IsPassed l.bytes l.from

abbrev pub decreases-loop-at : goal.decreases-loop-at
decreases-loop-at l = length l.bytes - l.from
