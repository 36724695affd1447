use Rattle.std.proofs.Common.{◌-◌, length}
use Rattle.py_blocks.specs.Fronts.{IsPassed}
use Rattle.py_blocks.proofs.fronts.pass_blocks.Given as goal

abbrev pub invariant-loop-front : goal.invariant-loop-front
invariant-loop-front l = IsPassed l.bytes l.most l.front

abbrev pub decreases-loop-front : goal.decreases-loop-front
decreases-loop-front l = length l.bytes - l.front.bytes
