use Rattle.std.proofs.Common.{◌≡◌, take}
use Rattle.py_flat.proofs.lines.Lines.try_clone.Given as goal

abbrev pub invariant-loop-line : goal.invariant-loop-line
invariant-loop-line l = l.copy ≡ take l.line-index l.line-items
