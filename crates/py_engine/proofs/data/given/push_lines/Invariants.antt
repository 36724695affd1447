use Rattle.std.proofs.Common.{take}
use Rattle.py_flat.specs.Lines.{joined}
use Rattle.py_engine.proofs.Pushing.{PutLines}
use Rattle.py_engine.proofs.data.given.push_lines.Given as goal

-- the lines so far were put, as far as there is room
abbrev pub invariant-loop-line : goal.invariant-loop-line
invariant-loop-line l = PutLines l.fn.window l.fn.room (joined (take l.line-index l.line-items)) l.left l.window
