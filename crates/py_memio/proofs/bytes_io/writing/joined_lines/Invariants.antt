use Rattle.std.proofs.Common.{◌≡◌, take}
use Rattle.py_flat.specs.Lines.{joined}
use Rattle.py_memio.proofs.bytes_io.writing.joined_lines.Given as goal

-- the lines so far
abbrev pub invariant-loop-line : goal.invariant-loop-line
invariant-loop-line l = l.all.items ≡ joined (take l.line-index l.line-items)
