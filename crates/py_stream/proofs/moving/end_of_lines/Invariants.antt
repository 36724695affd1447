use Rattle.std.proofs.Common.{◌≡◌, ◌+◌, ◌≤◌, length, take}
use Rattle.py_flat.specs.Limits.{greatest_place}
use Rattle.py_flat.specs.Lines.{joined}
use Rattle.py_stream.proofs.moving.end_of_lines.Given as goal

-- the end of the lines so far
abbrev pub invariant-loop-line : goal.invariant-loop-line
invariant-loop-line l = (l.end ≡ l.place + length (joined (take l.line-index l.line-items))) × (l.end ≤ greatest_place)
