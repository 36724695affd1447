use Rattle.std.proofs.Common.{◌≡◌, ◌≤◌, ◌++◌, take, length}
use Rattle.py_buffer.specs.Descriptor.{Each}
use Rattle.py_buffer.specs.Segments.{IsWithin, IsOrdered, gathered}
use Rattle.py_buffer.proofs.lent.append.Given as goal

abbrev pub invariant-loop-segment : goal.invariant-loop-segment
invariant-loop-segment l = record {
  within : Each (IsWithin (length l.bytes)) l.segments;
  ordered : Each IsOrdered l.segments;
  longer : l.before ≤ length l.buf.items;
  kept : take l.before l.buf.items ≡ l.initial.buf.items;
  whole : l.buf.items ++ gathered l.bytes l.segments ≡ l.initial.buf.items ++ gathered l.bytes l.initial.segments;
}

abbrev pub decreases-loop-segment : goal.decreases-loop-segment
decreases-loop-segment l = length l.segments
