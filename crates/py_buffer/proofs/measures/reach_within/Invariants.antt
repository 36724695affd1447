use Rattle.std.proofs.Common.{◌≡◌, ◌+◌, length}
use Rattle.py_buffer.specs.Descriptor.{reach_of}
use Rattle.py_buffer.proofs.measures.reach_within.Given as goal

abbrev pub invariant-loop-dimension : goal.invariant-loop-dimension
invariant-loop-dimension l = l.end + reach_of l.dimensions ≡ reach_of l.initial.dimensions + l.itemsize

abbrev pub decreases-loop-dimension : goal.decreases-loop-dimension
decreases-loop-dimension l = length l.dimensions
