use Rattle.std.proofs.Common.{◌≡◌, ◌*◌, ◌≤◌, ◌<◌, ◌^◌, length}
use Rattle.py_buffer.specs.Descriptor.{bound_of}
use Rattle.py_buffer.proofs.measures.bound_within.Given as goal

abbrev pub invariant-loop-dimension : goal.invariant-loop-dimension
invariant-loop-dimension l = record { some : 1 ≤ l.bound; fits : l.bound < 2 ^ 64; whole : l.bound * bound_of l.dimensions ≡ bound_of l.initial.dimensions }

abbrev pub decreases-loop-dimension : goal.decreases-loop-dimension
decreases-loop-dimension l = length l.dimensions
