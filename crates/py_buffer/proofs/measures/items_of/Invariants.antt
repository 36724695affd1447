use Rattle.std.proofs.Common.{◌≡◌, ◌*◌, ◌<◌, ◌^◌, length}
use Rattle.py_buffer.specs.Descriptor.{items_in, bound_of}
use Rattle.py_buffer.proofs.measures.items_of.Given as goal

abbrev pub invariant-loop-dimension : goal.invariant-loop-dimension
invariant-loop-dimension l = record { fits : l.items * bound_of l.dimensions < 2 ^ 64; whole : l.items * items_in l.dimensions ≡ items_in l.initial.dimensions }

abbrev pub decreases-loop-dimension : goal.decreases-loop-dimension
decreases-loop-dimension l = length l.dimensions
