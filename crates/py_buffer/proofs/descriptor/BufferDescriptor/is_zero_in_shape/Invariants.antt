use Rattle.std.proofs.Common.{◌↔◌, length}
use Rattle.py_buffer.specs.Descriptor.{HasNoItems}
use Rattle.py_buffer.proofs.descriptor.BufferDescriptor.is_zero_in_shape.Given as goal

abbrev pub invariant-loop-dimension : goal.invariant-loop-dimension
invariant-loop-dimension l = HasNoItems l.dimensions ↔ HasNoItems l.initial.dimensions

abbrev pub decreases-loop-dimension : goal.decreases-loop-dimension
decreases-loop-dimension l = length l.dimensions
