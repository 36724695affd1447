use Rattle.std.proofs.Common.{◌≡◌, ◌+◌, ◌<◌, ◌^◌, ◌+ℤ◌, unsigned_abs, length}
use Rattle.py_buffer.specs.Descriptor.{Each, IsSound, reach_of}
use Rattle.py_buffer.specs.Position.{AreIndices, position_of}
use Rattle.py_buffer.proofs.descriptor.BufferDescriptor.fast_position.Given as goal

abbrev pub invariant-loop-index : goal.invariant-loop-index
invariant-loop-index l = record {
  within : AreIndices l.indices l.dimensions;
  sound : Each IsSound l.dimensions;
  fits : unsigned_abs l.position + reach_of l.dimensions < 2 ^ 63;
  whole : l.position +ℤ position_of l.indices l.dimensions ≡ position_of l.initial.indices l.initial.dimensions;
}

abbrev pub decreases-loop-index : goal.decreases-loop-index
decreases-loop-index l = length l.dimensions
