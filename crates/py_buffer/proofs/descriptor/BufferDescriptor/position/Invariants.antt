use Rattle.std.proofs.Common.{◌≡◌, ◌+◌, ◌<◌, ◌^◌, unsigned_abs, length}
use Rattle.py_buffer.specs.Descriptor.{Each, IsSound, reach_of}
use Rattle.py_buffer.specs.Position.{step_onto, indexed_from, indexed}
use Rattle.py_buffer.proofs.descriptor.BufferDescriptor.position.Given as goal

abbrev pub invariant-loop-index : goal.invariant-loop-index
invariant-loop-index l = record {
  long : length l.indices ≡ length l.dimensions;
  sound : Each IsSound l.dimensions;
  counted : l.number + length l.dimensions ≡ length l.initial.dimensions;
  fits : unsigned_abs l.position + reach_of l.dimensions < 2 ^ 63;
  whole : step_onto l.position (indexed_from l.number l.indices l.dimensions) ≡ indexed l.initial.indices l.initial.dimensions;
}

abbrev pub decreases-loop-index : goal.decreases-loop-index
decreases-loop-index l = length l.dimensions
