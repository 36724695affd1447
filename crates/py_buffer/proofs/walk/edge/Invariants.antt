use Rattle.std.proofs.Common.{◌≡◌, ◌+◌, ◌≤◌, ◌+ℤ◌, unsigned_abs, length}
use Rattle.py_buffer.specs.Descriptor.{Each, IsSound, reach_of}
use Rattle.py_buffer.specs.Edges.{edge_of}
use Rattle.py_buffer.proofs.walk.edge.Given as goal

abbrev pub invariant-loop-dimension : goal.invariant-loop-dimension
invariant-loop-dimension l = record {
  sound : Each IsSound l.dimensions;
  fits : unsigned_abs l.position + reach_of l.dimensions ≤ reach_of l.initial.dimensions;
  whole : l.position +ℤ edge_of l.front l.dimensions ≡ edge_of l.front l.initial.dimensions;
}

abbrev pub decreases-loop-dimension : goal.decreases-loop-dimension
decreases-loop-dimension l = length l.dimensions
