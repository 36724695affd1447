use Rattle.std.proofs.Common.{◌≡◌, ◌+◌, ◌<◌, ◌≤◌, ◌+ℤ◌, unsigned_abs, length}
use Rattle.py_buffer.specs.Descriptor.{Each, IsSound, items_in, reach_of}
use Rattle.py_buffer.specs.Segments.{place_of}
use Rattle.py_buffer.proofs.walk.place.Given as goal

abbrev pub invariant-loop-dimension : goal.invariant-loop-dimension
invariant-loop-dimension l = record {
  sound : Each IsSound l.dimensions;
  counted : l.items ≡ items_in l.dimensions;
  within : l.number < l.items;
  fits : unsigned_abs l.position + reach_of l.dimensions ≤ reach_of l.initial.dimensions;
  whole : l.position +ℤ place_of l.dimensions l.number ≡ place_of l.initial.dimensions l.initial.number;
}

abbrev pub decreases-loop-dimension : goal.decreases-loop-dimension
decreases-loop-dimension l = length l.dimensions
