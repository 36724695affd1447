use Rattle.std.proofs.Common.{◌≡◌, ◌*◌, ◌<◌, ◌↔◌, length}
use Rattle.py_buffer.specs.Descriptor.{items_in, IsRowMajor}
use Rattle.py_buffer.proofs.measures.are_row_major.Given as goal

abbrev pub invariant-loop-dimension : goal.invariant-loop-dimension
invariant-loop-dimension l = record { whole : l.bytes ≡ items_in l.dimensions * l.itemsize; some : 0 < l.bytes; same : IsRowMajor l.itemsize l.dimensions ↔ IsRowMajor l.itemsize l.initial.dimensions }

abbrev pub decreases-loop-dimension : goal.decreases-loop-dimension
decreases-loop-dimension l = length l.dimensions
