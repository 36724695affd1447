use Rattle.std.proofs.Common.{◌↔◌, length}
use Rattle.py_buffer.specs.Descriptor.{Each, IsSound}
use Rattle.py_buffer.proofs.measures.are_sound.Given as goal

abbrev pub invariant-loop-dimension : goal.invariant-loop-dimension
invariant-loop-dimension l = Each IsSound l.dimensions ↔ Each IsSound l.initial.dimensions

abbrev pub decreases-loop-dimension : goal.decreases-loop-dimension
decreases-loop-dimension l = length l.dimensions
