use Rattle.std.proofs.Common.{length}
use Rattle.py_buffer.specs.Position.{AreIndices}
use Rattle.py_buffer_cases.proofs.compare.are_indices.Given as goal

abbrev pub invariant-loop-index : goal.invariant-loop-index
invariant-loop-index l = AreIndices l.indices l.dimensions → AreIndices l.initial.indices l.initial.dimensions

abbrev pub decreases-loop-index : goal.decreases-loop-index
decreases-loop-index l = length l.dimensions
