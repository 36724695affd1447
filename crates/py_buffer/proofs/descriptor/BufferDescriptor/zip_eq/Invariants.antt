use Rattle.std.proofs.Common.{Bool, length}
use Rattle.py_buffer.specs.Calls.{CallsUntil}
use Rattle.py_buffer.specs.Segments.{side_by_side}
use Rattle.py_buffer.proofs.descriptor.BufferDescriptor.zip_eq.Given as goal

abbrev pub invariant-loop-segment : goal.invariant-loop-segment
invariant-loop-segment g l = goal.F-IsAlwaysCallable g l.f
    × ((stopped : Bool) (last : _) → CallsUntil (λ p x b q. goal.F-step g p x.0 x.1 b q) l.f (side_by_side l.segments l.others) stopped last → CallsUntil (λ p x b q. goal.F-step g p x.0 x.1 b q) l.fn.f (side_by_side l.initial.segments l.initial.others) stopped last)

abbrev pub decreases-loop-segment : goal.decreases-loop-segment
decreases-loop-segment g l = length l.segments
