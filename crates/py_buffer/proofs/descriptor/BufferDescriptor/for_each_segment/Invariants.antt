use Rattle.std.proofs.Common.{Bool, length}
use Rattle.py_buffer.specs.Calls.{CallsUntil}
use Rattle.py_buffer.proofs.descriptor.BufferDescriptor.for_each_segment.Given as goal

abbrev pub invariant-loop-segment : goal.invariant-loop-segment
invariant-loop-segment g l = goal.F-IsAlwaysCallable g l.f
    × ((stopped : Bool) (last : _) → CallsUntil (λ p x b q. goal.F-step g p x b q) l.f l.segments stopped last → CallsUntil (λ p x b q. goal.F-step g p x b q) l.fn.f l.initial.segments stopped last)

abbrev pub decreases-loop-segment : goal.decreases-loop-segment
decreases-loop-segment g l = length l.segments
