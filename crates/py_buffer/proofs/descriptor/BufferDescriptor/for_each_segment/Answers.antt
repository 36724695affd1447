use Rattle.std.proofs.Common.{List, ◌∷◌, true, false, inr, refl, sym, subst}
use Rattle.py_buffer.specs.Calls.{CallsUntil}
use Rattle.py_buffer.specs.Segments.{Span}
use Rattle.py_buffer.proofs.descriptor.BufferDescriptor.for_each_segment.Given as given
use Rattle.py_buffer.proofs.descriptor.BufferDescriptor.for_each_segment.Goals as goal

pub returns-then-f : goal.returns-then-f
returns-then-f g c =
    let called : CallsUntil (λ p x b q. given.F-step g p x b q) c.loop-segment.f (c.in-Some.segment ∷ c.next.new.self) true c.f.new.self = inr (refl, c.if-f.ensures) in
    let here = subst (λ (xs : List Span). CallsUntil (λ p x b q. given.F-step g p x b q) c.loop-segment.f xs true c.f.new.self) (sym c.in-Some.ensures.steps) called in (
      c.f.new.self,
      subst (λ (xs : List Span). CallsUntil (λ p x b q. given.F-step g p x b q) c.args.f xs true c.f.new.self) c.segments-segments.ensures (c.loop-segment.invariant.1 true c.f.new.self here),
    )

pub returns : goal.returns
returns g c =
    let ended = subst (λ (xs : List Span). CallsUntil (λ p x b q. given.F-step g p x b q) c.loop-segment.f xs false c.loop-segment.f) (sym c.in_default.ensures.steps.0) (refl, refl) in
    (c.loop-segment.f, subst (λ (xs : List Span). CallsUntil (λ p x b q. given.F-step g p x b q) c.args.f xs false c.loop-segment.f) c.segments-segments.ensures (c.loop-segment.invariant.1 false c.loop-segment.f ended))
