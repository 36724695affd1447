use Rattle.std.proofs.Common.{List, ◌∷◌, ◌&&◌, true, refl, inr, ap, ◌∙◌, sym, subst}
use Rattle.py_buffer.specs.Calls.{CallsUntil}
use Rattle.py_buffer.specs.Segments.{Span, side_by_side, segments_of, rows_join}
use Rattle.py_buffer.proofs.descriptor.BufferDescriptor.zip_eq.Given as given
use Rattle.py_buffer.proofs.descriptor.BufferDescriptor.zip_eq.Goals as goal

pub returns-then-f : goal.returns-then-f
returns-then-f g c =
    let called : CallsUntil (λ p x b q. given.F-step g p x.0 x.1 b q) c.loop-segment.f (side_by_side (c.in-Some.segment ∷ c.next.new.self) (c.in-Some-next.beside ∷ c.next-in-Some.new.self)) true c.f.new.self = inr (refl, c.if-f.ensures) in
    let ours = subst (λ (xs : List Span). CallsUntil (λ p x b q. given.F-step g p x.0 x.1 b q) c.loop-segment.f (side_by_side xs (c.in-Some-next.beside ∷ c.next-in-Some.new.self)) true c.f.new.self) (sym c.in-Some.ensures.steps) called in
    let here = subst (λ (xs : List Span). CallsUntil (λ p x b q. given.F-step g p x.0 x.1 b q) c.loop-segment.f (side_by_side c.loop-segment.segments xs) true c.f.new.self) (sym c.in-Some-next.ensures.steps) ours in
    let all = c.loop-segment.invariant.1 true c.f.new.self here in
    let first = c.segments-segments.ensures ∙ ap (segments_of c.args.self.now) c.joins_rows_beside-joined.ensures in
    let second = c.segments-others.ensures ∙ ap (segments_of c.args.other.now) c.joins_rows_beside-joined.ensures in (
      c.f.new.self,
      subst (λ (xs : List Span). CallsUntil (λ p x b q. given.F-step g p x.0 x.1 b q) c.args.f (side_by_side (segments_of c.args.self.now (c.args.try_conti && rows_join c.args.self.now && rows_join c.args.other.now)) xs) true c.f.new.self) second
          (subst (λ (xs : List Span). CallsUntil (λ p x b q. given.F-step g p x.0 x.1 b q) c.args.f (side_by_side xs c.segments-others.result) true c.f.new.self) first all),
    )
