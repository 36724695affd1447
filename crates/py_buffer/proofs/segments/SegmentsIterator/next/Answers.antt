use Rattle.std.proofs.Common.{◌≡◌, ◌+◌, ◌+ℤ◌, ℤ, pos, List, [], ◌∷◌, length, map, drop, to_z, of_z, w64, arith, rules, ap, ◌∙◌, sym}
use Rattle.std.proofs.lemmas.List.{drop_all, length-map}
use Rattle.std.proofs.lemmas.Int.{to_z-of_z}
use mir.Val.{SFits}
use Rattle.py_buffer.specs.Segments.{Span, span, positions, place_of}
use Rattle.py_buffer.proofs.Places.{positions_length, span_next}
use Rattle.py_buffer.proofs.Indexing.{end_is}
use Rattle.py_buffer.proofs.segments.SegmentsIterator.next.Goals as goal

pub returns-then-self-clause-steps : goal.returns-then-self-clause-steps
returns-then-self-clause-steps c =
    let dimensions = c.self.inside.dimensions.now in
    let all = map (span c.self.inside.width) (positions dimensions) in
    let none : c.args.self.now ≡ [] = sym c.self.view_is ∙ drop_all c.self.inside.given all (omega (arith, length-map (positions dimensions) (span c.self.inside.width), positions_length dimensions, c.self.invariant.counted, c.if-self.true)) in
    (none, none)

pub returns-clause-steps : goal.returns-clause-steps
returns-clause-steps c =
    let dimensions = c.self.inside.dimensions.now in
    let width = c.self.inside.width in
    let all = map (span width) (positions dimensions) in
    let start : SFits w64 c.place-start.result = search rules in
    let begins : place_of dimensions c.self.inside.given ≡ to_z w64 (of_z w64 c.place-start.result) = sym (to_z-of_z w64 c.place-start.result start ∙ c.place-start.ensures.value) in
    let ends : place_of dimensions c.self.inside.given +ℤ pos width ≡ to_z w64 (of_z w64 (to_z w64 (of_z w64 c.place-start.result) +ℤ to_z w64 width)) =
    ap (λ p. p +ℤ pos width) (sym c.place-start.ensures.value) ∙ sym (end_is c.place-start.result width start (omega (arith, c.place-start.ensures.size, c.self.invariant.fits))) in
    let first : Span → List Span = λ segment. segment ∷ drop (c.self.inside.given + 1) all in
    sym c.self.view_is
    ∙ span_next dimensions width c.self.inside.given (omega (arith, c.self.invariant.counted, c.self.invariant.within, c.if-self.false))
    ∙ ap (λ (z : ℤ). first (record { start = z; end = place_of dimensions c.self.inside.given +ℤ pos width })) begins
    ∙ ap (λ (z : ℤ). first (record { start = to_z w64 (of_z w64 c.place-start.result); end = z })) ends

pub returns-clause-goes : goal.returns-clause-goes
returns-clause-goes c = let steps = returns-clause-steps c in record { on = λ finite. (tt, finite, omega (arith, ap length steps)); keeps = tt; rests = λ finite. tt }
