use Rattle.std.proofs.Common.{◌≡◌, ℕ, ◌+◌, ◌*◌, ◌/◌, ◌%◌, ◌<◌, ◌≤◌, ◌^◌, ◌+ℤ◌, List, unsigned_abs, to_z, w64, arith, rules, ap, ◌∙◌, sym, subst}
use lib.IntN.{+ℤ_assoc}
use Rattle.std.proofs.Math.Nat.{mod-lt, div-eq_of_eq-mul_right}
use Rattle.std.proofs.lemmas.Int.{to_z-of_z}
use mir.Val.{SFits}
use Rattle.py_buffer.specs.Descriptor.{Dimension, Each, IsSound, items_in, reach_of}
use Rattle.py_buffer.specs.Position.{step_of}
use Rattle.py_buffer.specs.Segments.{place_of}
use Rattle.py_buffer.proofs.Products.{index_within}
use Rattle.py_buffer.proofs.Places.{some_rest, index_below}
use Rattle.py_buffer.proofs.Furthest.{some_shape}
use Rattle.py_buffer.proofs.walk.place.Goals as goal

pub stepped-position-requires-clause-fits : goal.stepped-position-requires-clause-fits
stepped-position-requires-clause-fits c =
    let size = items_in c.in-Some.rest.now in
    let all : c.loop-dimension.items ≡ c.in-Some.dimension.now.0 * size = c.loop-dimension.invariant.counted ∙ ap items_in c.in-Some.ensures.cases.0 in
    let below : c.loop-dimension.number < c.in-Some.dimension.now.0 * size = omega (arith, all, c.loop-dimension.invariant.within) in
    let behind : c.loop-dimension.items / c.in-Some.dimension.now.0 ≡ size = div-eq_of_eq-mul_right (some_shape c.in-Some.dimension.now.0 size (omega (arith, below))) all in
    let index = index_below c.loop-dimension.number c.in-Some.dimension.now.0 size below in
    let reach = subst (λ (dimensions : List Dimension). unsigned_abs (to_z w64 c.loop-dimension.position-bits) + reach_of dimensions ≤ reach_of c.args.dimensions.now) c.in-Some.ensures.cases.0 c.loop-dimension.invariant.fits in
    subst (λ (q : ℕ). unsigned_abs (to_z w64 c.loop-dimension.position-bits) + (c.loop-dimension.number / q * unsigned_abs c.in-Some.dimension.now.1 + unsigned_abs c.in-Some.dimension.now.2) < 2 ^ 63) (sym behind)
    (omega (arith, reach, c.requires.fits, index_within (c.loop-dimension.number / size) c.in-Some.dimension.now.0 (unsigned_abs c.in-Some.dimension.now.1) index))

pub nonzero_rem-number : goal.nonzero_rem-number
nonzero_rem-number c =
    let size = items_in c.in-Some.rest.now in
    let all : c.loop-dimension.items ≡ c.in-Some.dimension.now.0 * size = c.loop-dimension.invariant.counted ∙ ap items_in c.in-Some.ensures.cases.0 in
    let below : c.loop-dimension.number < c.in-Some.dimension.now.0 * size = omega (arith, all, c.loop-dimension.invariant.within) in
    let behind : c.loop-dimension.items / c.in-Some.dimension.now.0 ≡ size = div-eq_of_eq-mul_right (some_shape c.in-Some.dimension.now.0 size (omega (arith, below))) all in
    omega (arith, behind, some_rest c.loop-dimension.number c.in-Some.dimension.now.0 size below)

pub loop-dimension-preserved : goal.loop-dimension-preserved
loop-dimension-preserved c =
    let size = items_in c.in-Some.rest.now in
    let from = to_z w64 c.loop-dimension.position-bits in
    let stepped : SFits w64 c.stepped-position.result = search rules in
    let all : c.loop-dimension.items ≡ c.in-Some.dimension.now.0 * size = c.loop-dimension.invariant.counted ∙ ap items_in c.in-Some.ensures.cases.0 in
    let below : c.loop-dimension.number < c.in-Some.dimension.now.0 * size = omega (arith, all, c.loop-dimension.invariant.within) in
    let behind : c.loop-dimension.items / c.in-Some.dimension.now.0 ≡ size = div-eq_of_eq-mul_right (some_shape c.in-Some.dimension.now.0 size (omega (arith, below))) all in
    let index = index_below c.loop-dimension.number c.in-Some.dimension.now.0 size below in
    let reach = subst (λ (dimensions : List Dimension). unsigned_abs from + reach_of dimensions ≤ reach_of c.args.dimensions.now) c.in-Some.ensures.cases.0 c.loop-dimension.invariant.fits in
    let long = subst (λ (q : ℕ). unsigned_abs c.stepped-position.result ≤ unsigned_abs from + (c.loop-dimension.number / q * unsigned_abs c.in-Some.dimension.now.1 + unsigned_abs c.in-Some.dimension.now.2)) behind c.stepped-position.ensures.size in
    record {
      sound = (subst (λ (dimensions : List Dimension). Each IsSound dimensions) c.in-Some.ensures.cases.0 c.loop-dimension.invariant.sound).1;
      counted = behind;
      within = mod-lt c.loop-dimension.number (omega (arith, behind, some_rest c.loop-dimension.number c.in-Some.dimension.now.0 size below));
      fits = omega (arith, reach, long, ap unsigned_abs (to_z-of_z w64 c.stepped-position.result stepped), index_within (c.loop-dimension.number / size) c.in-Some.dimension.now.0 (unsigned_abs c.in-Some.dimension.now.1) index);
      whole =
          ap (λ z. z +ℤ place_of c.in-Some.rest.now (c.loop-dimension.number % (c.loop-dimension.items / c.in-Some.dimension.now.0))) (to_z-of_z w64 c.stepped-position.result stepped ∙ c.stepped-position.ensures.value)
          ∙ ap (λ q. from +ℤ step_of (c.loop-dimension.number / q) c.in-Some.dimension.now +ℤ place_of c.in-Some.rest.now (c.loop-dimension.number % q)) behind
          ∙ +ℤ_assoc from (step_of (c.loop-dimension.number / size) c.in-Some.dimension.now) (place_of c.in-Some.rest.now (c.loop-dimension.number % size))
          ∙ ap (λ dimensions. from +ℤ place_of dimensions c.loop-dimension.number) (sym c.in-Some.ensures.cases.0)
          ∙ c.loop-dimension.invariant.whole;
    }
