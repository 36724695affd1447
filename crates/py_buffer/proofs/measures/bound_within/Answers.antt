use Rattle.std.proofs.Common.{◌≡◌, ◌*◌, ◌<◌, ◌^◌, max, arith, rules, ap, ◌∙◌, sym, subst, ℕ}
use Rattle.py_buffer.specs.Descriptor.{bound_of}
use Rattle.py_buffer.proofs.Products.{front_fits, product_grows}
use Rattle.py_buffer.proofs.measures.bound_within.Goals as goal

pub returns-in-None : goal.returns-in-None
returns-in-None c =
    let whole : c.loop-dimension.bound * (max c.in-Some.dimension.now.0 1 * bound_of c.in-Some.rest.now) ≡ bound_of c.args.dimensions.now = ap (λ dimensions. c.loop-dimension.bound * bound_of dimensions) (sym c.in-Some.ensures.cases.0) ∙ c.loop-dimension.invariant.whole in
    (search rules, λ fits. absurd (c.in-None.ensures (subst (λ (most : ℕ). c.loop-dimension.bound * most < 2 ^ 64) (sym c.max.ensures) (front_fits c.loop-dimension.bound c.in-Some.dimension.now.0 c.in-Some.rest.now (omega (arith, whole, fits))))))

pub loop-dimension-preserved : goal.loop-dimension-preserved
loop-dimension-preserved c =
    let whole : c.loop-dimension.bound * (max c.in-Some.dimension.now.0 1 * bound_of c.in-Some.rest.now) ≡ bound_of c.args.dimensions.now = ap (λ dimensions. c.loop-dimension.bound * bound_of dimensions) (sym c.in-Some.ensures.cases.0) ∙ c.loop-dimension.invariant.whole in
    let product : c.in-Some-checked_mul.product ≡ c.loop-dimension.bound * max c.in-Some.dimension.now.0 1 = c.in-Some-checked_mul.ensures.1 ∙ ap (λ most. c.loop-dimension.bound * most) c.max.ensures in
    record {
      some = omega (arith, product, c.loop-dimension.invariant.some, product_grows c.loop-dimension.bound (max c.in-Some.dimension.now.0 1) (omega arith));
      fits = search rules;
      whole = omega (arith, whole, ap (λ front. front * bound_of c.in-Some.rest.now) product);
    }
