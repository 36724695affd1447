use Rattle.std.proofs.Common.{◌*◌, ◌<◌, ◌^◌, max, arith, subst, List}
use Rattle.py_buffer.specs.Descriptor.{bound_of, Dimension}
use Rattle.py_buffer.proofs.Products.{items_fit}
use Rattle.py_buffer.proofs.measures.items_of.Goals as goal

pub overflow_mul-items : goal.overflow_mul-items
overflow_mul-items c =
    let fits : c.loop-dimension.items * (max c.in-Some.dimension.now.0 1 * bound_of c.in-Some.rest.now) < 2 ^ 64 = subst (λ (dimensions : List Dimension). c.loop-dimension.items * bound_of dimensions < 2 ^ 64) c.in-Some.ensures.cases.0 c.loop-dimension.invariant.fits in
    omega (arith, items_fit c.loop-dimension.items c.in-Some.dimension.now.0 c.in-Some.rest.now fits)
