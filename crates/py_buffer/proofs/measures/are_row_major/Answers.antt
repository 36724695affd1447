use Rattle.std.proofs.Common.{◌≡◌, ◌*◌, ◌/◌, arith, rules, ap, ◌∙◌, sym, subst, List, ◌∷◌, ◌↔◌}
use Rattle.py_buffer.specs.Descriptor.{items_in, IsRowMajor, Dimension}
use Rattle.py_buffer.proofs.Products.{bytes_behind, some_behind, row_major_steps, row_major_follows}
use Rattle.py_buffer.proofs.measures.are_row_major.Goals as goal

pub returns-then-not-follows : goal.returns-then-not-follows
returns-then-not-follows c =
    let whole : c.loop-dimension.bytes ≡ c.in-Some.dimension.now.0 * items_in c.in-Some.rest.now * c.args.itemsize = c.loop-dimension.invariant.whole ∙ ap (λ dimensions. items_in dimensions * c.args.itemsize) c.in-Some.ensures.cases.0 in
    let behind : c.loop-dimension.bytes / c.in-Some.dimension.now.0 ≡ items_in c.in-Some.rest.now * c.args.itemsize = bytes_behind c.loop-dimension.bytes c.in-Some.dimension.now.0 (items_in c.in-Some.rest.now) c.args.itemsize whole c.loop-dimension.invariant.some in (
      search rules,
      λ all.
          let here : IsRowMajor c.args.itemsize (c.in-Some.dimension.now ∷ c.in-Some.rest.now) = subst (λ (dimensions : List Dimension). IsRowMajor c.args.itemsize dimensions) c.in-Some.ensures.cases.0 (c.loop-dimension.invariant.same.1 all) in
          sym c.if-not-follows.true ∙ c.follows.ensures.1 (row_major_follows c.args.itemsize c.in-Some.dimension.now c.in-Some.rest.now _ behind here),
    )

pub loop-dimension-preserved : goal.loop-dimension-preserved
loop-dimension-preserved c =
    let whole : c.loop-dimension.bytes ≡ c.in-Some.dimension.now.0 * items_in c.in-Some.rest.now * c.args.itemsize = c.loop-dimension.invariant.whole ∙ ap (λ dimensions. items_in dimensions * c.args.itemsize) c.in-Some.ensures.cases.0 in
    let behind : c.loop-dimension.bytes / c.in-Some.dimension.now.0 ≡ items_in c.in-Some.rest.now * c.args.itemsize = bytes_behind c.loop-dimension.bytes c.in-Some.dimension.now.0 (items_in c.in-Some.rest.now) c.args.itemsize whole c.loop-dimension.invariant.some in
    record {
      whole = behind;
      some = omega (arith, behind, some_behind c.loop-dimension.bytes c.in-Some.dimension.now.0 (items_in c.in-Some.rest.now) c.args.itemsize whole c.loop-dimension.invariant.some);
      same =
          let here = subst (λ (dimensions : List Dimension). IsRowMajor c.args.itemsize c.in-Some.rest.now ↔ IsRowMajor c.args.itemsize dimensions)
          (sym c.in-Some.ensures.cases.0) (row_major_steps c.args.itemsize c.in-Some.dimension.now c.in-Some.rest.now _ behind (c.follows.ensures.0 c.if-not-follows.false)) in
          (λ behind. c.loop-dimension.invariant.same.0 (here.0 behind), λ all. here.1 (c.loop-dimension.invariant.same.1 all));
    }
