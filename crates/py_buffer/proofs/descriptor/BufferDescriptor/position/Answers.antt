use Rattle.std.proofs.Common.{◌≡◌, ◌+◌, ◌<◌, ◌^◌, arith, rules, ap, ◌∙◌, sym, subst, List, ◌∷◌, Some, length, unsigned_abs, to_z, w64}
use Rattle.std.proofs.lemmas.Int.{to_z-of_z}
use mir.Val.{SFits}
use Rattle.py_buffer.specs.Descriptor.{reach_of, Dimension, Each, IsSound}
use Rattle.py_buffer.specs.Position.{entry_at, step_onto, indexed_from}
use Rattle.py_buffer.proofs.Products.{index_within}
use Rattle.py_buffer.proofs.Indexing.{entry_below, one_indexed}
use Rattle.py_buffer.proofs.descriptor.BufferDescriptor.position.Goals as goal

pub loop-index-preserved : goal.loop-index-preserved
loop-index-preserved c =
    let stepped : SFits w64 c.stepped-position.result = search rules in
    let signed : SFits w64 c.in-Some-Some.index.now = search rules in
    let found : entry_at c.in-Some-Some.index.now c.in-Some-Some.dimension.now.0 ≡ Some c.in-Some.index = ap (λ z. entry_at z c.in-Some-Some.dimension.now.0) (sym (to_z-of_z w64 c.in-Some-Some.index.now signed)) ∙ sym c.in-Some.ensures in
    let below = entry_below c.in-Some-Some.index.now c.in-Some-Some.dimension.now.0 c.in-Some.index found in
    let reach = subst (λ (dimensions : List Dimension). unsigned_abs (to_z w64 c.loop-index.position-bits) + reach_of dimensions < 2 ^ 63) c.in-Some-Some.ensures'.cases.0 c.loop-index.invariant.fits in
    record {
      long = omega (arith, ap length c.in-Some-Some.ensures.cases.0, ap length c.in-Some-Some.ensures'.cases.0, c.loop-index.invariant.long);
      sound = (subst (λ (dimensions : List Dimension). Each IsSound dimensions) c.in-Some-Some.ensures'.cases.0 c.loop-index.invariant.sound).1;
      counted = omega (arith, ap length c.in-Some-Some.ensures'.cases.0, c.loop-index.invariant.counted);
      fits = omega (arith, reach, ap unsigned_abs (to_z-of_z w64 c.stepped-position.result stepped), c.stepped-position.ensures.size, index_within c.in-Some.index c.in-Some-Some.dimension.now.0 (unsigned_abs c.in-Some-Some.dimension.now.1) below);
      whole =
          ap (λ z. step_onto z (indexed_from (c.loop-index.number + 1) c.in-Some-Some.others.now c.in-Some-Some.rest.now)) (to_z-of_z w64 c.stepped-position.result stepped ∙ c.stepped-position.ensures.value)
          ∙ sym (one_indexed (to_z w64 c.loop-index.position-bits) c.in-Some-Some.index.now c.in-Some.index c.loop-index.number c.in-Some-Some.dimension.now c.in-Some-Some.others.now c.in-Some-Some.rest.now found)
          ∙ ap (λ indices. step_onto (to_z w64 c.loop-index.position-bits) (indexed_from c.loop-index.number indices (c.in-Some-Some.dimension.now ∷ c.in-Some-Some.rest.now))) (sym c.in-Some-Some.ensures.cases.0)
          ∙ ap (λ dimensions. step_onto (to_z w64 c.loop-index.position-bits) (indexed_from c.loop-index.number c.loop-index.indices.now dimensions)) (sym c.in-Some-Some.ensures'.cases.0)
          ∙ c.loop-index.invariant.whole;
    }
