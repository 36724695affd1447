use Rattle.std.proofs.Common.{◌≡◌, ◌+◌, ◌<◌, ◌^◌, true, List, ◌∷◌, [], ◌++◌, arith, ap, ◌∙◌, sym, subst}
use Rattle.py_buffer.specs.Descriptor.{Dimension, Each, IsSound, bound_of, reach_of}
use Rattle.py_buffer.specs.Segments.{is_row, last_of}
use Rattle.py_buffer.proofs.Rows.{row_fits, outer_bounded, sound_split}
use Rattle.py_buffer.proofs.descriptor.BufferDescriptor.walked.Goals as goal

pub overflow_mul-result : goal.overflow_mul-result
overflow_mul-result c =
    let is : c.args.self.now.dim_desc.items ≡ c.in-Some.outer.now ++ c.in-Some.last.now ∷ [] = sym c.as_slice-dimensions.ensures.value ∙ c.in-Some.ensures.cases.0 in
    let row : is_row c.args.self.now.itemsize (last_of (c.in-Some.outer.now ++ c.in-Some.last.now ∷ [])) ≡ true = ap (λ ds. is_row c.args.self.now.itemsize (last_of ds)) (sym is) ∙ sym c.joins_rows.ensures ∙ c.if-joins_rows.true in
    let fits = subst (λ (ds : List Dimension). reach_of ds + c.args.self.now.itemsize < 2 ^ 63) is c.requires.within_reach in
    omega (arith, row_fits c.args.self.now.itemsize c.in-Some.outer.now c.in-Some.last.now row fits)

pub items_of-requires : goal.items_of-requires
items_of-requires c =
    let is : c.args.self.now.dim_desc.items ≡ c.in-Some.outer.now ++ c.in-Some.last.now ∷ [] = sym c.as_slice-dimensions.ensures.value ∙ c.in-Some.ensures.cases.0 in
    outer_bounded c.in-Some.outer.now c.in-Some.last.now (subst (λ (ds : List Dimension). bound_of ds < 2 ^ 64) is c.requires.bounded)

pub returns-in-Some-clause-sound : goal.returns-in-Some-clause-sound
returns-in-Some-clause-sound c =
    let is : c.args.self.now.dim_desc.items ≡ c.in-Some.outer.now ++ c.in-Some.last.now ∷ [] = sym c.as_slice-dimensions.ensures.value ∙ c.in-Some.ensures.cases.0 in
    sound_split c.in-Some.outer.now c.in-Some.last.now (subst (λ (ds : List Dimension). Each IsSound ds) is c.requires.sound)

pub returns-in-Some-clause-fits : goal.returns-in-Some-clause-fits
returns-in-Some-clause-fits c =
    let is : c.args.self.now.dim_desc.items ≡ c.in-Some.outer.now ++ c.in-Some.last.now ∷ [] = sym c.as_slice-dimensions.ensures.value ∙ c.in-Some.ensures.cases.0 in
    let row : is_row c.args.self.now.itemsize (last_of (c.in-Some.outer.now ++ c.in-Some.last.now ∷ [])) ≡ true = ap (λ ds. is_row c.args.self.now.itemsize (last_of ds)) (sym is) ∙ sym c.joins_rows.ensures ∙ c.if-joins_rows.true in
    let fits = subst (λ (ds : List Dimension). reach_of ds + c.args.self.now.itemsize < 2 ^ 63) is c.requires.within_reach in
    row_fits c.args.self.now.itemsize c.in-Some.outer.now c.in-Some.last.now row fits
