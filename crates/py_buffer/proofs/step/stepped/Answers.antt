use Rattle.std.proofs.Common.{◌≡◌, ◌*◌, ◌+ℤ◌, ◌*ℤ◌, pos, unsigned_abs, rules, w64, ap, ◌∙◌, sym, subst, ℤ}
use Rattle.std.proofs.Common.{◌≤◌, ◌+◌}
use Rattle.std.proofs.lemmas.Int.{to_z-of_z}
use mir.Val.{SFits}
use Rattle.py_buffer.proofs.Indexing.{sum_is, sum_within}
use Rattle.py_buffer.proofs.step.stepped.Goals as goal

pub returns-clause-value : goal.returns-clause-value
returns-clause-value c =
    let stride : SFits w64 c.args.dimension.now.1 = search rules in
    let suboffset : SFits w64 c.args.dimension.now.2 = search rules in
    let moved : SFits w64 c.along.result = search rules in
    sum_is c.args.position c.along.result c.args.dimension.now.2 _ c.ranges.position moved suboffset (c.along.ensures.size ∙ ap (λ z. c.args.index * unsigned_abs z) (to_z-of_z w64 c.args.dimension.now.1 stride)) c.requires.fits
    ∙ ap (λ z. c.args.position +ℤ (z +ℤ c.args.dimension.now.2)) (c.along.ensures.value ∙ ap (λ z. pos c.args.index *ℤ z) (to_z-of_z w64 c.args.dimension.now.1 stride))

pub returns-clause-size : goal.returns-clause-size
returns-clause-size c =
    let stride : SFits w64 c.args.dimension.now.1 = search rules in
    let suboffset : SFits w64 c.args.dimension.now.2 = search rules in
    let moved : SFits w64 c.along.result = search rules in
    let size : unsigned_abs c.along.result ≡ c.args.index * unsigned_abs c.args.dimension.now.1 = c.along.ensures.size ∙ ap (λ z. c.args.index * unsigned_abs z) (to_z-of_z w64 c.args.dimension.now.1 stride) in
    subst (λ (z : ℤ). unsigned_abs z ≤ unsigned_abs c.args.position + (c.args.index * unsigned_abs c.args.dimension.now.1 + unsigned_abs c.args.dimension.now.2))
    (sym (sum_is c.args.position c.along.result c.args.dimension.now.2 _ c.ranges.position moved suboffset size c.requires.fits))
    (sum_within c.args.position c.along.result c.args.dimension.now.2 _ size)
