use Rattle.std.proofs.Common.{ap, ◌∙◌, drop}
use Rattle.py_text.proofs.Copying.{first-cr, cut-at, all-copied, after-cr}
use Rattle.py_text.proofs.cutting.cut_at_cr.Goals as goal

pub split_at-requires-in-Some : goal.split_at-requires-in-Some
split_at-requires-in-Some c =
    let first = first-cr c.as_bytes.result.now c.args.text.now c.in-Some.at c.as_bytes.ensures.value c.in-Some.ensures.0 c.in-Some.ensures.1 in
    after-cr c.args.text.now c.split_at.result.1.now c.in-Some.at c.utf8.text first c.split_at.ensures.back

pub returns-in-Some-clause-copied : goal.returns-in-Some-clause-copied
returns-in-Some-clause-copied c =
    let first = first-cr c.as_bytes.result.now c.args.text.now c.in-Some.at c.as_bytes.ensures.value c.in-Some.ensures.0 c.in-Some.ensures.1 in
    cut-at c.args.text.now c.split_at.result.0.now c.split_at-in-Some.result.1.now c.in-Some.at c.utf8.text first c.split_at.ensures.front (c.split_at-in-Some.ensures.back ∙ ap (drop 1) c.split_at.ensures.back)

pub returns-in-None-clause-copied : goal.returns-in-None-clause-copied
returns-in-None-clause-copied c = all-copied c.as_bytes.result.now c.args.text.now c.utf8.text c.as_bytes.ensures.value c.in-None.ensures
