use Rattle.py_text.proofs.WrittenCuts.{first-lf, cut-at, all-plain, after-lf}
use Rattle.py_text.proofs.line_ends.cut_at_lf.Goals as goal

pub split_at-requires-in-Some : goal.split_at-requires-in-Some
split_at-requires-in-Some c =
    let first = first-lf c.as_bytes.result.now c.args.text.now c.in-Some.at c.as_bytes.ensures.value c.in-Some.ensures.0 c.in-Some.ensures.1 in
    after-lf c.args.text.now c.split_at.result.1.now c.in-Some.at c.utf8.text first c.split_at.ensures.back

pub returns-in-Some-clause-cut : goal.returns-in-Some-clause-cut
returns-in-Some-clause-cut c =
    let first = first-lf c.as_bytes.result.now c.args.text.now c.in-Some.at c.as_bytes.ensures.value c.in-Some.ensures.0 c.in-Some.ensures.1 in
    cut-at c.args.text.now c.split_at.result.0.now c.split_at.result.1.now c.split_at-in-Some.result.1.now c.in-Some.at c.utf8.text first c.split_at.ensures.front c.split_at.ensures.back c.split_at-in-Some.ensures.back

pub returns-in-None-clause-cut : goal.returns-in-None-clause-cut
returns-in-None-clause-cut c = all-plain c.as_bytes.result.now c.args.text.now c.utf8.text c.as_bytes.ensures.value c.in-None.ensures
