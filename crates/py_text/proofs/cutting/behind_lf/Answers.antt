use Rattle.py_text.proofs.Copying.{lf-cut, lf-first, behind-lf, behind-no-lf}
use Rattle.py_text.proofs.cutting.behind_lf.Goals as goal

pub split_at-requires : goal.split_at-requires
split_at-requires c = lf-cut c.as_bytes.result.now c.args.text.now c.utf8.text c.requires c.as_bytes.ensures.value c.if-as_bytes-eq10.true

pub returns-then-as_bytes-eq10-clause-gives : goal.returns-then-as_bytes-eq10-clause-gives
returns-then-as_bytes-eq10-clause-gives c = (behind-lf c.args.text.now c.split_at.result.1.now c.utf8.text (lf-first c.as_bytes.result.now c.args.text.now c.split_at.result.1.now c.requires c.as_bytes.ensures.value c.if-as_bytes-eq10.true c.split_at.ensures.back)).0

pub returns-then-as_bytes-eq10-clause-holds : goal.returns-then-as_bytes-eq10-clause-holds
returns-then-as_bytes-eq10-clause-holds c = (behind-lf c.args.text.now c.split_at.result.1.now c.utf8.text (lf-first c.as_bytes.result.now c.args.text.now c.split_at.result.1.now c.requires c.as_bytes.ensures.value c.if-as_bytes-eq10.true c.split_at.ensures.back)).1

pub returns-clause-gives : goal.returns-clause-gives
returns-clause-gives c = (behind-no-lf c.as_bytes.result.now c.args.text.now c.utf8.text c.requires c.as_bytes.ensures.value c.if-as_bytes-eq10.false).0

pub returns-clause-holds : goal.returns-clause-holds
returns-clause-holds c = (behind-no-lf c.as_bytes.result.now c.args.text.now c.utf8.text c.requires c.as_bytes.ensures.value c.if-as_bytes-eq10.false).1
