use Rattle.py_textio.proofs.Settling.{handed_once}
use Rattle.py_textio.proofs.written_text.WrittenText.hand_on.Goals as goal

pub returns-clause-once : goal.returns-clause-once
returns-clause-once g c = handed_once c.args.self.now c.settle_or_let_go.new.self c.args.count c.args.flushes c.settle_or_let_go.result c.settle_or_let_go.ensures.outcome
