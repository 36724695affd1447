use Rattle.std.proofs.Common.{rules}
use Rattle.py_textio.proofs.Settling.{handed_not, handed_back}
use Rattle.py_textio.proofs.written_text.WrittenText.settle_or_let_go.Goals as goal

pub returns-then-matches-2-clause-outcome : goal.returns-then-matches-2-clause-outcome
returns-then-matches-2-clause-outcome g c =
    handed_back c.args.self.now c.settle.new.self c.let_go.new.self c.args.count c.in-Err.fault (search rules) c.in-Err.ensures.outcome (search rules) c.let_go.ensures.left

pub returns-else-matches-clause-outcome : goal.returns-else-matches-clause-outcome
returns-else-matches-clause-outcome g c =
    rw c.with_taken.ensures (handed_not c.args.self.now c.settle.new.self c.args.count c.in-Err.fault c.requires.owes c.in-Err.ensures.outcome (search rules))
