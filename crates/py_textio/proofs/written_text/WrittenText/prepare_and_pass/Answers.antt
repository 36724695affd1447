use Rattle.std.proofs.Common.{rules, true}
use Rattle.py_textio.proofs.Giving.{hand_behind, ready_handed}
use Rattle.py_textio.proofs.written_text.WrittenText.prepare_and_pass.Goals as goal

pub returns-then-matches-clause-outcome : goal.returns-then-matches-clause-outcome
returns-then-matches-clause-outcome g c =
    ready_handed c.args.self.now c.prepare.new.self c.let_go.new.self c.args.count c.in-Err.fault (search rules) c.requires.stands c.in-Err.ensures.outcome c.let_go.ensures.left

pub returns-in-Ok-clause-outcome : goal.returns-in-Ok-clause-outcome
returns-in-Ok-clause-outcome g c =
    hand_behind c.args.self.now c.prepare.new.self c.settle_and_pass.new.self c.args.count true c.settle_and_pass.result c.life.ensures.joined c.in-Ok.ensures.joined c.in-Ok.ensures.outcome.0 c.settle_and_pass.ensures.outcome
