use Rattle.py_adapters.proofs.Loans.{look_keeps, look_ends}
use Rattle.py_adapters.proofs.lend_held.BufferedReaderLendHeld.fill.Goals as goal

pub returns-clause-keeps : goal.returns-clause-keeps
returns-clause-keeps g c = look_keeps c.args.self.now c.fill.result c.fill.new.self c.fill.ensures

pub returns-clause-end : goal.returns-clause-end
returns-clause-end g c = look_ends c.args.self.now c.fill.result c.fill.new.self c.fill.ensures
