use Rattle.py_adapters.proofs.Loans.{pass_drops}
use Rattle.py_adapters.proofs.lend_held.BufferedReaderLendHeld.consume.Goals as goal

pub returns-clause-drops : goal.returns-clause-drops
returns-clause-drops g c = pass_drops c.args.self.now c.args.amount c.consume.result c.consume.new.self c.consume.ensures
