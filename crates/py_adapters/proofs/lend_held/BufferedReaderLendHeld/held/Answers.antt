use Rattle.py_adapters.proofs.Loans.{lent_next}
use Rattle.py_adapters.proofs.lend_held.BufferedReaderLendHeld.held.Goals as goal

pub returns-clause-next : goal.returns-clause-next
returns-clause-next g c = lent_next c.args.self.now c.held.result.now c.held.ensures
