use Rattle.py_adapters.proofs.Loans.{lent_next}
use Rattle.py_adapters.proofs.lend_held.BufferedRandomLendHeld.held.Goals as goal

pub returns-clause-next : goal.returns-clause-next
returns-clause-next g c = lent_next c.args.self.now.stream c.held.result.now c.held.ensures
