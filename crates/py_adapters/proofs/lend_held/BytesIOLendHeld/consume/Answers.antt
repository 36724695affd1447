use Rattle.py_adapters.proofs.Loans.{memory_drops}
use Rattle.py_adapters.proofs.lend_held.BytesIOLendHeld.consume.Goals as goal

pub returns-clause-drops : goal.returns-clause-drops
returns-clause-drops c = memory_drops c.args.self.now c.args.amount c.consume.result c.consume.new.self (record { answer = c.consume.ensures.answer; count = c.consume.ensures.count; refused = c.consume.ensures.refused; exports = c.consume.ensures.exports; taken = c.consume.ensures.taken })
