use Rattle.std.proofs.Common.{arith}
use Rattle.py_engine.proofs.Stepping.{cut_step, cut_back}
use Rattle.py_engine.proofs.data.BufferedData.stop.Goals as goal

pub returns-then-pending_place-start-clause-stream : goal.returns-then-pending_place-start-clause-stream
returns-then-pending_place-start-clause-stream g c = grind (arith, cut_back)

pub invariant_of-self : goal.invariant_of-self
invariant_of-self g c = grind (arith, cut_step)
