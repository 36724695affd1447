use Rattle.std.proofs.Common.{arith}
use Rattle.py_adapters.proofs.Cutting.{chops, ends_with}
use Rattle.py_adapters.proofs.chopping.pop_byte.Goals as goal

pub returns-in-Some-clause-popped : goal.returns-in-Some-clause-popped
returns-in-Some-clause-popped c = grind (arith, ends_with)

pub returns-in-Some-clause-left : goal.returns-in-Some-clause-left
returns-in-Some-clause-left c = grind (arith, chops)

pub returns-in-Some-2-clause-popped : goal.returns-in-Some-2-clause-popped
returns-in-Some-2-clause-popped c = grind (arith, ends_with)

pub returns-in-Some-2-clause-left : goal.returns-in-Some-2-clause-left
returns-in-Some-2-clause-left c = grind (arith, chops)
