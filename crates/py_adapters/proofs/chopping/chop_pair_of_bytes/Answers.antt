use Rattle.std.proofs.Common.{arith}
use Rattle.py_adapters.proofs.Cutting.{pair_none, pair_half, pair_both}
use Rattle.py_adapters.proofs.chopping.chop_pair_of_bytes.Goals as goal

pub returns-then-not-pop_byte : goal.returns-then-not-pop_byte
returns-then-not-pop_byte c = grind (arith, pair_none)

pub returns-then-not-pop_byte-2 : goal.returns-then-not-pop_byte-2
returns-then-not-pop_byte-2 c = grind (arith, pair_half)

pub returns-else-not-pop_byte-2 : goal.returns-else-not-pop_byte-2
returns-else-not-pop_byte-2 c = grind (arith, pair_both)
