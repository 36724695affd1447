use Rattle.std.proofs.Common.{◌∙◌, arith, rules}
use Rattle.py_flat.specs.Lines.{lf}
use Rattle.py_adapters.proofs.Cutting.{pair_none, pair_half, pair_both, ended}
use Rattle.py_adapters.proofs.chopping.chop_pair_of_text.Goals as goal

pub returns-then-not-pop_char : goal.returns-then-not-pop_char
returns-then-not-pop_char c = grind (arith, pair_none)

pub returns-then-not-pop_char-2 : goal.returns-then-not-pop_char-2
returns-then-not-pop_char-2 c = ended c.pop_char-2.new.text c.push.new.self lf (grind (arith, rules)) ∙ grind (arith, pair_half)

pub returns-else-not-pop_char-2 : goal.returns-else-not-pop_char-2
returns-else-not-pop_char-2 c = grind (arith, pair_both)
