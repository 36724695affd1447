use Rattle.std.proofs.Common.{◌∙◌, sym, arith, rules}
use Rattle.py_adapters.proofs.Cutting.{tells, kept, cut, no_characters}
use Rattle.py_adapters.proofs.chopping.pop_char.Goals as goal

pub returns-then-is_empty-clause-popped : goal.returns-then-is_empty-clause-popped
returns-then-is_empty-clause-popped c = grind (arith, no_characters)

pub returns-then-is_empty-clause-left : goal.returns-then-is_empty-clause-left
returns-then-is_empty-clause-left c = grind (arith, no_characters)

pub returns-then-last-end-clause-popped : goal.returns-then-last-end-clause-popped
returns-then-last-end-clause-popped c = sym (tells c.args.end c.pop.new.self c.args.text.now c.unwrap-last.result (grind (arith, rules)) ∙ grind arith)

pub returns-then-last-end-clause-left : goal.returns-then-last-end-clause-left
returns-then-last-end-clause-left c = kept c.args.end c.pop.new.self c.args.text.now c.push.new.self c.unwrap-last.result (grind (arith, rules)) (grind (arith, rules)) (grind arith)

pub returns-clause-popped : goal.returns-clause-popped
returns-clause-popped c = sym (tells c.args.end c.pop.new.self c.args.text.now c.unwrap-last.result (grind (arith, rules)) ∙ grind arith)

pub returns-clause-left : goal.returns-clause-left
returns-clause-left c = cut c.args.end c.pop.new.self c.args.text.now c.unwrap-last.result (grind (arith, rules)) (grind arith)
