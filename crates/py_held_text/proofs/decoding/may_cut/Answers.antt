use Rattle.std.proofs.Common.{sym, ◌∙◌}
use Rattle.py_held_text.proofs.Alone.{cut-first, cut-none}
use Rattle.py_held_text.proofs.decoding.may_cut.Goals as goal

pub returns-then-is_empty : goal.returns-then-is_empty
returns-then-is_empty c = c.if-is_empty.true ∙ cut-none c.args.came.now c.args.cr c.if-cr.true (sym c.is_empty.ensures ∙ c.if-is_empty.true)

pub returns-else-is_empty : goal.returns-else-is_empty
returns-else-is_empty c = cut-first c.as_bytes.result.now c.args.came.now c.args.cr c.utf8.came c.if-cr.true (sym c.is_empty.ensures ∙ c.if-is_empty.false) c.as_bytes.ensures.value
