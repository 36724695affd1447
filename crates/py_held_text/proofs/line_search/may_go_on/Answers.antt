use Rattle.py_held_text.proofs.Lines.{goes-last}
use Rattle.py_held_text.proofs.line_search.may_go_on.Goals as goal

pub returns-in-Passthrough : goal.returns-in-Passthrough
returns-in-Passthrough c = goes-last c.args.newline c.args.text.now c.as_bytes.result.now c.ends_with_cr.result c.in-Passthrough.is c.utf8.text c.as_bytes.ensures.value c.ends_with_cr.ensures
