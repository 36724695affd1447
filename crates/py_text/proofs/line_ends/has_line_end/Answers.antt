use Rattle.std.proofs.Common.{◌∙◌}
use Rattle.py_text.proofs.Ends.{has-end}
use Rattle.py_text.proofs.line_ends.has_line_end.Goals as goal

pub returns : goal.returns
returns c = c.is_some.ensures ∙ has-end c.as_bytes.result.now c.args.text.now c.memchr2.result c.utf8.text c.as_bytes.ensures.value c.memchr2.ensures
