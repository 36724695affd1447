use Rattle.std.proofs.Common.{chars, ◌∙◌}
use Rattle.py_text.proofs.Lines.{four-long}
use Rattle.py_text.proofs.sizes.written_length.Goals as goal

pub returns-in-Universal : goal.returns-in-Universal
returns-in-Universal c = c.length_as_is.ensures.bytes ∙ four-long c.args.coder c.args.newline (chars c.args.text.now) c.in-Universal.is
