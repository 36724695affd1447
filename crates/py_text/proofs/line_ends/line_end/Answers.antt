use Rattle.py_text.proofs.Lines.{lf-text, cr-text, cr-lf-text}
use Rattle.py_text.proofs.line_ends.line_end.Goals as goal

pub returns-in-Universal : goal.returns-in-Universal
returns-in-Universal c = lf-text c.args.newline c.in-Universal.is

pub returns-in-Cr : goal.returns-in-Cr
returns-in-Cr c = cr-text c.args.newline c.in-Cr.is

pub returns-in-Crlf : goal.returns-in-Crlf
returns-in-Crlf c = cr-lf-text c.args.newline c.in-Crlf.is
