use Rattle.std.proofs.Common.{chars}
use Rattle.py_codec.proofs.Refusals.{no_run-as}
use Rattle.py_codec.proofs.refusing.first_run.Goals as goal

pub returns-in-Utf8-clause-run : goal.returns-in-Utf8-clause-run
returns-in-Utf8-clause-run c = no_run-as c.args.encoding (chars c.args.text.now) c.in-Utf8.is
