use Rattle.std.proofs.Common.{◌∙◌}
use Rattle.py_calls.proofs.Planning.{is_locale}
use Rattle.py_calls.proofs.open_args.is_locale.Goals as goal

pub returns : goal.returns
returns c = c.eq.ensures ∙ is_locale c.args.name.now c.utf8.name
