use Rattle.std.proofs.Common.{sym, ap, ◌∙◌}
use Rattle.py_registry.specs.Answers.{name_or_strict}
use Rattle.py_calls.proofs.Planning.{strict_spelled}
use Rattle.py_calls.proofs.open_args.handler_name.Goals as goal

pub returns-in-Some : goal.returns-in-Some
returns-in-Some c = c.as_str.ensures ∙ sym (ap name_or_strict c.in-Some.is)

pub returns-in-None : goal.returns-in-None
returns-in-None c = strict_spelled ∙ sym (ap name_or_strict c.in-None.is)
