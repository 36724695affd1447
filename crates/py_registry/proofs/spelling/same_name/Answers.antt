use Rattle.std.proofs.Common.{◌∙◌}
use Rattle.py_registry.proofs.Named.{same-text}
use Rattle.py_registry.proofs.spelling.same_name.Goals as goal

pub returns : goal.returns
returns c = c.eq.ensures ∙ same-text c.args.one.now c.args.other.now c.utf8.one c.utf8.other
