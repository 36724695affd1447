use Rattle.std.proofs.Common.{List, ℕ, chars, ap, ◌∙◌}
use Rattle.py_registry.specs.Names.{normal_name, same_name}
use Rattle.py_registry.proofs.Spelled.{plain-chars}
use Rattle.py_registry.proofs.built_in.is.Goals as goal

pub returns : goal.returns
returns c = c.is_spelled.ensures ∙ ap (λ (kept : List ℕ). same_name kept (normal_name (chars c.args.name.now))) (plain-chars c.args.kept.now c.requires)
