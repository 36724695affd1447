use Rattle.std.proofs.Common.{List, ℕ, Option, Bor, chars, option_map, refl, sym, ap, ◌∙◌}
use Rattle.py_registry.specs.Answers.{name_or_strict}
use Rattle.py_registry.proofs.Spelled.{plain-chars}
use Rattle.py_registry.proofs.coding.name_or_strict.Goals as goal

pub returns-in-None : goal.returns-in-None
returns-in-None c =
    plain-chars _ refl ∙ sym (ap (λ (given : Option (Bor (List ℕ))). name_or_strict (option_map (λ (errors : Bor (List ℕ)). chars errors.now) given)) c.in-None.is)
