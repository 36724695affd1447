use Rattle.std.proofs.Common.{ℕ, List, chars, ap, ◌∙◌}
use Rattle.std.specs.Map.{lookup}
use Rattle.py_registry.specs.Names.{same_name}
use Rattle.py_registry.proofs.Named.{lookup-named}
use Rattle.py_registry.proofs.names.Names.get.Goals as goal

pub returns-in-Some : goal.returns-in-Some
returns-in-Some g c =
    let name = chars c.args.name.now in
    c.in-Some.ensures.value ∙ (lookup-named c.args.name.now c.utf8.name c.self.inside.entries.entries ∙ ap (λ (entries : List (List ℕ × g.row.V.Denot)). lookup (λ kept. same_name kept name) entries) c.self.view_is)

pub returns-in-None : goal.returns-in-None
returns-in-None g c =
    let name = chars c.args.name.now in
    c.in-None.ensures.value ∙ (lookup-named c.args.name.now c.utf8.name c.self.inside.entries.entries ∙ ap (λ (entries : List (List ℕ × g.row.V.Denot)). lookup (λ kept. same_name kept name) entries) c.self.view_is)
