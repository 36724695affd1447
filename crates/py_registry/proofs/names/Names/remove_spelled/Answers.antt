use Rattle.std.proofs.Common.{ℕ, List, remove, sym, ap, ◌∙◌}
use Rattle.py_registry.specs.Names.{named}
use Rattle.py_registry.proofs.Named.{remove-named}
use Rattle.py_registry.proofs.names.Names.remove_spelled.Goals as goal

pub returns-clause-after : goal.returns-clause-after
returns-clause-after g c =
    ap (named {V = g.row.V.Denot}) c.shift_remove_index.ensures.entries
    ∙ (remove-named c.self.inside.entries.entries c.in_ok-place.place
    ∙ (ap (λ (entries : List (List ℕ × g.row.V.Denot)). remove entries c.in_ok-place.place) c.self.view_is ∙ sym c.in_ok-place.ensures.without))
