use Rattle.std.proofs.Common.{ℕ, List, ap, ◌∙◌}
use Rattle.indexmap.specs.IndexMap.{insert_entry}
use Rattle.py_codec.specs.Answers.{text_of}
use Rattle.py_registry.specs.Names.{named, same_name}
use Rattle.py_registry.proofs.Named.{insert-named}
use Rattle.py_registry.proofs.names.Names.put.Goals as goal

pub returns-clause-ok : goal.returns-clause-ok
returns-clause-ok g c =
    ap (named {V = g.row.V.Denot}) c.in_ok-insert.ensures.entries
    ∙ (insert-named c.args.name c.args.value c.self.inside.entries.entries
    ∙ ap (λ (entries : List (List ℕ × g.row.V.Denot)). insert_entry (λ name kept. same_name kept name) entries (text_of c.args.name) c.args.value) c.self.view_is)
