use Rattle.std.proofs.Common.{chars}
use Rattle.py_registry.specs.Names.{normal_name, same_name}
use Rattle.py_registry.proofs.Entries.{NoneBefore}
use Rattle.py_registry.proofs.names.Names.spelled_entry.Given as goal

abbrev pub invariant-loop-place : goal.invariant-loop-place
invariant-loop-place g l = NoneBefore (λ kept. same_name kept (normal_name (chars l.name))) l.self l.place
