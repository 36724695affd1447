use Rattle.std.proofs.Common.{nat_eq}
use Rattle.py_registry.proofs.Entries.{NoneBefore}
use Rattle.py_registry.proofs.registry.entry_of.Given as goal

abbrev pub invariant-loop-place : goal.invariant-loop-place
invariant-loop-place g l = NoneBefore (λ own. nat_eq own l.number) l.functions l.place
