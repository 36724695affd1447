use Rattle.std.proofs.Common.{◌≡◌, ℕ, map, take}
use Rattle.py_registry.proofs.registry.CodecsRegistry.path.Given as goal

abbrev pub invariant-loop-function : goal.invariant-loop-function
invariant-loop-function g l = l.functions.items ≡ map (λ (numbered : ℕ × g.row.S.Denot). numbered.1) (take l.function-index l.self.functions)
