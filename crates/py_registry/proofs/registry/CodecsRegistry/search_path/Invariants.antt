use Rattle.std.proofs.Common.{◌≡◌, drop, chars}
use Rattle.py_registry.specs.Machine.{searched}
use Rattle.py_registry.proofs.registry.CodecsRegistry.search_path.Given as goal

abbrev pub invariant-loop-function : goal.invariant-loop-function
invariant-loop-function g l = searched g.S.SearchFunction.finds (drop l.function-index l.function-items) (chars l.name) ≡ searched g.S.SearchFunction.finds l.path (chars l.name)
