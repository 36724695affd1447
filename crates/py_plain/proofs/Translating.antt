-- What the universal rule gives of what is left.
use Rattle.std.proofs.Common.{ℕ, Bool, true, ◌&&◌, List, ◌++◌}
use Rattle.py_plain.specs.NewlineRule.{released, universal, ends_held}

-- what the universal rule gives of some characters; `last` says that nothing comes after them
abbrev pub finished_to : (last : Bool) → Bool → List ℕ → List ℕ
finished_to last held cs = universal held cs ++ released (last && ends_held held cs)

-- what the universal rule gives of some characters after which nothing comes
abbrev pub finished : Bool → List ℕ → List ℕ
finished held cs = finished_to true held cs
