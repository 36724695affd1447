-- The steps by which a line end is taken off: the last unit, and the one before it.
use Rattle.std.specs.Prelude.{ℕ, Bool, false, nat_eq, List, [], ◌∷◌, if◌then◌else◌}

-- whether the last of a list is this one
abbrev pub ends_in : ℕ → List ℕ → Bool
ends_in end [] = false
ends_in end (c ∷ []) = nat_eq c end
ends_in end (c ∷ d ∷ cs) = ends_in end (d ∷ cs)

-- a list without its last where that is this one
abbrev pub without_last : ℕ → List ℕ → List ℕ
without_last end [] = []
without_last end (c ∷ []) = if nat_eq c end then [] else c ∷ []
without_last end (c ∷ d ∷ cs) = c ∷ without_last end (d ∷ cs)
