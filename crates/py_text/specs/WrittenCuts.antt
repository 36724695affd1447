-- A text that is cut at its first LF.
use Rattle.std.specs.Prelude.{◌≡◌, ℕ, Bool, true, false, nat_eq, List, [], ◌∷◌, ◌++◌}
use Rattle.std.specs.List.{list_any}
use Rattle.py_flat.specs.Lines.{lf}

-- an LF and what stands behind it; nothing where there is none
abbrev pub behind_run : (ended : Bool) → List ℕ → List ℕ
behind_run true left = lf ∷ left
behind_run false left = []

-- a run without an LF, and behind it an LF and the rest, or nothing
pub record IsCutAtLf (text run : List ℕ) (ended : Bool) (left : List ℕ) : Type 0 where
  pub whole : text ≡ run ++ behind_run ended left
  pub plain : list_any (λ c. nat_eq c lf) run ≡ false
