-- Blocks of units of UTF-16.
use Rattle.std.specs.Prelude.{ℕ, List, [], ◌∷◌}

-- the bytes of some units, from the first and the second byte of each
unfoldable pub paired : (first second : List ℕ) → List ℕ
paired [] second = []
paired (f ∷ first) [] = []
paired (f ∷ first) (s ∷ second) = f ∷ s ∷ paired first second
