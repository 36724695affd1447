-- What a handler gave for a refused range, where it gave anything.
use Rattle.std.proofs.Common.{◌≡◌, ℕ, List, ◌++◌, Some}
use Rattle.py_plain.specs.Handlers.{Handled, Replaced, Refuses}
use Rattle.py_plain.specs.Decoding.{Treats}

-- what a handler gave stands for the bytes that it used, and was appended
pub Treats-some : (handled : Handled) (used : ℕ) (before after : List ℕ) → Treats handled before after (Some used) → (characters : List ℕ) × (handled ≡ Replaced characters used) × (after ≡ before ++ characters)
Treats-some (Replaced characters count) used before after gave = (characters, cc, gave.0)
Treats-some Refuses used before after gave = absurd (cc)
