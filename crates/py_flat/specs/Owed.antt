-- Bytes that a stream has taken from its callers and that the raw isn't known to have taken.
use Rattle.std.specs.Prelude.{◌≡◌, ℕ, List}
use Rattle.py_flat.specs.Bytes.{lay}

-- the bytes and the place of the first of them
pub record Owed : Type 0 where
  pub bytes : List ℕ
  pub place : ℕ

-- the flat bytes are the raw's with the owed ones laid at their place
abbrev pub IsFlatOver : List ℕ → Owed → List ℕ → Type 0
IsFlatOver raw owed flat = flat ≡ lay raw owed.place owed.bytes
