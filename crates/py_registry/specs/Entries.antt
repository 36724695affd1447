-- Where the first entry of a list stands whose key a test accepts.
use Rattle.std.specs.Prelude.{◌≡◌, ℕ, ◌<◌, Bool, List, length, remove, Some, None}
use Rattle.std.specs.Map.{lookup, remove_entry}

module _ {K V : Type 0} where
  -- the first entry whose key is accepted stands at a place, and has a value
  pub record IsEntry (accepts : K → Bool) (entries : List (K × V)) (place : ℕ) (value : V) : Type 0 where
    pub inside : place < length entries
    pub found : lookup accepts entries ≡ Some value
    pub without : remove_entry accepts entries ≡ remove entries place

  -- no entry's key is accepted
  pub record IsNoEntry (accepts : K → Bool) (entries : List (K × V)) : Type 0 where
    pub found : lookup accepts entries ≡ None
    pub without : remove_entry accepts entries ≡ entries
