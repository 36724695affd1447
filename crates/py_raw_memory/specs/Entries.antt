-- Paths with what they hold: the entries of an opener in memory, as a look-up by path.
use Rattle.std.specs.Prelude.{◌≡◌, ◌≢◌, ℕ, ◌<◌, List, [], ◌∷◌, length, take, slice_index_or, string_bytes, Option, Some, None, if◌then◌else◌}
use Rattle.std.specs.Str.{bytes_eq}
use Rattle.py_raw_memory.specs.declared.entries.Entry.{Entry}

-- the bytes of an entry's path
abbrev pub path_of : {T : Type 0} → Entry T → List ℕ
path_of entry = string_bytes entry.path

-- what a path holds: what its first entry does
abbrev pub held_in : {T : Type 0} → List (Entry T) → List ℕ → Option T
held_in [] path = None
held_in (entry ∷ more) path = if bytes_eq (path_of entry) path then Some entry.held else held_in more path

-- the first entry of a path stands at a place
pub record StandsAt {T : Type 0} (entries : List (Entry T)) (path : List ℕ) (place : ℕ) : Type 0 where
  pub within : place < length entries
  pub first : held_in (take place entries) path ≡ None
  pub named : (d : Entry T) → path_of (slice_index_or entries place d) ≡ path

-- from one look-up to the next: a path holds this now, every other what it held
pub record HoldsNow {A : Type 0} (old : List ℕ → Option A) (path : List ℕ) (held : A) (new : List ℕ → Option A) : Type 0 where
  pub held_now : new path ≡ Some held
  pub others : (other : List ℕ) → other ≢ path → new other ≡ old other
