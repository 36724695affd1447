-- Look-ups in a list of entries, after an entry is added or holds something else.
use Rattle.std.proofs.Common.{◌≡◌, ◌≢◌, ℕ, ◌+◌, ◌<◌, true, false, List, [], ◌∷◌, ◌++◌, suc, length, take, drop, set, get_or, Some, None, refl, sym, ap, ◌∙◌, arith, drop-cons}
use Rattle.std.proofs.lemmas.Slice.Eq.{bytes_eq-Decides}
use Rattle.std.proofs.lemmas.List.{set_split, take-append-drop, take_more}
use Rattle.std.specs.Str.{bytes_eq}
use Rattle.py_raw_memory.specs.declared.entries.Entry.{Entry}
use Rattle.py_raw_memory.specs.Entries.{path_of, held_in, StandsAt, HoldsNow}

-- a test of two paths that aren't the same
other_path : (path other : List ℕ) → other ≢ path → bytes_eq path other ≡ false
other_path path other apart = grind (arith, bytes_eq-Decides path other)

-- a look-up passes over entries that hold nothing for the path
held_past : {T : Type 0} → (front back : List (Entry T)) (path : List ℕ) → held_in front path ≡ None → held_in (front ++ back) path ≡ held_in back path
held_past [] back path none = refl
held_past (entry ∷ more) back path none = grind (arith, held_past more back path)

-- an entry of a path is found behind entries that hold nothing for the path
held_here : {T : Type 0} → (front : List (Entry T)) (entry : Entry T) (back : List (Entry T)) (path : List ℕ) → path_of entry ≡ path → held_in front path ≡ None → held_in (front ++ entry ∷ back) path ≡ Some entry.held
held_here front entry back path named none =
    let found : bytes_eq (path_of entry) path ≡ true = (bytes_eq-Decides (path_of entry) path).1 named in
    rw (held_past front (entry ∷ back) path none, found) refl

-- the look-up of a path stays as it was where an entry of another path holds something else
held_around : {T : Type 0} → (front : List (Entry T)) (entry changed : Entry T) (back : List (Entry T)) (other : List ℕ) → path_of changed ≡ path_of entry → other ≢ path_of entry → held_in (front ++ changed ∷ back) other ≡ held_in (front ++ entry ∷ back) other
held_around [] entry changed back other same apart = let unlike = other_path (path_of entry) other apart in grind (arith, unlike)
held_around (first ∷ more) entry changed back other same apart = grind (arith, held_around more entry changed back other same apart)

-- an entry that is added after all leaves the look-up of any other path as it was
held_added : {T : Type 0} → (entries : List (Entry T)) (added : Entry T) (other : List ℕ) → other ≢ path_of added → held_in (entries ++ added ∷ []) other ≡ held_in entries other
held_added [] added other apart = let unlike = other_path (path_of added) other apart in grind (arith, unlike)
held_added (first ∷ more) added other apart = grind (arith, held_added more added other apart)

-- one entry more that isn't of the path
pub none_more : {T : Type 0} → (entries : List (Entry T)) (place : ℕ) (entry : Entry T) (path : List ℕ) → place < length entries → entry ≡ get_or entries place entry → held_in (take place entries) path ≡ None → bytes_eq (path_of entry) path ≡ false → held_in (take (place + 1) entries) path ≡ None
none_more entries place entry path within read none apart =
    rw (take_more entries place entry within, ← read, held_past (take place entries) (entry ∷ []) path none, apart) refl

-- the list around a place
around : {T : Type 0} → (entries : List (Entry T)) (place : ℕ) (d : Entry T) → place < length entries → take place entries ++ get_or entries place d ∷ drop (suc place) entries ≡ entries
around entries place d within =
    ap (λ rest. take place entries ++ rest) (sym (drop-cons entries place d within)) ∙ take-append-drop place entries

-- the first entry of a path is what it holds
pub held_at : {T : Type 0} → (entries : List (Entry T)) (path : List ℕ) (place : ℕ) (d : Entry T) → StandsAt entries path place → held_in entries path ≡ Some (get_or entries place d).held
held_at entries path place d at =
    sym (ap (λ all. held_in all path) (around entries place d at.within))
    ∙ held_here (take place entries) (get_or entries place d) (drop (suc place) entries) path (at.named d) at.first

-- something else for the entry of a path
pub HoldsNow-set : {T : Type 0} → (entries : List (Entry T)) (path : List ℕ) (place : ℕ) (d changed : Entry T) → StandsAt entries path place → path_of changed ≡ path → HoldsNow (held_in entries) path changed.held (held_in (set entries place changed))
HoldsNow-set entries path place d changed at named =
    let split = set_split entries place changed at.within in
    let held : held_in (set entries place changed) path ≡ Some changed.held =
    ap (λ all. held_in all path) split ∙ held_here (take place entries) changed (drop (suc place) entries) path named at.first in
    record {
      held_now = held;
      others = λ (other : List ℕ) (apart : other ≢ path).
          ap (λ all. held_in all other) split
          ∙ held_around (take place entries) (get_or entries place d) changed (drop (suc place) entries) other (named ∙ sym (at.named d)) (λ (same : other ≡ path_of (get_or entries place d)). apart (same ∙ at.named d))
          ∙ ap (λ all. held_in all other) (around entries place d at.within);
    }

-- an entry for a path that had none
pub HoldsNow-push : {T : Type 0} → (entries : List (Entry T)) (path : List ℕ) (added : Entry T) → held_in entries path ≡ None → path_of added ≡ path → HoldsNow (held_in entries) path added.held (held_in (entries ++ added ∷ []))
HoldsNow-push entries path added none named = record {
  held_now = held_here entries added [] path named none;
  others = λ (other : List ℕ) (apart : other ≢ path). held_added entries added other (λ (same : other ≡ path_of added). apart (same ∙ named));
}
