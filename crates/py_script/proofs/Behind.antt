-- What was read so far, before what follows.
use Rattle.std.proofs.Common.{◌≡◌, List, [], ◌∷◌, ◌++◌, Option, Some, None, refl, sym, ap, append_assoc}
use Rattle.py_script.specs.Words.{item_before}

-- items before those that follow, where these are well formed
abbrev pub behind : {A : Type 0} → List A → Option (List A) → Option (List A)
behind items None = None
behind items (Some more) = Some (items ++ more)

-- an item before what follows, behind those that were read, is one more that was read
pub behind_more : {A : Type 0} (items : List A) (item : A) (more : Option (List A)) → behind items (item_before (Some item) more) ≡ behind (items ++ item ∷ []) more
behind_more items item None = refl
behind_more items item (Some more) = ap Some (sym (append_assoc items (item ∷ []) more))
