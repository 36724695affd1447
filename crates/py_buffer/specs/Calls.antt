-- Calls of a closure at the segments, in order.
use Rattle.std.specs.Prelude.{◌≡◌, ◌⊎◌, Bool, true, false, List, [], ◌∷◌}

-- calls at these items, in order, up to and with the first that answers true, led from one state to another; and whether one did
abbrev pub CallsUntil : {F X : Type 0} → (F → X → Bool → F → Type 0) → F → List X → Bool → F → Type 0
CallsUntil calls f [] stopped last = (stopped ≡ false) × (f ≡ last)
CallsUntil calls f (x ∷ xs) stopped last = ((g : _) × calls f x false g × CallsUntil calls g xs stopped last) ⊎ ((stopped ≡ true) × calls f x true last)
