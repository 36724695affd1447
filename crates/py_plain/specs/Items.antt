-- Items and the plain decoding: a whole list of bytes, walked from its front.
use Rattle.std.specs.Prelude.{ℕ, zero, suc, ◌+◌, ◌-◌, Bool, true, nat_eq, List, [], ◌∷◌, ◌++◌, drop, Option, Some, None, if◌then◌else◌}
use Rattle.py_plain.specs.declared.encoding.Encoding.{Encoding}
use Rattle.py_plain.specs.declared.unit.Unit.{Unit}
use Rattle.py_plain.specs.declared.unit.Unit.TheVariants.{Character, Malformed, Cut}
use Rattle.py_plain.specs.Units.{Order, first_unit, order_after}
use Rattle.py_plain.specs.Handlers.{Handled, Replaced, Refuses, Treatment}

-- a character with its bytes, or a refused range with what stands for it and the bytes that were used; `order` is the one
-- that it was read in
pub record Item : Type 0 where
  pub start : ℕ
  pub length : ℕ
  pub order : Order
  pub characters : List ℕ

-- what comes first: characters for n bytes; a range that is refused; or bytes that may still become a character
pub data FirstItem : Type 0 where
  Given : (characters : List ℕ) (used : ℕ) → FirstItem
  RefusedRange : (length : ℕ) → FirstItem
  Unfinished : FirstItem

abbrev pub item_handled : ℕ → Handled → FirstItem
item_handled length (Replaced characters used) = Given characters used
item_handled length Refuses = RefusedRange length

-- `last` says that no bytes follow: only then is a sequence that is cut a refused range
abbrev pub item_of : Treatment → Bool → ℕ → List ℕ → Option Unit → FirstItem
item_of treat last place rest None = Unfinished
item_of treat last place rest (Some (Character character length)) = Given (character ∷ []) length
item_of treat last place rest (Some (Malformed length)) = item_handled length (treat place rest length)
item_of treat last place rest (Some (Cut length)) = if last then item_handled length (treat place rest length) else Unfinished

abbrev pub first_item : Encoding → Treatment → Bool → Order → ℕ → List ℕ → FirstItem
first_item encoding treat last order place rest = item_of treat last place rest (first_unit encoding order (nat_eq place 0) rest)

-- the bytes after the first that the item uses
abbrev pub used_behind : FirstItem → ℕ
used_behind (Given characters used) = used - 1
used_behind (RefusedRange length) = 0
used_behind Unfinished = 0

-- what ended a walk: the end of the bytes; a refused range, in places of the whole stream; bytes that may still become a character
pub data Ending : Type 0 where
  AtEnd : Ending
  AtRange : (start end : ℕ) → Ending
  AtCut : (start : ℕ) → Ending

-- the items, the order that holds where the walk ended, and what ended it
pub record Walk : Type 0 where
  pub items : List Item
  pub order : Order
  pub ending : Ending

-- a walk that ends where it begins
abbrev pub ends : Order → Ending → Walk
ends order ending = record { items = []; order = order; ending = ending }

-- an item, read in an order at a place, before a walk; a refusal and a cut end it there
abbrev pub onto_walk : Order → (place : ℕ) → FirstItem → Walk → Walk
onto_walk order place (Given characters used) walk = record walk { items = record { start = place; length = used; order = order; characters = characters } ∷ walk.items }
onto_walk order place (RefusedRange length) walk = ends order (AtRange place (place + length))
onto_walk order place Unfinished walk = ends order (AtCut place)

-- the items of the bytes that stand at a place, after the first `skip` of them, read in an order; each item after the first is
-- read in the order that holds after the unit before it
abbrev pub walk_from : Encoding → Treatment → Bool → Order → (place skip : ℕ) → List ℕ → Walk
walk_from encoding treat last order place skip [] = ends order AtEnd
walk_from encoding treat last order place (suc skip) (byte ∷ rest) = walk_from encoding treat last order (place + 1) skip rest
walk_from encoding treat last order place zero (byte ∷ rest) =
    let first = first_item encoding treat last order place (byte ∷ rest) in
    onto_walk order place first (walk_from encoding treat last (order_after encoding order (first_unit encoding order (nat_eq place 0) (byte ∷ rest))) (place + 1) (used_behind first) rest)

-- the characters of some items
abbrev pub characters_of : List Item → List ℕ
characters_of [] = []
characters_of (item ∷ items) = item.characters ++ characters_of items

-- the refused range that ended a walk
abbrev pub refusal_of : Ending → Option (ℕ × ℕ)
refusal_of AtEnd = None
refusal_of (AtRange start end) = Some (start, end)
refusal_of (AtCut start) = None

-- the decoding of all bytes from a place on; `last` says that none come after them
abbrev pub decoding : Encoding → Treatment → (last : Bool) → Order → List ℕ → ℕ → Walk
decoding encoding treat last order bytes place = walk_from encoding treat last order place 0 (drop place bytes)

-- the plain decoding: the items of all bytes from a place on, with nothing after them
abbrev pub plain : Encoding → Treatment → Order → List ℕ → ℕ → Walk
plain encoding treat order bytes place = decoding encoding treat true order bytes place
