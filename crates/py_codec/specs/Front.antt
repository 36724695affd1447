-- The front of a decoding that has as many characters as are wanted, and no item after them.
use Rattle.std.specs.Prelude.{◌≡◌, ℕ, zero, suc, ◌+◌, ◌-◌, ◌≤◌, List, [], ◌∷◌, ◌++◌, length, Result, Ok, Err}
use Rattle.py_flat.specs.declared.fault.IoFault.{IoFault}
use Rattle.py_flat.specs.declared.fault.IoFault.TheVariants.{NoMemory}
use Rattle.py_plain.specs.Units.{Order}
use Rattle.py_plain.specs.Items.{Item, Ending, AtEnd, AtRange, AtCut, Walk, characters_of}
use Rattle.py_plain.specs.Pieces.{items_before}
use Rattle.py_codec.specs.declared.front.FrontDecoded.{FrontDecoded}
use Rattle.py_codec.specs.declared.front.FrontStop.{FrontStop}
use Rattle.py_codec.specs.declared.front.FrontStop.TheVariants.{Wanted, Refused, Drained}

-- the items before the first place between two of them, or before all, where at least n characters were given; else all items
abbrev pub items_for : ℕ → List Item → List Item
items_for zero items = []
items_for (suc more) [] = []
items_for (suc more) (item ∷ items) = item ∷ items_for (suc more - length item.characters) items

-- how many bytes some items have
abbrev pub bytes_in : List Item → ℕ
bytes_in [] = 0
bytes_in (item ∷ items) = item.length + bytes_in items

-- why a front has no more items, by how many characters it lacks: it lacks none; or all items are in it, and a refused range comes
-- next, or nothing that is a character yet
abbrev pub front_stop : (missing : ℕ) → Ending → FrontStop
front_stop zero ending = Wanted
front_stop (suc more) (AtRange start end) = Refused start end
front_stop (suc more) AtEnd = Drained
front_stop (suc more) (AtCut start) = Drained

-- an answer says of some items how many bytes and characters they have, and why they are no more
pub record IsFront (want : ℕ) (items : List Item) (ending : Ending) (front : FrontDecoded) : Type 0 where
  pub used : front.used ≡ bytes_in items
  pub chars : front.chars ≡ length (characters_of items)
  pub stop : front.stop ≡ front_stop (want - length (characters_of items)) ending

-- a step was taken for each of some items, and at most one more
abbrev pub Paced : List Item → (before after : ℕ) → Type 0
Paced items before after = (before + length items ≤ after) × (after ≤ before + length items + 1)

-- some items of a decoding were given: the answer says what they are, the decoding goes on behind their bytes in the order that they
-- reached, their characters were appended, and steps taken for them; `ahead` is the decoding in an order after n bytes
abbrev pub GivesFront : (want : ℕ) → List Item → Walk → (ahead : Order → ℕ → Walk) → (before after : List ℕ) → (steps later : ℕ) → FrontDecoded → Type 0
GivesFront want items walk ahead before after steps later front = IsFront want items walk.ending front × ((reached : Order) × (walk ≡ items_before items (ahead reached front.used))) × (after ≡ before ++ characters_of items) × Paced items steps later

-- the front of a decoding that has as many characters as are wanted was given; or memory ran out, which appends nothing
abbrev pub FrontOutcome : (want : ℕ) → Walk → (ahead : Order → ℕ → Walk) → (before after : List ℕ) → (steps later : ℕ) → Result FrontDecoded IoFault → Type 0
FrontOutcome want walk ahead before after steps later (Ok front) = GivesFront want (items_for want walk.items) walk ahead before after steps later front
FrontOutcome want walk ahead before after steps later (Err why) = (why ≡ NoMemory) × (after ≡ before) × (later ≤ steps + length (items_for want walk.items) + 1)
