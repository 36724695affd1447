-- An item by itself.
use Rattle.std.specs.Prelude.{◌≡◌, ℕ, ◌-◌, true, List, [], ◌∷◌, take, drop}
use Rattle.py_plain.specs.declared.encoding.Encoding.{Encoding}
use Rattle.py_plain.specs.Handlers.{Treatment}
use Rattle.py_plain.specs.Items.{Item, AtEnd, Walk, walk_from}

-- the bytes of an item, of those that stand at a place
abbrev pub bytes_of_item : ℕ → List ℕ → Item → List ℕ
bytes_of_item place bytes item = take item.length (drop (item.start - place) bytes)

-- the decoding of an item's own bytes where they stand, in the order that the item was read in, with nothing after them
abbrev pub alone : Encoding → Treatment → ℕ → List ℕ → Item → Walk
alone encoding treat place bytes item = walk_from encoding treat true item.order item.start 0 (bytes_of_item place bytes item)

-- an item is all that its own bytes decode to
abbrev pub DecodesAlone : Encoding → Treatment → ℕ → List ℕ → Item → Type 0
DecodesAlone encoding treat place bytes item =
    let walk = alone encoding treat place bytes item in
    (walk.items ≡ item ∷ []) × (walk.ending ≡ AtEnd)
