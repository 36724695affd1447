-- Decoding in pieces: each while more may come, what it left unused put before the next, and the last one finally.
use Rattle.std.specs.Prelude.{◌≡◌, ℕ, ◌+◌, ◌-◌, ◌≤◌, Bool, true, false, List, [], ◌∷◌, ◌++◌, length, take, drop}
use Rattle.py_plain.specs.declared.encoding.Encoding.{Encoding}
use Rattle.py_plain.specs.Units.{Order}
use Rattle.py_plain.specs.Handlers.{Treatment, Replaced}
use Rattle.py_plain.specs.Items.{Item, Ending, AtEnd, AtRange, AtCut, Walk, ends, walk_from}

-- a treatment that looks at no bytes but those of the refused range, and stands for no more than them
pub record LooksAtRange (treat : Treatment) : Type 0 where
  pub same : (place size : ℕ) (rest other : List ℕ) → take size rest ≡ take size other → treat place rest size ≡ treat place other size
  pub within : (place size : ℕ) (rest characters : List ℕ) (used : ℕ) → treat place rest size ≡ Replaced characters used → used ≤ size

-- the decoding of bytes that stand at a place
abbrev pub walk_at : Encoding → Treatment → Bool → Order → ℕ → List ℕ → Walk
walk_at encoding treat last order place bytes = walk_from encoding treat last order place 0 bytes

-- some items before a decoding
abbrev pub items_before : List Item → Walk → Walk
items_before items walk = record walk { items = items ++ walk.items }

-- where the decoding of a front goes on: after it, or at the sequence that its end cuts
abbrev pub place_behind : ℕ → List ℕ → Ending → ℕ
place_behind place front AtEnd = place + length front
place_behind place front (AtCut start) = start
place_behind place front (AtRange start end) = end

-- the bytes of a front that its decoding left unused
abbrev pub unused : ℕ → List ℕ → Ending → List ℕ
unused place front AtEnd = []
unused place front (AtCut start) = drop (start - place) front
unused place front (AtRange start end) = []

-- what comes after a decoding; a refused range ends it, and then nothing does
abbrev pub unless_refused : Order → Ending → Walk → Walk
unless_refused order (AtRange start end) behind = ends order (AtRange start end)
unless_refused order _ behind = behind

-- the decoding of a front while more may come, and then of what it left and the rest, in the order that it reached
abbrev pub in_two : Encoding → Treatment → Bool → Order → ℕ → (front rest : List ℕ) → Walk
in_two encoding treat last order place front rest =
    let first = walk_at encoding treat false order place front in
    items_before first.items (unless_refused first.order first.ending (walk_at encoding treat last first.order (place_behind place front first.ending) (unused place front first.ending ++ rest)))

-- the decoding of any number of pieces after the bytes that were kept, and of the last one, each in the order that the one before
-- it reached
abbrev pub in_pieces : Encoding → Treatment → Order → ℕ → List ℕ → List (List ℕ) → List ℕ → Walk
in_pieces encoding treat order place kept [] final = walk_at encoding treat true order place (kept ++ final)
in_pieces encoding treat order place kept (piece ∷ pieces) final =
    let first = walk_at encoding treat false order place (kept ++ piece) in
    items_before first.items (unless_refused first.order first.ending (in_pieces encoding treat first.order (place_behind place (kept ++ piece) first.ending) (unused place (kept ++ piece) first.ending) pieces final))
