-- What cookies bring back.
use Rattle.std.specs.Prelude.{◌≡◌, ℕ, ◌+◌, ◌≤◌, true, false, [], ◌∷◌, length, take, drop, ⊤, Option, Some, None}
use Rattle.py_flat.specs.Limits.{greatest_place}
use Rattle.py_plain.specs.Handlers.{treatment, reads_texts}
use Rattle.py_plain.specs.Items.{Item, Walk, AtEnd, walk_from}
use Rattle.py_plain_text.specs.TextFile.{Front, TextFile}
use Rattle.py_plain_text.specs.Rest.{text_rest}
use Rattle.py_plain_text.specs.Landing.{Landed, Stands, CantRestore}
use Rattle.py_plain_text.specs.Telling.{placed}

-- a text that landed so has the same left
abbrev pub GivesBack : TextFile → Landed → Type 0
GivesBack file (Stands place) = text_rest (placed file place) ≡ text_rest file
GivesBack file (CantRestore place) = ⊥

-- Places in which texts stand.

-- some bytes of a text, decoded by themselves and finally
abbrev pub alone_at : TextFile → (start size : ℕ) → Walk
alone_at file start size = walk_from file.settings.encoding (treatment file.settings.handler file.settings.encoding) true file.place.order start 0 (take size (drop start file.bytes))

-- one to four bytes of a text are one item by themselves
pub record IsItemAt (file : TextFile) (start size : ℕ) (item : Item) : Type 0 where
  pub some : 1 ≤ size
  pub few : size ≤ 4
  pub within : start + size ≤ length file.bytes
  pub items : (alone_at file start size).items ≡ item ∷ []
  pub ending : (alone_at file start size).ending ≡ AtEnd
  pub whole : item.length ≡ size

-- a front is an item of which characters are skipped, and the text goes on behind it
pub record IsFront (file : TextFile) (front : Front) : Type 0 where
  pub item : Item
  pub stands : IsItemAt file front.start front.length item
  pub skips : 1 ≤ front.skipped
  pub behind : file.place.at ≡ front.start + front.length

abbrev pub FrontStands : TextFile → Option Front → Type 0
FrontStands file None = ⊤
FrontStands file (Some front) = IsFront file front

-- a text in a place that calls leave it in: behind no front or behind an item, and one that can't be read, or that isn't dirty, at a byte
-- from which nothing was taken; it is read by one of the handlers of texts that are read
pub record StandsInText (file : TextFile) : Type 0 where
  pub reads : file.can.readable ≡ true → reads_texts file.settings.handler ≡ true
  pub front : FrontStands file file.place.front
  pub clean : file.place.dirty ≡ false → (file.place.front ≡ None) × (file.place.taken ≡ 0)
  pub still : file.can.readable ≡ false → file.place.dirty ≡ false

-- a text whose bytes and place lie no further than a stream can stand
pub record LiesInReach (file : TextFile) : Type 0 where
  pub bytes : length file.bytes ≤ greatest_place
  pub place : file.place.at ≤ greatest_place
