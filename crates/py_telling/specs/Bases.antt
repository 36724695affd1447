-- What texts tell from a base, a later byte than the one that they were put at, and behind a front.
use Rattle.std.specs.Prelude.{◌≡◌, ◌⊎◌, ℕ, ◌+◌, ◌-◌, ◌≤◌, Bool, true, List, length, None}
use Rattle.py_plain.specs.Units.{Unknown}
use Rattle.py_plain.specs.Handlers.{reads_texts}
use Rattle.py_plain.specs.Items.{Item, characters_of}
use Rattle.py_plain.specs.NewlineRule.{translated}
use Rattle.py_plain.specs.Pieces.{items_before}
use Rattle.py_plain_text.specs.TextFile.{Front, TextPlace, TextFile, clean_at}
use Rattle.py_plain_text.specs.Rest.{decoded, text_rest}
use Rattle.py_plain_text.specs.Telling.{placed, front_left}
use Rattle.py_telling.specs.Spots.{Spot}

-- the place behind so many characters that were given since a base
abbrev pub given_since : (base given : ℕ) → (dirty : Bool) → TextPlace
given_since base given dirty = record { front = None; at = base; order = Unknown; taken = given; dirty = dirty }

-- all characters that a text gives from its byte on
abbrev pub gives_in_all : TextFile → List ℕ
gives_in_all file = translated file.settings.newline (characters_of (decoded file).items)

-- a text behind no front goes on as it does behind so many characters that were given since a base: a boundary behind some of its items,
-- and a byte from which one character was given at least, or the text's own
pub record GoesOnFrom (base count : ℕ) (items : List Item) (file : TextFile) : Type 0 where
  pub reads : reads_texts file.settings.handler ≡ true
  pub front : file.place.front ≡ None
  pub order : file.place.order ≡ Unknown
  pub boundary : decoded file ≡ items_before items (decoded (placed file (clean_at base Unknown)))
  pub same_left : text_rest file ≡ text_rest (placed file (given_since base count file.place.dirty))
  pub taken : file.place.taken ≤ length (gives_in_all file)
  pub given : count ≤ length (gives_in_all (placed file (clean_at base Unknown)))
  pub moved : (1 ≤ count) ⊎ (base ≡ file.place.at)

-- the place of a text of which a whole front was taken, said without it
abbrev pub behind_front : TextFile → Front → TextPlace
behind_front file front = record file.place { front = None; taken = file.place.taken - length (front_left file front) }

-- the spot inside a front of which not all was taken
abbrev pub front_spot : TextFile → Front → Spot
front_spot file front = record { start = front.start; length = front.length; skipped = front.skipped + file.place.taken }
