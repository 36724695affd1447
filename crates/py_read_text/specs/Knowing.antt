-- What a text knows of what is left of it: the characters and the bytes that it has in hand, and how they are tied to the bytes below.
use Rattle.std.specs.Prelude.{◌≡◌, ◌⊎◌, ℕ, ◌+◌, ◌*◌, ◌-◌, ◌≤◌, ◌<◌, max, Bool, true, false, List, [], ◌++◌, length, Option, Some, None, option_map, IfSome}
use Rattle.py_flat.specs.declared.life.Life.TheVariants as life
use Rattle.py_flat.specs.Limits.{greatest_place}
use Rattle.py_flat.specs.Bytes.{left_at}
use Rattle.py_flat.specs.BinaryStep.{IsFrontOf}
use Rattle.py_flat.specs.Refusals.{is_unbuffered}
use Rattle.py_plain.specs.Units.{Unknown}
use Rattle.py_plain.specs.Items.{Item}
use Rattle.py_plain.specs.Pieces.{items_before}
use Rattle.py_plain_text.specs.TextFile.{Front, TextPlace, TextSettings, TextFile}
use Rattle.py_plain_text.specs.TextOver.{TextOver}
use Rattle.py_plain_text.specs.Rest.{Rest, front_characters}
use Rattle.py_plain_text.specs.CookieLaws.{FrontStands}
use Rattle.py_telling.specs.declared.told.Told.{Told}
use Rattle.py_stream.specs.Writing.{OwesUpTo}
use Rattle.py_stream.specs.Buffer.{Buffer, WhereShown, flat_of}
use Rattle.py_held_text.specs.Held.{HeldView, ahead, base_of, whole_of, left_with, left_so_far}
use Rattle.py_held_text.specs.Bases.{rebased, KnowsBases}
use Rattle.py_held_text.specs.Decodes.{known_with_cr}
use Rattle.py_read_text.specs.TextState.{TextState, file_of}
use Rattle.py_read_text.specs.Waiting.{bytes_between}
use Rattle.py_read_text.specs.Owing.{begins}

-- the item that a text was put inside, with the characters that are skipped
abbrev pub front_told : Told → Front
front_told told = record { start = told.start; length = told.length; skipped = told.skipped }

abbrev pub front_shown : Option Told → Option Front
front_shown inside = option_map front_told inside

-- the buffer below; what is in hand; the item that it was put inside, if it was; the byte of the text place, how many characters were taken
-- since, and whether any were asked for; and the settings
pub record TextView : Type 0 where
  pub buffer : Buffer
  pub held : HeldView
  pub front : Option Front
  pub at : ℕ
  pub taken : ℕ
  pub dirty : Bool
  pub settings : TextSettings

abbrev pub place_of : TextView → TextPlace
place_of text = record { front = text.front; at = text.at; order = Unknown; taken = text.taken; dirty = text.dirty }

-- what a text is seen as, by its parts: it owes nothing itself
abbrev pub over_of : TextView → TextOver Buffer
over_of text = record { buffer = text.buffer; owed = []; place = place_of text; settings = text.settings; life = text.buffer.life }

abbrev pub state_of : TextView → Bool → TextState
state_of text short = record { text = over_of text; short = short }

-- the text that it stands for
abbrev pub shown_file : TextView → TextFile
shown_file text = file_of (state_of text false)

-- nothing in hand, at a byte from which nothing was decoded
abbrev pub from_place : TextSettings → ℕ → HeldView
from_place settings at = record { encoding = settings.encoding; handler = settings.handler; newline = settings.newline; known = []; cr = false; front = 0; back = []; given = 0; mark = None; ended = false; bytes = []; place = at; order = Unknown; room = 0 }

-- some characters before what is left
abbrev pub with_given : List ℕ → Rest → Rest
with_given given rest = record { characters = given ++ rest.characters; refusal = rest.refusal }

-- told, of bytes of which those up to a place were taken, and of a text that stands at one of them: those in hand lie where the base stands,
-- behind whole items from the text place on; what is known of the base and of the mark; a character was given since the base, or that is
-- the text place; and none come behind those in hand where a decoding knew so
pub record KnowsSpot (settings : TextSettings) (bytes : List ℕ) (far at : ℕ) (held : HeldView) : Type 0 where
  pub order : held.order ≡ Unknown
  pub lies : left_at bytes (base_of held) ≡ whole_of held ++ left_at bytes far
  pub gone : List ℕ
  pub bases : KnowsBases (left_at bytes far) held gone
  pub items : List Item
  pub behind : ahead (from_place settings at) true (left_at bytes at) ≡ items_before items (ahead (rebased held) true (left_at bytes far))
  pub moved : (1 ≤ held.given) ⊎ (base_of held ≡ at)
  pub ended : held.ended ≡ true → left_at bytes far ≡ []

-- The front.

-- the characters of the item that a text was put inside, past those skipped
abbrev pub front_of : TextSettings → List ℕ → Option Front → List ℕ
front_of settings bytes front = front_characters settings Unknown bytes front

-- of some bytes, by these settings, the front is an item behind which a text stands: each text says so that has them and stands there
abbrev pub FrontIs : TextSettings → List ℕ → Option Front → (at : ℕ) → Type 0
FrontIs settings bytes front at = (file : TextFile) → file.settings.encoding ≡ settings.encoding → file.settings.handler ≡ settings.handler → file.bytes ≡ bytes → file.place.order ≡ Unknown → file.place.at ≡ at → FrontStands file front

-- the characters that stand before the base are among those that are known, and stand before the mark too
pub record HasFront (held : HeldView) : Type 0 where
  pub among : held.front ≤ length held.known
  pub marked : IfSome held.mark (λ mark. held.front ≤ mark.count)

-- a text was put inside an item of at most four bytes, right behind which it stands. That has so many characters past those skipped, at most
-- six for each byte with these; those of them that weren't taken are left
pub record IsInside (front : Front) (at taken left : ℕ) : Type 0 where
  pub behind : front.start + front.length ≡ at
  pub short : front.length ≤ 4
  pub skips : 1 ≤ front.skipped
  pub count : ℕ
  pub few : front.skipped + count ≤ 6 * front.length
  pub left_is : left ≡ count - taken

abbrev pub StandsInside : Option Front → (at taken left : ℕ) → Type 0
StandsInside None at taken left = left ≡ 0
StandsInside (Some front) at taken left = IsInside front at taken left

-- told, of bytes of which those up to a place were taken: the front, and what is left from the text place on, are the characters taken, and
-- then what is left of what is in hand and comes behind it; of the front what wasn't taken stands before the base. And of every front of
-- what comes behind: what the text's own front, the bytes taken and that front surely give is no more than the characters taken and what is
-- surely left of what is in hand and that front, and no refused range stands in them where none is left. No byte past the end was taken.
-- Where no character was given, all bytes from the base on are those that were taken. Where the text stands is told by what is in hand
pub record KnowsTold (settings : TextSettings) (bytes : List ℕ) (far : ℕ) (front : Option Front) (at taken : ℕ) (held : HeldView) : Type 0 where
  pub item : FrontIs settings bytes front at
  pub stands : held.front ≡ length (front_of settings bytes front) - taken
  pub given : List ℕ
  pub count : length given ≡ taken
  pub within : far ≤ max at (length bytes)
  pub left : with_given (front_of settings bytes front) (left_with (from_place settings at) (left_at bytes at)) ≡ with_given given (left_with held (left_at bytes far))
  pub shows : (more : List ℕ) → IsFrontOf more (left_at bytes far) → length (front_of settings bytes front) + length (left_so_far (from_place settings at) (bytes_between bytes at far ++ more)).characters ≤ taken + length (left_so_far held more).characters
  pub sound : (more : List ℕ) → IsFrontOf more (left_at bytes far) → (left_so_far held more).refusal ≡ None → (left_so_far (from_place settings at) (bytes_between bytes at far ++ more)).refusal ≡ None
  pub whole : taken ≡ 0 → left_at bytes at ≡ whole_of held ++ left_at bytes far
  pub spot : KnowsSpot settings bytes far at held

-- a text from which nothing was taken since it was placed
pub record IsClean (text : TextView) : Type 0 where
  pub taken : text.taken ≡ 0
  pub dirty : text.dirty ≡ false

-- a text has some settings from here on, and all else of it stays, but what it has in hand
pub record IsSetTo (wanted : TextSettings) (old new : TextView) : Type 0 where
  pub buffer : new.buffer ≡ old.buffer
  pub front : new.front ≡ old.front
  pub at : new.at ≡ old.at
  pub taken : new.taken ≡ old.taken
  pub dirty : new.dirty ≡ old.dirty
  pub settings : new.settings ≡ wanted

-- what is in hand is read as the settings say
pub record ReadsBy (settings : TextSettings) (held : HeldView) : Type 0 where
  pub encoding : held.encoding ≡ settings.encoding
  pub handler : held.handler ≡ settings.handler
  pub newline : held.newline ≡ settings.newline

-- all bytes from the base on, also those that were decoded, begin at a text place and reach to where the buffer stands
abbrev pub HasWhole : HeldView → (at far : ℕ) → Type 0
HasWhole held at far = at + length (whole_of held) ≡ far

-- what holds of every text: what its buffer owes ends at the buffer's place, and once bytes were read it owes nothing; the bytes in hand
-- are the last that were taken from the buffer, and no more characters were taken and are known than the bytes used since the text was put
-- at its place can give, six for each. The base stands nowhere before the byte of that place; while no character was taken, it is that: all
-- bytes since are in hand. A text stands behind a front only where it is dirty and its buffer can be read
pub record IsText (buffer : Buffer) (held : HeldView) (front : Option Front) (at taken : ℕ) (dirty : Bool) (settings : TextSettings) : Type 0 where
  pub reads_by : buffer.can.readable ≡ true → ReadsBy settings held
  pub asks : 0 < settings.chunk_size
  pub buffered : is_unbuffered buffer.buffering ≡ false
  pub kept : buffer.exported ≡ false
  pub owes : OwesUpTo buffer.owed buffer.place
  pub ahead : (at ≡ buffer.place) ⊎ ((buffer.owed.bytes ≡ []) × (buffer.can.readable ≡ true))
  pub stands : held.place + length held.bytes ≡ buffer.place
  pub far : buffer.place ≤ greatest_place
  pub forth : at ≤ held.place
  pub from : at ≤ base_of held
  pub few : taken + known_with_cr held ≤ 6 * (held.place - begins front at)
  pub has : HasFront held
  pub inside : StandsInside front at taken held.front
  pub clean : dirty ≡ false → front ≡ None
  pub still : buffer.can.readable ≡ false → front ≡ None
  pub whole : taken ≡ 0 → HasWhole held at buffer.place
  pub told : WhereShown buffer (buffer.life ≡ life.Live → buffer.can.readable ≡ true → KnowsTold settings (flat_of buffer).bytes buffer.place front at taken held)
