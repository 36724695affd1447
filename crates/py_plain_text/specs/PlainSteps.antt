-- The plain text of the program, as a text of the definitions, and how its calls answer.
use Rattle.std.specs.Prelude.{◌≡◌, ℕ, ◌+◌, ◌≤◌, ◌⊎◌, Bool, true, false, IsTrue, List, length, ⊤, Option, Some, None, option_map, Result, Ok, Err}
use Rattle.py_flat.specs.declared.fault.IoFault.{IoFault}
use Rattle.py_flat.specs.declared.fault.IoFault.TheVariants as fault
use Rattle.py_flat.specs.declared.life.Life.TheVariants as life
use Rattle.py_flat.specs.FlatFile.{Abilities}
use Rattle.py_flat.specs.Limits.{greatest_place}
use Rattle.py_flat.specs.Calls.{FileReply, Text, Count, Done, Refused}
use Rattle.py_plain_text.specs.declared.plain_place.PlainSettings.{PlainSettings}
use Rattle.py_plain_text.specs.declared.plain_place.PlainFront.{PlainFront}
use Rattle.py_plain_text.specs.declared.plain_place.PlainPlace.{PlainPlace}
use Rattle.py_plain_text.specs.declared.plain_changes.PlainChanges.{PlainChanges}
use Rattle.py_plain.specs.Units.{Unknown}
use Rattle.py_plain_text.specs.TextFile.{Front, TextPlace, TextSettings, TextFile, clean_at}
use Rattle.py_plain_text.specs.Rest.{Rest, rest_to, text_rest}
use Rattle.py_plain_text.specs.TextCalls.{TextFileCall, Changes}
use Rattle.py_plain_text.specs.TextExact.{exact}
use Rattle.py_plain_text.specs.TextAllowed.{does_work}
use Rattle.py_plain_text.specs.TextRefusals.{write_refusal}
use Rattle.py_plain_text.specs.TextWriting.{written_bytes}

-- the abilities of a plain text: it can be read, written and moved
abbrev pub plain_abilities : Abilities
plain_abilities = record { readable = true; writable = true; seekable = true; appending = false }

-- the settings of a plain text, the others being those of a text where none are given
abbrev pub settings_shown : PlainSettings → TextSettings
settings_shown settings = record {
  encoding = settings.encoding;
  handler = settings.handler;
  newline = settings.newline;
  line_buffering = false;
  write_through = false;
  chunk_size = 8192;
}

abbrev pub front_shown : PlainFront → Front
front_shown front = record { start = front.start; length = front.length; skipped = front.skipped }

-- the place of a plain text: its encodings have no order
abbrev pub place_shown : PlainPlace → TextPlace
place_shown place = record {
  front = option_map front_shown place.front;
  at = place.at;
  order = Unknown;
  taken = place.taken;
  dirty = place.dirty;
}

-- a live text of some bytes, at a place
abbrev pub plain_at : List ℕ → PlainSettings → TextPlace → TextFile
plain_at bytes settings place = record {
  bytes = bytes;
  place = place;
  can = plain_abilities;
  settings = settings_shown settings;
  life = life.Live;
}

-- a text of some bytes from which nothing was read
abbrev pub plain_text : List ℕ → PlainSettings → TextFile
plain_text bytes settings = plain_at bytes settings (clean_at 0 Unknown)

-- settings that a plain text is given
abbrev pub changes_shown : PlainChanges → Changes
changes_shown changes = record {
  encoding = changes.encoding;
  handler = changes.handler;
  newline = changes.newline;
  line_buffering = changes.line_buffering;
  write_through = changes.write_through;
}

-- what is left of some bytes from a place on; `last` says that none come behind them
abbrev pub rest_at : (last : Bool) → List ℕ → PlainSettings → PlainPlace → Rest
rest_at last bytes settings place = rest_to last (plain_at bytes settings (place_shown place))

-- what would be left if nothing had been taken
abbrev pub whole_rest : List ℕ → PlainSettings → PlainPlace → Rest
whole_rest bytes settings place = text_rest (plain_at bytes settings (record (place_shown place) { taken = 0 }))

-- a front lies within so many bytes
abbrev pub LiesWithin : ℕ → Option PlainFront → Type 0
LiesWithin size None = ⊤
LiesWithin size (Some front) = front.start + front.length ≤ size

-- a front has no more bytes than an item
abbrev pub IsShort : Option PlainFront → Type 0
IsShort None = ⊤
IsShort (Some front) = front.length ≤ 4

-- a place fits some bytes: its front lies within them and is no longer than an item, its byte is none that a stream can't stand at, and
-- no more characters are taken than there are; one that isn't dirty stands at a byte
pub record PlaceFits (bytes : List ℕ) (settings : PlainSettings) (place : PlainPlace) : Type 0 where
  pub clean : place.dirty ≡ false → (place.front ≡ None) × (place.taken ≡ 0)
  pub within : LiesWithin (length bytes) place.front
  pub short : IsShort place.front
  pub reach : place.at ≤ greatest_place
  pub taken : place.taken ≤ length (whole_rest bytes settings place).characters

-- a live text at a place that fits the bytes, and none exactly where it doesn't
abbrev pub IsTextAt : List ℕ → PlainSettings → PlainPlace → Option TextFile → Type 0
IsTextAt bytes settings place None = PlaceFits bytes settings place → ⊥
IsTextAt bytes settings place (Some text) = PlaceFits bytes settings place × (text ≡ plain_at bytes settings (place_shown place))

-- what a call that reads answered
abbrev pub text_reply : Result (List ℕ) IoFault → FileReply
text_reply (Ok characters) = Text characters
text_reply (Err fault) = Refused fault

-- what a call answered that says no more than that it is done
abbrev pub done_reply : {T : Type 0} → Result T IoFault → FileReply
done_reply (Ok value) = Done
done_reply (Err fault) = Refused fault

-- how many characters a call took
abbrev pub count_reply : Result ℕ IoFault → FileReply
count_reply (Ok count) = Count count
count_reply (Err fault) = Refused fault

-- reading calls are let through
abbrev pub IsAccepted : TextFile → Type 0
IsAccepted file = (file.life ≡ life.Live) × (file.can.readable ≡ true)

-- why a text doesn't tell what is left of it: there is no memory, or it is closed
abbrev pub IsUnread : TextFile → IoFault → Type 0
IsUnread file why = (IsAccepted file × (why ≡ fault.NoMemory)) ⊎ ((file.life ≡ life.Closed) × (why ≡ fault.Closed))

-- a refusal in place of characters
abbrev pub refused_or : Option IoFault → List ℕ → Result (List ℕ) IoFault
refused_or (Some fault) characters = Err fault
refused_or None characters = Ok characters

-- the answer is the refusal or else the characters, or out of memory
abbrev pub IsAnswer : Result (List ℕ) IoFault → Option IoFault → List ℕ → Type 0
IsAnswer answer refusal characters = (answer ≡ Err fault.NoMemory) ⊎ (answer ≡ refused_or refusal characters)

-- a call that does work had no memory for it, and the text is as before
abbrev pub PlainStarved : TextFile → TextFileCall → FileReply → TextFile → Type 0
PlainStarved before call reply after = (reply ≡ Refused fault.NoMemory) × IsTrue (does_work before call) × (after ≡ before)

-- a call came out exactly, or there was no memory for it
abbrev pub PlainStep : TextFile → TextFileCall → FileReply → TextFile → Type 0
PlainStep before call reply after = PlainStarved before call reply after ⊎ ((reply, after) ≡ exact before call)

-- a call came out exactly, or there was no memory for it and the text is as before
abbrev pub PlainAnswer : TextFile → TextFileCall → FileReply → TextFile → Type 0
PlainAnswer before call reply after = ((reply ≡ Refused fault.NoMemory) × (after ≡ before)) ⊎ ((reply, after) ≡ exact before call)

-- why a text doesn't tell its bytes: there is no memory, or it is refused
abbrev pub IsUnwritten : TextFile → List ℕ → IoFault → Type 0
IsUnwritten file text why = (why ≡ fault.NoMemory) ⊎ (write_refusal file text ≡ Some why)

-- the bytes that a text is written as, which nothing refuses
abbrev pub IsWritten : TextFile → List ℕ → List ℕ → Type 0
IsWritten file text bytes = (bytes ≡ written_bytes file.settings text) × (write_refusal file text ≡ None)
