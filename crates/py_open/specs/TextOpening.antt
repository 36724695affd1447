-- Opening a text over a raw stream.
use Rattle.std.specs.Prelude.{◌≡◌, ℕ, true, false, IsTrue, IsFalse, List, [], Some, Result, Ok, Err}
use Rattle.py_flat.specs.declared.life.Life.TheVariants as life
use Rattle.py_flat.specs.FlatFile.{Abilities, Buffered}
use Rattle.py_plain.specs.Units.{Unknown}
use Rattle.py_plain_text.specs.TextFile.{clean_at, TextSettings, TextFile}
use Rattle.py_raw.specs.RawStream.{Raw, WherePlace, LeavesCounts}
use Rattle.py_stream.specs.declared.access.Access.{Access}
use Rattle.py_stream.specs.declared.new_refused.NewRefused.{NewRefused}
use Rattle.py_stream.specs.Access.{can_of, is_able, is_appended}
use Rattle.py_stream.specs.Stream.{nothing_owed}
use Rattle.py_stream.specs.Opening.{Untouched, RefusesRaw, begins_at, tells_start}
use Rattle.py_read_text.specs.TextState.{TextState, file_of}
use Rattle.py_open.specs.TextSession.{IsInReach}

-- the flat file of a text that is opened: these bytes, clean at a place, live
abbrev pub text_opened : List ℕ → ℕ → Abilities → TextSettings → TextFile
text_opened bytes place can settings = record {
  bytes = bytes;
  place = clean_at place Unknown;
  can = can;
  settings = settings;
  life = life.Live;
}

-- an open text: the raw was open and is able to do what it is opened for; nothing was read or written; it begins where the raw stands, one
-- that appends at the end, and at 0 where the raw can't seek; the raw stands there, nothing is owed, and it has no more bytes than a stream can have
pub record OpensText (raw : Raw) (opened : Access) (buffer : ℕ) (settings : TextSettings) (state : TextState) : Type 0 where
  pub was_open : raw.closed ≡ false
  pub able : is_able opened (Some buffer) raw ≡ true
  pub untouched : Untouched raw state.text.buffer.raw
  pub counts : LeavesCounts raw state.text.buffer.raw
  pub file : file_of state ≡ text_opened state.text.buffer.raw.bytes state.text.buffer.place (can_of opened raw.seekable) settings
  pub place : IsTrue (tells_start (is_appended opened) raw) → state.text.buffer.place ≡ begins_at (is_appended opened) raw
  pub start : IsFalse raw.seekable → state.text.buffer.place ≡ 0
  pub stands : WherePlace raw (state.text.buffer.raw.place ≡ state.text.buffer.place)
  pub raw_place : state.text.buffer.raw_place ≡ state.text.buffer.place
  pub buffer_is : state.text.buffer.buffering ≡ Buffered buffer
  pub life_is : state.text.buffer.life ≡ life.Live
  pub none : state.text.buffer.owed ≡ nothing_owed state.text.buffer.place
  pub own : state.text.owed ≡ []
  pub reach : IsInReach state
  pub whole : state.short ≡ false

abbrev pub TextOutcome : {R : Type 0} → (R → Raw) → R → Access → ℕ → TextSettings → Result TextState (NewRefused R) → Type 0
TextOutcome shows raw opened buffer settings (Ok state) = OpensText (shows raw) opened buffer settings state
TextOutcome shows raw opened buffer settings (Err refused) = RefusesRaw (is_able opened (Some buffer)) (is_appended opened) (shows raw) (Some buffer) refused.fault (shows refused.raw)
