-- Handing the buffer of a text back.
use Rattle.std.specs.Prelude.{◌≡◌, ◌≢◌, ℕ, ◌-◌, ◌≤◌, false, List, [], length, Option, Some, None, Result, Ok, Err, unwrap_or, if◌then◌else◌, vec_len, vec_capacity}
use denote.Bor.{Bor}
use Rattle.py_flat.specs.declared.fault.IoFault.{IoFault}
use Rattle.py_flat.specs.declared.fault.IoFault.TheVariants as fault
use Rattle.py_flat.specs.declared.life.Life.{Life}
use Rattle.py_flat.specs.declared.life.Life.TheVariants as life
use Rattle.py_flat.specs.FlatFile.{Abilities}
use Rattle.py_flat.specs.Calls.{Unwritten, Refused}
use Rattle.py_plain.specs.Units.{Unknown}
use Rattle.py_plain_text.specs.TextFile.{TextSettings, clean_at}
use Rattle.py_plain_text.specs.TextOver.{TextOver}
use Rattle.py_plain_text.specs.TextCalls.{Flush, Detach}
use Rattle.py_stream.specs.Stream.{detached_stream}
use Rattle.py_stream.specs.Replies.{done_reply}
use Rattle.py_stream.specs.Buffer.{Buffer, size_shown, buffer_of}
use Rattle.py_read_text.specs.TextState.{TextState, settings_of}
use Rattle.py_read_text.specs.Owing.{behind_own, IsJoined}
use Rattle.py_read_text.specs.Answers.{Answers}
use Rattle.py_textio.specs.declared.text_detached.TextDetached.{TextDetached}
use Rattle.py_textio.specs.declared.text_left.TextLeft.{TextLeft}

-- What is left.

-- what a text could do, as it is kept once its buffer was handed back: whether that appended isn't
abbrev pub kept_abilities : Abilities → Abilities
kept_abilities can = record can { appending = false }

-- a detached text has no buffer left to show anything of
abbrev pub detached_text : Abilities → TextSettings → TextState
detached_text can settings = record {
  text = record { buffer = buffer_of (detached_stream can None) 0; owed = []; place = clean_at 0 Unknown; settings = settings; life = life.Detached };
  short = false;
}

-- the text that is left once its buffer was handed back: what it could do, and its settings
abbrev pub left_behind : TextOver Buffer → TextState
left_behind text = detached_text (kept_abilities text.buffer.can) text.settings

-- What is handed back.

-- the place that is handed back with the buffer: where the bytes begin that it hasn't; without any the byte of the text place; none where
-- the buffer can't seek
abbrev pub place_handed : TextOver Buffer → List ℕ → Option ℕ
place_handed text unwritten = if text.buffer.can.seekable then Some (text.place.at - length unwritten) else None

-- the text that was handed over: its buffer, and the bytes that this hasn't, are no longer its own
abbrev pub handed_over : TextState → Buffer → List ℕ → TextState
handed_over state buffer unwritten = record { text = record state.text { buffer = buffer; owed = unwritten; life = life.Detached }; short = false }

-- what a `detach` leaves unwritten: nothing of a live text, and all of a failed one
abbrev pub owed_then : Life → List ℕ → List ℕ
owed_then life.Live owed = []
owed_then other owed = owed

-- a detaching hands over the buffer, of a failed text as it is and of a live one a live one, with what that hasn't and the place, and leaves
-- a detached text
pub record HandsOver (old : TextState) (buffer : Buffer) (unwritten : List ℕ) (place : Option ℕ) (new : TextState) : Type 0 where
  pub answers : Answers old Detach (Unwritten unwritten place) (handed_over old buffer unwritten)
  pub unwritten_is : unwritten ≡ owed_then old.text.life old.text.owed
  pub place_is : place ≡ place_handed old.text unwritten
  pub at_once : old.text.life ≡ life.Failed → buffer ≡ old.text.buffer
  pub lives : old.text.life ≡ life.Live → buffer.life ≡ life.Live
  -- that of a live text isn't moved but behind the bytes that the text itself owed: without any it stands where it stood
  pub stands : old.text.life ≡ life.Live → buffer.place ≡ behind_own old.text
  pub left : new ≡ left_behind old.text

-- a detaching that is refused; that of a failed text never is
pub record RefusesDetach (old : TextState) (why : IoFault) (new : TextState) : Type 0 where
  pub answers : Answers old Detach (Refused why) new
  pub other : old.text.life ≢ life.Failed

-- a detaching hands the parts over, or is refused
abbrev pub DetachOutcome : {B : Type 0} → (B → Buffer) → TextState → Result (TextDetached B) IoFault → TextState → Type 0
DetachOutcome shows old (Ok detached) new = HandsOver old (shows detached.buffer) detached.unwritten.items detached.place new
DetachOutcome shows old (Err why) new = RefusesDetach old why new

-- behind the bytes that a buffer hasn't there is room for as many more as it holds
abbrev pub HasRoomBehind : {B : Type 0} → (B → Buffer) → TextDetached B → Type 0
HasRoomBehind shows detached = detached.unwritten.items ≢ [] → unwrap_or (size_shown (shows detached.buffer).buffering) 0 ≤ vec_capacity detached.unwritten - vec_len detached.unwritten

-- in every life but detached: the buffer as it is, what the text itself owes, and the place
pub record HandsParts (state : TextState) (buffer : Buffer) (unwritten : List ℕ) (place : Option ℕ) : Type 0 where
  pub attached : state.text.life ≢ life.Detached
  pub buffer_is : buffer ≡ state.text.buffer
  pub unwritten_is : unwritten ≡ state.text.owed
  pub place_is : place ≡ place_handed state.text state.text.owed
  pub joined : IsJoined state.text

-- the parts of a text are handed back, in every life but detached
abbrev pub PartsOutcome : {B : Type 0} → (B → Buffer) → TextState → Option (TextDetached B) → Type 0
PartsOutcome shows state (Some detached) = HandsParts state (shows detached.buffer) detached.unwritten.items detached.place
PartsOutcome shows state None = state.text.life ≡ life.Detached

-- the buffer, lent: none exactly where the text is detached
abbrev pub LendsBuffer : {B : Type 0} → (B → Buffer) → TextState → Option (Bor B) → Type 0
LendsBuffer shows state (Some buffer) = (state.text.life ≢ life.Detached) × (shows buffer.now ≡ state.text.buffer)
LendsBuffer shows state None = state.text.life ≡ life.Detached

-- How it is kept.

-- what is left of a text, as abilities
abbrev pub can_of : TextLeft → Abilities
can_of left = record { readable = left.readable; writable = left.writable; seekable = left.seekable; appending = false }

-- a text that has its buffer, or what is left of it
abbrev pub seen_as : Option TextState → TextLeft → TextState
seen_as (Some state) left = state
seen_as None left = detached_text (can_of left) (settings_of left.coder left.settings)

-- a text that has its buffer isn't detached
abbrev pub IsAttached : Option TextState → Type 0
IsAttached (Some state) = state.text.life ≢ life.Detached
IsAttached None = Unit {0}

-- How a detaching begins: a failed text stays as it is; of any other all is passed on that was written, which its life may refuse.
abbrev pub BeginsDetachIn : Life → TextState → Result (Unit {0}) IoFault → TextState → Type 0
BeginsDetachIn life.Failed old result new = (result ≡ Ok tt) × (new ≡ record old { short = false }) × IsJoined old.text
BeginsDetachIn other old result new = Answers old Flush (done_reply result) new

-- a detaching begins, of a text that has its buffer
abbrev pub BeginsDetach : Option TextState → Result (Unit {0}) IoFault → Option TextState → Type 0
BeginsDetach (Some old) result (Some new) = BeginsDetachIn old.text.life old result new
BeginsDetach None result None = result ≡ Err fault.Detached
BeginsDetach old result new = ⊥
