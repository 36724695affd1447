-- A text over a raw stream: what it is seen as, and what holds of it between its calls.
use Rattle.std.specs.Prelude.{◌≡◌, ◌≢◌, ◌≤◌, ℕ, Bool, false, IsTrue, [], length, Option, Some, None}
use Rattle.py_flat.specs.declared.life.Life.TheVariants as life
use Rattle.py_flat.specs.ExactStep.{is_closed}
use Rattle.py_flat.specs.FlatFile.{Buffered}
use Rattle.py_flat.specs.Limits.{greatest_place}
use Rattle.py_flat.specs.Refusals.{is_unbuffered}
use Rattle.py_raw.specs.RawStream.{Raw, tells}
use Rattle.py_stream.specs.Stream.{nothing_owed}
use Rattle.py_stream.specs.Buffer.{Buffer}
use Rattle.py_read_text.specs.TextState.{TextState, file_of}
use Rattle.py_read_text.specs.Owing.{IsJoined}
use Rattle.py_read_text.specs.Answers.{StandsWhileLive}
use Rattle.py_textio.specs.Handing.{detached_text}

-- nothing is owed, neither by the text nor by its buffer, whose life it shares
pub record OwesNothing (state : TextState) : Type 0 where
  pub none : state.text.buffer.owed ≡ nothing_owed state.text.buffer.place
  pub own : state.text.owed ≡ []
  pub life_is : state.text.buffer.life ≡ state.text.life

-- the raw is open, and the buffer isn't closed
pub record IsOpen (state : TextState) : Type 0 where
  pub raw : state.text.buffer.raw.closed ≡ false
  pub buffer : is_closed state.text.buffer.life ≡ false

-- what holds of every text session, in every life: one that can't write owes nothing, and the raw is open as long as the session isn't
-- closed
pub record IsHeld (state : TextState) : Type 0 where
  pub unwritten : state.text.buffer.can.writable ≡ false → OwesNothing state
  pub is_open : state.text.life ≢ life.Closed → IsOpen state

-- and of one that wasn't detached: its raw isn't handed back; it has a buffer; the raw of a live buffer stands where the buffer counts; and
-- what is owed stands in one piece
pub record IsTextSession (state : TextState) : Type 0 where
  pub kept : state.text.life ≢ life.Detached
  pub attached : state.text.buffer.life ≢ life.Detached
  pub buffered : is_unbuffered state.text.buffer.buffering ≡ false
  pub stands : StandsWhileLive state.text.buffer
  pub joined : IsJoined state.text
  pub held : IsHeld state

-- where its raw tells, a text has no more bytes than a stream can have, those that are owed among them
abbrev pub IsInReach : TextState → Type 0
IsInReach state = IsTrue (tells state.text.buffer.raw) → length (file_of state).bytes ≤ greatest_place

-- How it is kept.

-- what the session keeps beside its text, and what a detached one needs: whether it appends, and its buffer's size
pub record KeepsBeside (buffer : Buffer) (appends : Bool) (size : ℕ) : Type 0 where
  pub appends_is : buffer.can.appending ≡ appends
  pub size_is : buffer.buffering ≡ Buffered size

-- what is seen of the buffer: itself; or, once the text was detached, what is kept beside the text, with the raw
abbrev pub buffer_seen : {R : Type 0} → (R → Raw) → Buffer → (appends : Bool) (size : ℕ) → Option R → Buffer
buffer_seen shows buffer appends size None = buffer
buffer_seen shows buffer appends size (Some raw) = record buffer { raw = shows raw; can = record buffer.can { appending = appends }; buffering = Buffered size }

-- what a session is seen as
abbrev pub seen : {R : Type 0} → (R → Raw) → TextState → (appends : Bool) (size : ℕ) → Option R → TextState
seen shows state appends size raw = record state { text = record state.text { buffer = buffer_seen shows state.text.buffer appends size raw } }

-- what holds of a session: of its text, while that has its buffer; from then on that is a detached one, and the raw is open
abbrev pub IsSession : {R : Type 0} → (R → Raw) → TextState → (appends : Bool) (size : ℕ) → Option R → Type 0
IsSession shows state appends size None = IsTextSession state × KeepsBeside state.text.buffer appends size
IsSession shows state appends size (Some raw) = (state ≡ detached_text state.text.buffer.can state.text.settings) × ((shows raw).closed ≡ false)
