-- Private: the streams that a binary session may call, and what holds of each between calls.
use denote.Bor.{Bor}
use Rattle.std.specs.Prelude.{◌≡◌, ◌≢◌, ℕ, ◌≤◌, ◌⊎◌, List, Option, Some, None, Result, Ok, Err}
use Rattle.py_flat.specs.declared.fault.IoFault.{IoFault}
use Rattle.py_flat.specs.declared.fault.IoFault.TheVariants as fault
use Rattle.py_flat.specs.declared.life.Life.TheVariants as life
use Rattle.py_flat.specs.Limits.{greatest_place}
use Rattle.py_flat.specs.Calls.{FileReply, Bytes, Refused}
use Rattle.py_raw.specs.RawStream.{Raw}
use Rattle.py_stream.specs.Stream.{Stream, detached_stream}
use Rattle.py_stream.specs.Answers.{IsNear}
use Rattle.py_stream.specs.Handing.{DetachOutcome}
use Rattle.py_stream.specs.Replies.{lent_reply}
use Rattle.py_stream.specs.declared.detached.Detached.{Detached}
use Rattle.py_binary.specs.declared.buffered.Buffered.{Buffered}
use Rattle.py_binary.specs.declared.buffered.Buffered.TheVariants as buffered
use Rattle.py_binary.specs.declared.kind.Kind.{Kind}
use Rattle.py_binary.specs.declared.kind.Kind.TheVariants as kind
use Rattle.py_binary.specs.Binary.{gone_stream}

-- what a buffered stream is seen as
abbrev pub buffered_as : {R : Type 0} → Buffered R → Stream
buffered_as (buffered.Reader reader) = reader
buffered_as (buffered.Writer writer) = writer.stream
buffered_as (buffered.Random random) = random.stream

-- what a kind of stream is seen as
abbrev pub shown : {R : Type 0} → Kind R → Stream
shown (kind.Buffered stream) = buffered_as stream
shown (kind.Unbuffered stream) = stream

-- the session: its stream; or, once that was detached, the raw and what the stream could do
abbrev pub seen : {R : Type 0} → (R → Raw) → Kind R → Option R → Stream
seen shows stream None = shown stream
seen shows stream (Some raw) = gone_stream (shown stream).can (shown stream).buffer (shows raw)

-- what holds of every stream that a session calls: its place; while it lives, where its raw stands; and that its raw is there
pub record IsHeld (stream : Stream) : Type 0 where
  pub far : stream.place ≤ greatest_place
  pub near : stream.life ≡ life.Live → IsNear stream
  pub attached : stream.life ≢ life.Detached

pub record IsBuffered (stream : Stream) : Type 0 where
  pub held : IsHeld stream
  pub buffered : (size : ℕ) × (stream.buffer ≡ Some size)

pub record IsUnbuffered (stream : Stream) : Type 0 where
  pub held : IsHeld stream
  pub bare : stream.buffer ≡ None

-- what holds of the stream of each kind
abbrev pub IsServed : {R : Type 0} → Kind R → Type 0
IsServed (kind.Buffered stream) = IsBuffered (buffered_as stream)
IsServed (kind.Unbuffered stream) = IsUnbuffered stream

-- what holds of a session: what holds of its stream while the raw isn't back; from then on its stream is a detached
-- one
abbrev pub IsSession : {R : Type 0} → Kind R → Option R → Type 0
IsSession stream None = IsServed stream
IsSession stream (Some raw) = shown stream ≡ detached_stream (shown stream).can (shown stream).buffer

-- a `detach` that is refused leaves the stream served
abbrev pub DetachLeaves : {R : Type 0} → Result (Detached R) IoFault → Kind R → Type 0
DetachLeaves (Ok detached) new = Unit {0}
DetachLeaves (Err why) new = IsServed new

abbrev pub DetachesKind : {R : Type 0} → (R → Raw) → Kind R → Result (Detached R) IoFault → Kind R → Type 0
DetachesKind shows old result new = DetachOutcome shows (shown old) result (shown new) × DetachLeaves result new

-- a reply has a copy of the bytes that a look lent, or there was no memory for one; else it is the look's own
abbrev pub CopiesLent : Result (Option (Bor (List ℕ))) IoFault → FileReply → Type 0
CopiesLent (Ok (Some part)) reply = (reply ≡ Bytes part.now) ⊎ (reply ≡ Refused fault.NoMemory)
CopiesLent answer reply = reply ≡ lent_reply answer
