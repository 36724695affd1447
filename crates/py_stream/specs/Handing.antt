-- Handing a stream's raw back.
use Rattle.std.specs.Prelude.{◌≡◌, ◌≢◌, ℕ, false, List, Option, Some, None, Result, Ok, Err, if◌then◌else◌}
use denote.Bor.{Bor}
use Rattle.py_flat.specs.declared.fault.IoFault.{IoFault}
use Rattle.py_flat.specs.declared.life.Life.{Life}
use Rattle.py_flat.specs.declared.life.Life.TheVariants as life
use Rattle.py_flat.specs.Calls.{Detach, Unwritten, Refused}
use Rattle.py_flat.specs.Owed.{Owed}
use Rattle.py_raw.specs.RawStream.{Raw}
use Rattle.py_stream.specs.declared.detached.Detached.{Detached}
use Rattle.py_stream.specs.Stream.{Stream, nothing_owed, detached_stream}
use Rattle.py_stream.specs.Answers.{Answers}

-- the place that is handed back, of the first byte that is owed, else the stream's own: none where the raw can't seek
abbrev pub place_handed : Stream → Owed → Option ℕ
place_handed stream owed = if stream.can.seekable then Some owed.place else None

-- the stream that was handed over: its raw, and what it owed the raw, are no longer its own
abbrev pub handed_over : Stream → Raw → Owed → Stream
handed_over stream raw owed = record stream { raw = raw; owed = owed; life = life.Detached; short = false }

-- the stream that is left once its raw was handed back
abbrev pub left_behind : Stream → Stream
left_behind stream = detached_stream stream.can stream.buffer

-- what a `detach` leaves owed: nothing of a live stream, and all of a failed one
abbrev pub owed_then : Life → Stream → Owed
owed_then life.Live stream = nothing_owed stream.place
owed_then other stream = stream.owed

-- a detaching hands over the raw, what is owed and the place, and leaves a detached stream
pub record HandsOver (old : Stream) (raw : Raw) (unwritten : List ℕ) (place : Option ℕ) (new : Stream) : Type 0 where
  pub answers : Answers old Detach (Unwritten unwritten place) (handed_over old raw (owed_then old.life old))
  pub unwritten_is : unwritten ≡ (owed_then old.life old).bytes
  pub place_is : place ≡ place_handed old (owed_then old.life old)
  pub left : new ≡ left_behind old

-- a detaching hands the parts over, or is refused
abbrev pub DetachOutcome : {R : Type 0} → (R → Raw) → Stream → Result (Detached R) IoFault → Stream → Type 0
DetachOutcome shows old (Ok detached) new = HandsOver old (shows detached.raw) detached.unwritten.items detached.place new
DetachOutcome shows old (Err why) new = Answers old Detach (Refused why) new

-- in every life but detached: the raw as it is, what is owed, and the place
pub record HandsParts (stream : Stream) (raw : Raw) (unwritten : List ℕ) (place : Option ℕ) : Type 0 where
  pub attached : stream.life ≢ life.Detached
  pub raw_is : raw ≡ stream.raw
  pub unwritten_is : unwritten ≡ stream.owed.bytes
  pub place_is : place ≡ place_handed stream stream.owed

-- the parts of a stream are handed back, in every life but detached
abbrev pub PartsOutcome : {R : Type 0} → (R → Raw) → Stream → Option (Detached R) → Type 0
PartsOutcome shows stream (Some detached) = HandsParts stream (shows detached.raw) detached.unwritten.items detached.place
PartsOutcome shows stream None = stream.life ≡ life.Detached

-- the raw, lent: none exactly where the stream is detached
abbrev pub LendsRaw : {R : Type 0} → (R → Raw) → Stream → Option (Bor R) → Type 0
LendsRaw shows stream (Some raw) = (stream.life ≢ life.Detached) × (shows raw.now ≡ stream.raw)
LendsRaw shows stream None = stream.life ≡ life.Detached
