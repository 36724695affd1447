-- How a reading begins that goes on until it has all that is wanted, and the steps of one into a buffer, or of all that is left.
use Rattle.std.specs.Prelude.{◌≡◌, ◌≢◌, ℕ, ◌+◌, ◌<◌, ◌≤◌, ◌⊎◌, Bool, true, false, IsTrue, List, [], ◌++◌, length, take, Result, Ok, Err}
use Rattle.py_flat.specs.declared.fault.IoFault.{IoFault}
use Rattle.py_flat.specs.declared.fault.IoFault.TheVariants as fault
use Rattle.py_flat.specs.declared.life.Life.TheVariants as life
use Rattle.py_flat.specs.Limits.{greatest_place}
use Rattle.py_flat.specs.Bytes.{left_at}
use Rattle.py_flat.specs.Causes.{Rose}
use Rattle.py_flat.specs.Calls.{FileCall, Refused}
use Rattle.py_flat.specs.ExactStep.{rest}
use Rattle.py_raw.specs.RawStream.{WhereTold, WherePlace, WhereTransfers, NoFault, NoWait, WaitsOnce, LeavesCounts}
use Rattle.py_stream.specs.declared.stop.Stop.{Stop}
use Rattle.py_stream.specs.declared.stop.Stop.TheVariants as stop
use Rattle.py_stream.specs.declared.stop.Progress.{Progress}
use Rattle.py_stream.specs.declared.stop.Step.{Step}
use Rattle.py_stream.specs.declared.stop.Step.TheVariants as step
use Rattle.py_stream.specs.Stream.{Stream, file_of, nothing_owed}
use Rattle.py_stream.specs.Kinds.{is_reading}
use Rattle.py_stream.specs.LiveRaw.{starved}
use Rattle.py_stream.specs.Answers.{Answers, IsNear, EachBrings, ahead}
use Rattle.py_stream.specs.Reading.{KeepsReading, LeavesHeld, Reaches, FailsReading, StopOutcome}

-- a stream that may be read: it lives, reads and owes nothing, and its raw stands after the bytes held, at its place or near after it
pub record MayRead (stream : Stream) : Type 0 where
  pub live : stream.life ≡ life.Live
  pub readable : stream.can.readable ≡ true
  pub bare : stream.owed ≡ nothing_owed stream.place
  pub far : stream.place ≤ greatest_place
  pub near : IsNear stream
  pub ahead : stream.raw_place ≡ stream.held.to
  pub to : stream.place ≤ stream.raw_place

-- a reading begins, and no answer is short yet; or it is refused, and the refusal answers it, whichever reading it is
abbrev pub BeginsReading : Stream → Result (Unit {0}) IoFault → Stream → Type 0
BeginsReading old (Ok done) new = MayRead new × (new ≡ record old { short = false })
BeginsReading old (Err why) new = (call : FileCall) → is_reading call ≡ true → Answers old call (Refused why) new

-- One transfer for a buffer, after the bytes held, which were all taken.

-- bytes came into the front of what is left of a buffer
pub record StepsOn (old : Stream) (count : ℕ) (rest : List ℕ) (new : Stream) : Type 0 where
  pub kept : KeepsReading old new
  pub counts : LeavesCounts old.raw new.raw
  pub live : new.life ≡ life.Live
  pub some : 0 < count
  pub from : old.raw_place ≤ new.place
  pub to : new.place ≤ new.raw_place
  pub told : WhereTold old.raw (take count (left_at (file_of old).bytes old.raw_place) ≡ take count rest)
  pub each : EachBrings 0 0 old new
  pub forth : WherePlace old.raw (old.raw.place < new.raw.place)

-- the raw would have blocked, or a read of it brought none, as nothing comes: the stream stands where its raw does
pub record StepsNone (empties : ℕ) (old new : Stream) : Type 0 where
  pub kept : KeepsReading old new
  pub no_fault : NoFault old.raw new.raw
  pub live : new.life ≡ life.Live
  pub place : new.place ≡ old.raw_place
  pub stands : new.raw_place ≡ old.raw_place
  pub each : EachBrings 1 empties old new

-- the raw failed, and the stream with it, which stands where its raw stood
pub record StepFails (old new : Stream) : Type 0 where
  pub kept : KeepsReading old new
  pub cause : Rose old.raw.faults new.raw.faults
  pub no_wait : NoWait old.raw new.raw
  pub failed : new.life ≡ life.Failed
  pub place : new.place ≡ old.raw_place
  pub each : EachBrings 1 0 old new

-- memory ran out: the stream fails where bytes had moved in this call
abbrev pub StarvesWith : Bool → Stream → Stream → Type 0
StarvesWith moved old new = new ≡ record old { life = starved moved old.life }

-- one transfer: it brought less than what is left of the buffer, and the raw came so far; or as much, and the place did, among what
-- it brought; or none
abbrev pub StepOutcome : Stream → Bool → Result Step IoFault → List ℕ → Stream → Type 0
StepOutcome old moved (Ok (step.On count)) left new = StepsOn old count left new × (count < length left) × (new.raw_place ≡ old.raw_place + count)
StepOutcome old moved (Ok (step.Stopped count stop.Enough)) left new = StepsOn old count left new × (count ≡ length left) × (new.place ≡ old.raw_place + count) × WhereTransfers old.raw (new.raw_place < new.place + new.raw.reads.last)
StepOutcome old moved (Ok (step.Stopped count stop.End)) left new = (count ≡ 0) × StepsNone 1 old new × WhereTold old.raw (length (file_of old).bytes ≤ old.raw_place) × NoWait old.raw new.raw
StepOutcome old moved (Ok (step.Stopped count stop.Waits)) left new = (count ≡ 0) × StepsNone 0 old new × Rose old.raw.waits new.raw.waits × WaitsOnce old.raw new.raw
StepOutcome old moved (Err fault.RawFault) left new = StepFails old new
StepOutcome old moved (Err fault.NoMemory) left new = IsTrue old.raw.takes_memory × StarvesWith moved old new
StepOutcome old moved (Err other) left new = ⊥

-- Into a caller's buffer.

-- n bytes came into the front of the buffer: all of it where there are enough, and else less; for one that the bytes held fill the
-- raw isn't called, and the same bytes are held
pub record ReadsInto (old : Stream) (progress : Progress) (buffer : List ℕ) (new : Stream) : Type 0 where
  pub fits : progress.count ≤ length buffer
  pub full : progress.stop ≡ stop.Enough → progress.count ≡ length buffer
  pub less : progress.stop ≢ stop.Enough → progress.count < length buffer
  pub idle : length buffer ≤ ahead old → LeavesHeld old new
  pub to : new.place ≤ new.raw_place
  pub stops : StopOutcome old (take progress.count buffer) (Ok progress.stop) new

-- all that was held is in the front of a buffer that it doesn't fill, and the stream is as it was
pub record HoldsLess (old : Stream) (count : ℕ) (buffer : List ℕ) (new : Stream) : Type 0 where
  pub same : new ≡ old
  pub less : count < length buffer
  pub all : ahead old ≤ count
  pub to : old.raw_place ≡ old.place + count
  pub told : WhereTold old.raw (take count (left_at (file_of old).bytes old.place) ≡ take count buffer)

-- what is held fills a buffer, or doesn't
abbrev pub HeldOutcome : Stream → Step → List ℕ → Stream → Type 0
HeldOutcome old (step.On count) buffer new = HoldsLess old count buffer new
HeldOutcome old (step.Stopped count stop.Enough) buffer new = ReadsInto old (record { count = count; stop = stop.Enough }) buffer new
HeldOutcome old (step.Stopped count why) buffer new = ⊥

-- memory ran out in a reading that goes on, where bytes had left the raw in this call, or in the reading before it
pub record FailsStarved (moved : Bool) (before after : Stream) : Type 0 where
  pub kept : KeepsReading before after
  pub counts : LeavesCounts before.raw after.raw
  pub failed : after.life ≡ life.Failed
  pub forth : before.place ≤ after.place
  pub reach : Reaches before after
  pub raw_forth : before.raw_place ≤ after.raw_place
  pub further : moved ≡ false → before.raw_place < after.raw_place
  pub stands : WherePlace before.raw (before.raw.place ≤ after.raw.place)
  pub stands_further : moved ≡ false → WherePlace before.raw (before.raw.place < after.raw.place)
  pub some : moved ≡ false → WhereTold before.raw (rest (file_of before) ≢ [])
  pub each : EachBrings 0 0 before after

-- the raw's running out of memory: all is as it was where no byte had moved in this call; else the stream fails
abbrev pub StarvesIn : Bool → Stream → Stream → Type 0
StarvesIn moved old new = IsTrue old.raw.takes_memory × (((moved ≡ false) × (new ≡ old)) ⊎ FailsStarved moved old new)

-- a refused reading into a buffer moved the place by no more than that has room for, which is more than was held
abbrev pub MovesInto : Stream → List ℕ → Stream → Type 0
MovesInto old buffer new = (new.place ≤ old.place + length buffer) × (ahead old < length buffer)

-- a reading into a buffer came to some bytes, or is refused
abbrev pub ReadIntoOutcome : Stream → Bool → Result Progress IoFault → List ℕ → Stream → Type 0
ReadIntoOutcome old moved (Ok progress) buffer new = ReadsInto old progress buffer new
ReadIntoOutcome old moved (Err fault.RawFault) buffer new = FailsReading old new × MovesInto old buffer new
ReadIntoOutcome old moved (Err fault.NoMemory) buffer new = StarvesIn moved old new × MovesInto old buffer new
ReadIntoOutcome old moved (Err other) buffer new = ⊥

-- Of all that is left.

-- n bytes more were asked for, and some of them came after what a vector had; all of them where there are enough
pub record ReadsMore (old : Stream) (before : List ℕ) (more : ℕ) (where_stopped : Stop) (after : List ℕ) (new : Stream) : Type 0 where
  pub part : List ℕ
  pub behind : after ≡ before ++ part
  pub full : where_stopped ≡ stop.Enough → length part ≡ more
  pub to : new.place ≤ new.raw_place
  pub stops : StopOutcome old part (Ok where_stopped) new

-- a reading of n bytes more came to some of them, or is refused
abbrev pub ReadMoreOutcome : Stream → Bool → List ℕ → ℕ → Result Stop IoFault → List ℕ → Stream → Type 0
ReadMoreOutcome old moved before more (Ok where_stopped) after new = ReadsMore old before more where_stopped after new
ReadMoreOutcome old moved before more (Err fault.RawFault) after new = FailsReading old new
ReadMoreOutcome old moved before more (Err fault.NoMemory) after new = StarvesWith moved old new ⊎ FailsStarved moved old new
ReadMoreOutcome old moved before more (Err other) after new = ⊥
