-- How a text that is written stands on the one that reads: what it hands its buffer, and how it goes back to its place.
use Rattle.std.specs.Prelude.{◌≡◌, ◌≢◌, ℕ, ◌≤◌, Bool, true, false, IsTrue, Result, Ok, Err, if◌then◌else◌}
use Rattle.py_flat.specs.declared.fault.IoFault.{IoFault}
use Rattle.py_flat.specs.declared.fault.IoFault.TheVariants as fault
use Rattle.py_flat.specs.declared.life.Life.TheVariants as life
use Rattle.py_flat.specs.Limits.{greatest_place}
use Rattle.py_flat.specs.Causes.{Rose}
use Rattle.py_raw.specs.RawStream.{StaysOpen, AnswersFor}
use Rattle.py_stream.specs.Writing.{OwesBehind}
use Rattle.py_stream.specs.Buffer.{Buffer, WhereShown, flat_of, stream_shown, KeepsBuffer, IsClosedWithRaw}
use Rattle.py_read_text.specs.Answers.{StandsWhileLive}
use Rattle.py_read_text.specs.Knowing.{TextView, IsClean}

-- a text stands, clean, where its buffer stands; its settings are as they were, and it was put inside no item in between
pub record StandsBehind (old new : TextView) : Type 0 where
  pub front : new.front ≡ old.front
  pub at : new.at ≡ new.buffer.place
  pub clean : IsClean new
  pub settings : new.settings ≡ old.settings

-- the buffer was called, and no byte was read or written: its flat bytes, the raw's and what it owes stay, and the raw answered for none
-- and isn't closed; `faulted` says that the raw failed
pub record LeavesFlat (before : Buffer) (faulted : Bool) (after : Buffer) : Type 0 where
  pub keeps : KeepsBuffer before after
  pub fault : IsTrue faulted → Rose before.raw.faults after.raw.faults
  pub faults : IsTrue before.raw.counts_exactly → faulted ≡ false → after.raw.faults ≡ before.raw.faults
  pub life_is : after.life ≡ (if faulted then life.Failed else before.life)
  pub bytes : WhereShown before ((flat_of after).bytes ≡ (flat_of before).bytes)
  pub raw_bytes : WhereShown before (after.raw.bytes ≡ before.raw.bytes)
  pub far : after.place ≤ greatest_place
  pub stands : StandsWhileLive before → StandsWhileLive after
  pub stays : IsClosedWithRaw before → StaysOpen before.raw after.raw
  pub owed : after.owed.bytes ≡ before.owed.bytes
  pub answered : AnswersFor 0 before.raw after.raw

-- what a call answers, without its number
abbrev pub unit_of : Result ℕ IoFault → Result (Unit {0}) IoFault
unit_of (Ok number) = Ok tt
unit_of (Err why) = Err why

-- a buffer was moved back to the place of its text, or stood there and is as it was; or it stood elsewhere and asking the raw failed, or
-- memory ran out
abbrev pub ReturnOutcome : TextView → Result (Unit {0}) IoFault → TextView → Type 0
ReturnOutcome old (Ok done) new = (new.at ≡ new.buffer.place) × LeavesFlat old.buffer false new.buffer × (old.at ≡ old.buffer.place → new.buffer ≡ old.buffer)
ReturnOutcome old (Err fault.RawFault) new = LeavesFlat old.buffer true new.buffer × (new.buffer.place ≡ old.buffer.place) × (old.at ≢ old.buffer.place)
ReturnOutcome old (Err fault.NoMemory) new = LeavesFlat old.buffer false new.buffer × (new.buffer.place ≡ old.buffer.place)
ReturnOutcome old (Err other) new = ⊥

-- the raw of a buffer was moved, if at all, and the buffer stands where it stood: the raw of one that writes then stands where what it owes
-- begins. Or moving it failed, which fails the buffer, or memory ran out
abbrev pub PrepareOutcome : TextView → Result (Unit {0}) IoFault → TextView → Type 0
PrepareOutcome old (Ok done) new = LeavesFlat old.buffer false new.buffer × (new.buffer.place ≡ old.buffer.place) × (old.buffer.can.writable ≡ true → OwesBehind (stream_shown new.buffer))
PrepareOutcome old (Err fault.RawFault) new = LeavesFlat old.buffer true new.buffer × (new.buffer.place ≡ old.buffer.place)
PrepareOutcome old (Err fault.NoMemory) new = LeavesFlat old.buffer false new.buffer × (new.buffer.place ≡ old.buffer.place)
PrepareOutcome old (Err other) new = ⊥
