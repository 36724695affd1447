-- A raw stream under the stream that calls it, and what each of its calls makes of that stream.
use Rattle.std.specs.Prelude.{◌≡◌, ◌≢◌, ℕ, ◌+◌, ◌≤◌, Bool, true, false, ◌&&◌, not, List, [], length, take, Option, Some, None, Result, Ok, Err}
use Rattle.py_flat.specs.declared.fault.IoFault.{IoFault}
use Rattle.py_flat.specs.declared.fault.IoFault.TheVariants as fault
use Rattle.py_flat.specs.declared.life.Life.{Life}
use Rattle.py_flat.specs.declared.life.Life.TheVariants as life
use Rattle.py_flat.specs.FlatFile.{Abilities}
use Rattle.py_flat.specs.Limits.{greatest_place}
use Rattle.py_flat.specs.Bytes.{left_at}
use Rattle.py_flat.specs.Refusals.{life_fault}
use Rattle.py_raw.specs.declared.raw_error.RawError.{RawError}
use Rattle.py_raw.specs.declared.raw_error.RawError.TheVariants as raw_error
use Rattle.py_flat.specs.Causes.{Rose}
use Rattle.py_raw.specs.RawStream.{Raw, WhereTold, WherePlace, WhereTransfers, KeepsBytes, KeepsReads, NoWait, Transfers, LeavesCounts, AnswersFor, ReadsBring, AsksToWait, FailsWithout, LacksMemory, LaysFront, WritesBytes}
use Rattle.py_stream.specs.declared.access.Access.{Access}

-- a raw stream, what its stream is opened for, what became of that, and whether a wait cut its last answer short
pub record LiveView : Type 0 where
  pub raw : Raw
  pub access : Access
  pub life : Life
  pub short : Bool

-- whether a life lets a call begin: that of a live stream does, each other refuses it
abbrev pub LetsBegin : Life → Result (Unit {0}) IoFault → Type 0
LetsBegin current (Ok done) = current ≡ life.Live
LetsBegin current (Err why) = life_fault current ≡ Some why

-- the life after memory ran out: a stream fails where bytes had moved in the call
abbrev pub starved : Bool → Life → Life
starved true current = life.Failed
starved false current = current

-- whether a stream may be moved: where it can be, and doesn't append
abbrev pub is_movable : Abilities → Bool
is_movable can = can.seekable && not can.appending

-- whether the bytes of a stream's raw may be given a size: where it writes, and may be moved
abbrev pub is_truncatable : Abilities → Bool
is_truncatable can = can.writable && is_movable can

-- what an error of the raw is answered by
abbrev pub fault_of : RawError → IoFault
fault_of raw_error.Fault = fault.RawFault
fault_of raw_error.Memory = fault.NoMemory

-- the life after an error of the raw: a fault fails the stream
abbrev pub life_after : RawError → Bool → Life → Life
life_after raw_error.Fault moved current = life.Failed
life_after raw_error.Memory moved current = starved moved current

-- a call of the raw, and the stream's life after an answer, after a fault and after running out of memory; all else is as it was
abbrev pub Calls : {A : Type 0} → (Result A RawError → Raw → Type 0) → (on_answer on_fault on_lack : Life) → LiveView → Result A IoFault → LiveView → Type 0
Calls Outcome on_answer on_fault on_lack old (Ok answer) new = Outcome (Ok answer) new.raw × (new ≡ record old { raw = new.raw; life = on_answer })
Calls Outcome on_answer on_fault on_lack old (Err fault.RawFault) new = Outcome (Err raw_error.Fault) new.raw × (new ≡ record old { raw = new.raw; life = on_fault })
Calls Outcome on_answer on_fault on_lack old (Err fault.NoMemory) new = Outcome (Err raw_error.Memory) new.raw × (new ≡ record old { life = on_lack })
Calls Outcome on_answer on_fault on_lack old (Err other) new = ⊥

-- some bytes came into the front of a buffer, and lie below the greatest place; none come into one that isn't empty only at the end.
-- Of a raw that stood at the place: told, they come next in it
pub record Comes (old : Raw) (place : ℕ) (before : List ℕ) (count : ℕ) (after : List ℕ) (new : Raw) : Type 0 where
  pub fits : count ≤ length after
  pub within : place + count ≤ greatest_place
  pub counts : LeavesCounts old new
  pub written : AnswersFor 0 old new
  pub reads : ReadsBring count old new
  pub next : WhereTold old (old.place ≡ place → take count (left_at old.bytes place) ≡ take count after)
  pub last : count ≡ 0 → before ≢ [] → WhereTold old (old.place ≡ place → length old.bytes ≤ place)
  pub stands : WherePlace old (new.place ≡ old.place + count)
  pub bytes : KeepsBytes old new
  pub transfers : Transfers 1 old new

-- one transfer into the front of a buffer
abbrev pub TransferOutcome : Raw → ℕ → List ℕ → List ℕ → Result (Option ℕ) RawError → Raw → Type 0
TransferOutcome old place before after (Ok (Some count)) new = Comes old place before count after new
TransferOutcome old place before after (Ok None) new = AsksToWait old new
TransferOutcome old place before after (Err raw_error.Fault) new = FailsWithout 1 old new
TransferOutcome old place before after (Err raw_error.Memory) new = LacksMemory old new × (after ≡ before)

-- the raw failed while it was given a piece, or took none of one that isn't empty: it answered for none of the piece; told, it may have
-- laid on a front of it
pub record FailsGiven (old : Raw) (piece : List ℕ) (new : Raw) : Type 0 where
  pub cause : Rose old.faults new.faults
  pub no_wait : NoWait old new
  pub written : AnswersFor 0 old new
  pub reads : KeepsReads old new
  pub told : WhereTold old ((count : ℕ) × (count ≤ length piece) × LaysFront old piece count new)
  pub transfers : WhereTransfers old (new.transfers ≤ old.transfers + 1)

-- one transfer of a piece to the raw, which takes some of it, none only of nothing
abbrev pub GiveOutcome : Raw → List ℕ → Result (Option ℕ) RawError → Raw → Type 0
GiveOutcome old piece (Ok (Some count)) new = WritesBytes old piece count new × (count ≡ 0 → piece ≡ [])
GiveOutcome old piece (Ok None) new = AsksToWait old new
GiveOutcome old piece (Err raw_error.Fault) new = FailsGiven old piece new
GiveOutcome old piece (Err raw_error.Memory) new = LacksMemory old new
