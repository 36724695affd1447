-- How a call begins; a place moved by an offset, or by lines; and the steps of moving a stream.
use Rattle.std.specs.Prelude.{◌≡◌, ◌≢◌, ℕ, ◌+◌, ◌<◌, ◌≤◌, max, nat_eq, ℤ, pos, suc, zero, Bool, true, false, ◌&&◌, IsTrue, length, Option, Some, None, IsSome, is_some, Result, Ok, Err, if◌then◌else◌}
use Rattle.py_flat.specs.declared.fault.IoFault.{IoFault}
use Rattle.py_flat.specs.declared.fault.IoFault.TheVariants as fault
use Rattle.py_flat.specs.declared.life.Life.TheVariants as life
use Rattle.py_flat.specs.Causes.{Rose}
use Rattle.py_flat.specs.Owed.{Owed}
use Rattle.py_raw.specs.RawStream.{WhereBytes, WhereTransfers, KeepsBytes, NoWait, LeavesCounts, AnswersFor}
use Rattle.py_stream.specs.Stream.{Span, Stream, nothing_owed, nothing_held}
use Rattle.py_stream.specs.Writing.{OwesWithin}
use Rattle.py_stream.specs.Keeping.{IsSound, KeepsOn}
use Rattle.py_flat.specs.Limits.{greatest_place}
use Rattle.py_flat.specs.Refusals.{life_fault, moved_by, target_refusal}
use Rattle.py_stream.specs.Settling.{SettleOutcome}

-- a call begins: the life refuses it, or lets it go on, and no answer is short yet
abbrev pub Begins : Stream → Result (Unit {0}) IoFault → Stream → Type 0
Begins before (Ok done) after = (before.life ≡ life.Live) × (after ≡ record before { short = false })
Begins before (Err why) after = (life_fault before.life ≡ Some why) × (after ≡ record before { short = false })

-- the place that lies so far from another, or what refuses it
abbrev pub MovedBy : ℕ → ℤ → Result ℕ IoFault → Type 0
MovedBy base offset (Ok target) = (moved_by base offset ≡ Some target) × (target ≤ greatest_place)
MovedBy base offset (Err why) = target_refusal (moved_by base offset) ≡ Some why

-- where lines end that are written at a place, as far as there is such a place
abbrev pub EndsWithin : ℕ → Option ℕ → Type 0
EndsWithin end (Some place) = (place ≡ end) × (end ≤ greatest_place)
EndsWithin end None = greatest_place < end

-- Moving a stream.

-- whether a stream may keep bytes that it owes its raw: it writes, and has a buffer
abbrev pub keeps_pending : Stream → Bool
keeps_pending stream = stream.can.writable && is_some stream.buffer

-- what is owed, by that: a stream that keeps no bytes owes nothing
abbrev pub OwesBy : Bool → Stream → Type 0
OwesBy true stream = Unit {0}
OwesBy false stream = stream.owed ≡ nothing_owed stream.place

-- all that is owed is passed on before a stream is moved; one that keeps no bytes is left as it is
abbrev pub SettlesBy : Bool → Stream → Result (Unit {0}) IoFault → Stream → Type 0
SettlesBy true old result new = SettleOutcome old result new
SettlesBy false old result new = (result ≡ Ok tt) × (new ≡ old)

-- the end of the flat file, by where the raw ends: with what is owed
abbrev pub end_with : Owed → ℕ → ℕ
end_with owed end = if nat_eq (length owed.bytes) 0 then end else max end (owed.place + length owed.bytes)

-- the stream stands as it stood, and holds and owes what it did
pub record StandsAsBefore (old new : Stream) : Type 0 where
  pub kept : KeepsOn old new
  pub bytes : KeepsBytes old.raw new.raw
  pub answered : AnswersFor 0 old.raw new.raw
  pub place : new.place ≡ old.place
  pub raw_place : new.raw_place ≡ old.raw_place
  pub owed : new.owed ≡ old.owed
  pub held : new.held ≡ old.held

-- the raw was moved to a place, or stood there, and the stream is as it was
pub record MovesRaw (old : Stream) (place : ℕ) (new : Stream) : Type 0 where
  pub kept : KeepsOn old new
  pub counts : LeavesCounts old.raw new.raw
  pub bytes : KeepsBytes old.raw new.raw
  pub answered : AnswersFor 0 old.raw new.raw
  pub transfers : WhereTransfers old.raw (new.raw.transfers ≤ old.raw.transfers)
  pub life_is : new.life ≡ old.life
  pub place_is : new.place ≡ old.place
  pub raw_place : new.raw_place ≡ place
  pub owed : new.owed ≡ old.owed
  pub held : new.held ≡ old.held

-- the raw was asked where it ends: the stream is as it was, but for the raw's counts
pub record AsksEnd (old : Stream) (end : ℕ) (new : Stream) : Type 0 where
  pub stands : StandsAsBefore old new
  pub counts : LeavesCounts old.raw new.raw
  pub life_is : new.life ≡ old.life
  pub within : end ≤ greatest_place
  pub owed : OwesWithin old.owed end
  pub told : WhereBytes old.raw (end ≡ end_with old.owed (length old.raw.bytes))

-- what asking the raw where it ends, or moving it, leaves where it failed
pub record FailsMoving (old new : Stream) : Type 0 where
  pub stands : StandsAsBefore old new
  pub cause : Rose old.raw.faults new.raw.faults
  pub no_wait : NoWait old.raw new.raw
  pub failed : new.life ≡ life.Failed

-- the raw is to stand at a place: it does, or it failed when it had to be moved, or wanted memory
abbrev pub MoveRawOutcome : Stream → ℕ → Result (Unit {0}) IoFault → Stream → Type 0
MoveRawOutcome old place (Ok done) new = MovesRaw old place new
MoveRawOutcome old place (Err fault.RawFault) new = FailsMoving old new × (old.raw_place ≢ place) × WhereTransfers old.raw (new.raw.transfers ≤ old.raw.transfers)
MoveRawOutcome old place (Err fault.NoMemory) new = IsTrue old.raw.takes_memory × (new ≡ old)
MoveRawOutcome old place (Err other) new = ⊥

-- the raw was asked where it ends: it answered, failed, or wanted memory
abbrev pub EndOutcome : Stream → Result ℕ IoFault → Stream → Type 0
EndOutcome old (Ok end) new = AsksEnd old end new
EndOutcome old (Err fault.RawFault) new = FailsMoving old new
EndOutcome old (Err fault.NoMemory) new = IsTrue old.raw.takes_memory × (new ≡ old)
EndOutcome old (Err other) new = ⊥

-- a seek from a place that is known finds its target: nothing changes
abbrev pub TargetFrom : ℕ → ℤ → Stream → Result ℕ IoFault → Stream → Type 0
TargetFrom base offset old result new = MovedBy base offset result × (new ≡ old)

-- a seek from the end finds its target: some end was answered, or the asking failed
abbrev pub TargetFromEnd : ℤ → Stream → Result ℕ IoFault → Stream → Type 0
TargetFromEnd offset old (Err fault.RawFault) new = FailsMoving old new
TargetFromEnd offset old (Err fault.NoMemory) new = IsTrue old.raw.takes_memory × (new ≡ old)
TargetFromEnd offset old result new = (end : ℕ) × AsksEnd old end new × MovedBy end offset result

-- a seek looks for its target, from the start, from the place or from the end; no other whence is known
abbrev pub TargetOutcome : Stream → ℤ → ℤ → Result ℕ IoFault → Stream → Type 0
TargetOutcome old offset (pos zero) result new = TargetFrom 0 offset old result new
TargetOutcome old offset (pos (suc zero)) result new = TargetFrom old.place offset old result new
TargetOutcome old offset (pos (suc (suc zero))) result new = TargetFromEnd offset old result new
TargetOutcome old offset whence result new = (result ≡ Err fault.BadWhence) × (new ≡ old)

-- a target lies among the bytes held, or right after them
abbrev pub IsHeld : Span → ℕ → Type 0
IsHeld held target = (held.from ≤ target) × (target ≤ held.to)

-- what is owed of a stream that is moved to a target: where that is nothing, its place is the target
abbrev pub owed_at : ℕ → Owed → Owed
owed_at target owed = if nat_eq (length owed.bytes) 0 then nothing_owed target else owed

-- a stream goes to a target among the bytes held, if it reads, and keeps what it owes; or it stays, where the target isn't among them
abbrev pub StepsTo : Stream → ℕ → Bool → Stream → Type 0
StepsTo old target true new = (old.can.readable ≡ true) × IsSound new × (new ≡ record old { place = target; owed = owed_at target old.owed })
StepsTo old target false new = (new ≡ old) × (old.can.readable ≡ true → IsSome old.buffer → IsHeld old.held target → ⊥)

-- the stream stands at the target, and its raw there, with nothing owed and nothing held
pub record GoesTo (old : Stream) (target : ℕ) (new : Stream) : Type 0 where
  pub kept : KeepsOn old new
  pub counts : LeavesCounts old.raw new.raw
  pub answered : AnswersFor 0 old.raw new.raw
  pub bytes : KeepsBytes old.raw new.raw
  pub live : new.life ≡ life.Live
  pub place : new.place ≡ target
  pub owed : new.owed ≡ nothing_owed target
  pub held : new.held ≡ nothing_held target
  pub stands : new.raw_place ≡ target

-- a stream is moved to a target: it stands there, or its raw failed, or wanted memory
abbrev pub GoOutcome : Stream → ℕ → Result (Unit {0}) IoFault → Stream → Type 0
GoOutcome old target (Ok done) new = GoesTo old target new
GoOutcome old target (Err fault.RawFault) new = FailsMoving old new
GoOutcome old target (Err fault.NoMemory) new = IsTrue old.raw.takes_memory × (new ≡ old)
GoOutcome old target (Err other) new = ⊥
