-- Giving the bytes of a stream a size.
use Rattle.std.specs.Prelude.{◌≡◌, ℕ, ◌⊎◌, IsTrue, Result, Ok, Err}
use Rattle.py_flat.specs.declared.fault.IoFault.{IoFault}
use Rattle.py_flat.specs.declared.fault.IoFault.TheVariants as fault
use Rattle.py_flat.specs.declared.life.Life.TheVariants as life
use Rattle.py_flat.specs.Bytes.{resized}
use Rattle.py_flat.specs.Causes.{Rose}
use Rattle.py_raw.specs.RawStream.{WhereBytes, NoWait, LeavesCounts, AnswersFor}
use Rattle.py_stream.specs.Stream.{Stream}
use Rattle.py_stream.specs.Keeping.{KeepsOn}

-- what giving the raw's bytes a size leaves of the stream: its place, where it counts its raw, and what it owes and holds
pub record KeepsPlace (old new : Stream) : Type 0 where
  pub kept : KeepsOn old new
  pub no_wait : NoWait old.raw new.raw
  pub answered : AnswersFor 0 old.raw new.raw
  pub place : new.place ≡ old.place
  pub raw_place : new.raw_place ≡ old.raw_place
  pub owed : new.owed ≡ old.owed
  pub held : new.held ≡ old.held

-- the raw's bytes have the size
pub record Resizes (old : Stream) (size : ℕ) (new : Stream) : Type 0 where
  pub keeps : KeepsPlace old new
  pub counts : LeavesCounts old.raw new.raw
  pub life_is : new.life ≡ old.life
  pub bytes : WhereBytes old.raw (new.raw.bytes ≡ resized old.raw.bytes size)

-- the raw failed, and its bytes are as they were, or have the size
pub record FailsToResize (old : Stream) (size : ℕ) (new : Stream) : Type 0 where
  pub keeps : KeepsPlace old new
  pub cause : Rose old.raw.faults new.raw.faults
  pub failed : new.life ≡ life.Failed
  pub bytes : WhereBytes old.raw ((new.raw.bytes ≡ old.raw.bytes) ⊎ (new.raw.bytes ≡ resized old.raw.bytes size))

-- the raw's bytes are given a size: they have it, or the raw failed, or wanted memory
abbrev pub ResizeOutcome : Stream → ℕ → Result (Unit {0}) IoFault → Stream → Type 0
ResizeOutcome old size (Ok done) new = Resizes old size new
ResizeOutcome old size (Err fault.RawFault) new = FailsToResize old size new
ResizeOutcome old size (Err fault.NoMemory) new = IsTrue old.raw.takes_memory × (new ≡ old)
ResizeOutcome old size (Err other) new = ⊥
