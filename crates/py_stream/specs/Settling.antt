-- Passing on all that a stream owes, wherever it belongs, for a call that needs it.
use Rattle.std.specs.Prelude.{◌≡◌, ◌≢◌, ℕ, ◌+◌, ◌<◌, ◌≤◌, true, IsTrue, [], length, take, drop, Result, Ok, Err}
use Rattle.py_flat.specs.declared.fault.IoFault.{IoFault}
use Rattle.py_flat.specs.declared.fault.IoFault.TheVariants as fault
use Rattle.py_flat.specs.declared.life.Life.TheVariants as life
use Rattle.py_flat.specs.Bytes.{lay}
use Rattle.py_flat.specs.Causes.{Rose}
use Rattle.py_raw.specs.RawStream.{WhereTold, NoFault, NoWait, WaitsOnce, AnswersFor}
use Rattle.py_stream.specs.Stream.{Stream}
use Rattle.py_stream.specs.Answers.{moves_back}
use Rattle.py_stream.specs.Writing.{OwesBehind, NoneAtPlace, LaysFront, HasJust}
use Rattle.py_stream.specs.Keeping.{KeepsOn}

-- the first n of the bytes that were owed are passed on, wherever they belong; told, these were laid on, and maybe more of them
pub record PassesSome (old new : Stream) : Type 0 where
  pub kept : KeepsOn old new
  pub passed : ℕ
  pub within : passed ≤ length old.owed.bytes
  pub answered : AnswersFor passed old.raw new.raw
  pub place : new.owed.bytes ≢ [] → new.owed.place ≡ old.owed.place + passed
  pub owed : new.owed.bytes ≡ drop passed old.owed.bytes
  pub still : new.place ≡ old.place
  pub at : NoneAtPlace old → NoneAtPlace new
  pub stands : OwesBehind old → new.raw_place ≡ new.owed.place
  pub lays : WhereTold old.raw (LaysFront old [] new.raw.bytes)
  pub told : WhereTold old.raw ((laid : ℕ) × (passed ≤ laid) × (laid ≤ length old.owed.bytes) × (new.raw.bytes ≡ lay old.raw.bytes old.owed.place (take laid old.owed.bytes)))

-- exactly the first n of the bytes that were owed are passed on, by a raw that stood where they belong, and the stream lives on
pub record PassesJust (old new : Stream) : Type 0 where
  pub kept : KeepsOn old new
  pub live : new.life ≡ life.Live
  pub no_fault : NoFault old.raw new.raw
  pub passed : ℕ
  pub within : passed ≤ length old.owed.bytes
  pub answered : AnswersFor passed old.raw new.raw
  pub place : new.owed.bytes ≢ [] → new.owed.place ≡ old.owed.place + passed
  pub owed : new.owed.bytes ≡ drop passed old.owed.bytes
  pub still : new.place ≡ old.place
  pub at : NoneAtPlace new
  pub raw_place : new.raw_place ≡ old.raw_place + passed
  pub told : WhereTold old.raw (new.raw.bytes ≡ lay old.raw.bytes old.owed.place (take passed old.owed.bytes))

-- some was passed on, or none, and the stream lives on; told, the raw has just that
pub record LivesOn (old new : Stream) : Type 0 where
  pub passes : PassesSome old new
  pub live : new.life ≡ life.Live
  pub no_fault : NoFault old.raw new.raw
  pub just : HasJust old new

-- the raw has to be moved back, and failed to: it doesn't stand at the place
pub record FailsBack (old new : Stream) : Type 0 where
  pub moves : moves_back old ≡ true
  pub elsewhere : new.raw_place ≢ new.place

-- all that is owed was passed on, so that nothing is owed; or a wait of the raw is remembered, while some is owed; the raw failed while
-- some was owed, or when it was to be moved back; or it wanted memory
abbrev pub SettleOutcome : Stream → Result (Unit {0}) IoFault → Stream → Type 0
SettleOutcome old (Ok done) new = LivesOn old new × NoWait old.raw new.raw × (new.owed.bytes ≡ [])
SettleOutcome old (Err (fault.WouldBlock taken)) new = (taken ≡ 0) × LivesOn old (record new { short = old.short }) × (new.short ≡ true) × Rose old.raw.waits new.raw.waits × WaitsOnce old.raw new.raw × (0 < length new.owed.bytes)
SettleOutcome old (Err fault.RawFault) new = PassesSome old new × (new.life ≡ life.Failed) × Rose old.raw.faults new.raw.faults × NoWait old.raw new.raw × (new.owed.bytes ≡ [] → FailsBack old new)
SettleOutcome old (Err fault.NoMemory) new = IsTrue old.raw.takes_memory × LivesOn old new × NoWait old.raw new.raw
SettleOutcome old (Err other) new = ⊥
