-- Passing on what a stream owes, and a caller's bytes.
use Rattle.std.specs.Prelude.{◌≡◌, ◌≢◌, ℕ, ◌+◌, ◌-◌, ◌<◌, ◌≤◌, Bool, true, false, IsTrue, List, [], length, take, Option, Some, None, Result, Ok, Err}
use Rattle.py_flat.specs.declared.fault.IoFault.{IoFault}
use Rattle.py_flat.specs.declared.fault.IoFault.TheVariants as fault
use Rattle.py_flat.specs.Causes.{Rose}
use Rattle.py_raw.specs.RawStream.{WhereTransfers, NoWait, WaitsOnce, KeepsBytes, LeavesCounts, AnswersFor}
use Rattle.py_stream.specs.Stream.{Stream, size_of}
use Rattle.py_stream.specs.declared.access.Access.{Access}
use Rattle.py_stream.specs.declared.access.Access.TheVariants as access
use Rattle.py_stream.specs.Keeping.{KeepsOn}
use Rattle.py_stream.specs.Writing.{OwesBehind}
use Rattle.py_stream.specs.Taking.{Took, FailsTaking, Starved}
use Rattle.py_stream.specs.Settling.{PassesSome, PassesJust, SettleOutcome}
use Rattle.py_stream.specs.Moving.{MoveRawOutcome}
use Rattle.py_stream.specs.Ending.{ClosingOutcome, BeginDetachIn}
use Rattle.py_flat.specs.declared.life.Life.{Life}
use Rattle.py_flat.specs.declared.life.Life.TheVariants as life
use Rattle.py_window.specs.Window.{end_of}
use Rattle.py_engine.specs.Engine.{EngineView}
use Rattle.py_engine.specs.declared.data.passing_on.Passed.{Passed}
use Rattle.py_engine.specs.declared.data.passing_on.Passed.TheVariants as passing

-- the raw stands where what is owed begins, if some is
abbrev pub StandsAtOwed : Stream → Type 0
StandsAtOwed stream = 0 < length stream.owed.bytes → stream.raw_place ≡ stream.owed.place

-- the raw failed while some was owed, and the stream with it
pub record FailsPassing (old new : Stream) : Type 0 where
  pub passes : PassesSome old new
  pub failed : new.life ≡ life.Failed
  pub cause : Rose old.raw.faults new.raw.faults
  pub no_wait : NoWait old.raw new.raw
  pub some : 0 < length new.owed.bytes

-- the raw would have blocked while some was owed
pub record WaitsPassing (old new : Stream) : Type 0 where
  pub just : PassesJust old new
  pub cause : Rose old.raw.waits new.raw.waits
  pub once : WaitsOnce old.raw new.raw
  pub some : 0 < length new.owed.bytes

-- one transfer of what is owed: some went; or the raw would have blocked
abbrev pub DrainOutcome : Stream → Result Passed IoFault → Stream → Type 0
DrainOutcome old (Ok passing.All) new = PassesJust old new × NoWait old.raw new.raw × (length new.owed.bytes < length old.owed.bytes)
DrainOutcome old (Ok passing.Waits) new = WaitsPassing old new
DrainOutcome old (Err fault.RawFault) new = FailsPassing old new
DrainOutcome old (Err fault.NoMemory) new = IsTrue old.raw.takes_memory × (new ≡ old)
DrainOutcome old (Err other) new = ⊥

-- all that is owed was passed on: nothing is owed then; or the raw would have blocked before
abbrev pub FlushOutcome : Stream → Result Passed IoFault → Stream → Type 0
FlushOutcome old (Ok passing.All) new = PassesJust old new × NoWait old.raw new.raw × (new.owed.bytes ≡ [])
FlushOutcome old (Ok passing.Waits) new = WaitsPassing old new
FlushOutcome old (Err fault.RawFault) new = FailsPassing old new
FlushOutcome old (Err fault.NoMemory) new = IsTrue old.raw.takes_memory × PassesJust old new × NoWait old.raw new.raw
FlushOutcome old (Err other) new = ⊥

-- all that is owed was passed on, wherever it belongs; or the raw would have blocked before, which no answer says yet; or that was refused
abbrev pub OwedOutcome : Stream → Result Passed IoFault → Stream → Type 0
OwedOutcome old (Ok passing.All) new = SettleOutcome old (Ok tt) new
OwedOutcome old (Ok passing.Waits) new = SettleOutcome old (Err (fault.WouldBlock 0)) (record new { short = true }) × (new.short ≡ old.short)
OwedOutcome old (Err fault.RawFault) new = SettleOutcome old (Err fault.RawFault) new
OwedOutcome old (Err fault.NoMemory) new = SettleOutcome old (Err fault.NoMemory) new
OwedOutcome old (Err other) new = ⊥

-- Moving the raw of a stream that is read and written.

-- the raw may be moved to a place among the bytes held, or right after them, but not before the first that is owed
pub record MayMoveRaw (engine : EngineView) (place : ℕ) : Type 0 where
  pub opened : engine.access ≡ access.Update
  pub after_begin : engine.window.begin ≤ place
  pub before_end : place ≤ end_of engine.window
  pub owed : engine.window.from ≢ engine.window.to → engine.window.begin + engine.window.from ≤ place

-- the raw stands at the place, and the stream is as it was but for what it holds
pub record StandsHere (old new : Stream) : Type 0 where
  pub kept : KeepsOn old new
  pub counts : LeavesCounts old.raw new.raw
  pub bytes : KeepsBytes old.raw new.raw
  pub answered : AnswersFor 0 old.raw new.raw
  pub transfers : WhereTransfers old.raw (new.raw.transfers ≤ old.raw.transfers)
  pub life_is : new.life ≡ old.life
  pub place : new.place ≡ old.place
  pub owed : new.owed ≡ old.owed
  pub stands : OwesBehind old → new.raw_place ≡ new.place

-- the raw is to stand at the place: it does, or it failed when it had to be moved, or wanted memory
abbrev pub StandsHereOutcome : Stream → Result (Unit {0}) IoFault → Stream → Type 0
StandsHereOutcome old (Ok done) new = StandsHere old new × (new.raw_place ≡ new.place)
StandsHereOutcome old (Err why) new = MoveRawOutcome old old.place (Err why) new

-- the raw is to stand after the bytes held: it does, or it failed when it had to be moved, or wanted memory
abbrev pub AlignsOutcome : Stream → Result (Unit {0}) IoFault → Stream → Type 0
AlignsOutcome old (Ok done) new = StandsHere old new
AlignsOutcome old (Err why) new = MoveRawOutcome old old.held.to (Err why) new × (old.raw_place < old.place)

-- a front of a caller's bytes, handed on to the raw while nothing is owed
abbrev pub HandOnOutcome : Stream → List ℕ → Result (Option ℕ) IoFault → Stream → Type 0
HandOnOutcome old bytes (Ok (Some count)) new = Took old (take count bytes) new × (0 < count) × (count ≤ length bytes) × (new.owed.bytes ≡ [])
HandOnOutcome old bytes (Ok None) new = Took old [] new × Rose old.raw.waits new.raw.waits
HandOnOutcome old bytes (Err fault.RawFault) new = FailsTaking old bytes new × (new.owed.bytes ≡ [])
HandOnOutcome old bytes (Err fault.NoMemory) new = IsTrue old.raw.takes_memory × (new ≡ old)
HandOnOutcome old bytes (Err other) new = ⊥

-- how many bytes the buffer has room for after what is owed
abbrev pub room_behind : Stream → ℕ
room_behind stream = size_of stream - length stream.owed.bytes

-- what fits of a call's bytes is taken after a wait
abbrev pub FitOutcome : Stream → List ℕ → Bool → Stream → Type 0
FitOutcome old bytes true new = Took old bytes new × (new.raw ≡ old.raw)
FitOutcome old bytes false new = Took old (take (room_behind old) bytes) new × (room_behind old < length bytes) × (length new.owed.bytes ≡ size_of new) × (new.raw ≡ old.raw)

-- what a refusal by the raw leaves of a call that writes from a place on
abbrev pub StopOutcome : IoFault → ℕ → Stream → Stream → Type 0
StopOutcome fault.NoMemory start old new = Starved start old new
StopOutcome why start old new = new ≡ old

-- Passing all on, for a call that needs it: by what the stream is opened for. One that is read owes nothing, and is left as it is.

-- all that is owed is passed on, or the passing on is refused; a stream that is read stays as it is
abbrev pub PassesAll : Access → Stream → Result (Unit {0}) IoFault → Stream → Type 0
PassesAll access.Read old result new = (result ≡ Ok tt) × (new ≡ old)
PassesAll other old result new = SettleOutcome old result new

-- all that is owed is passed on for a closing; a stream that is read stays as it is
abbrev pub PassesToClose : Access → Stream → Result (Unit {0}) IoFault → Stream → Type 0
PassesToClose access.Read old result new = (result ≡ Ok tt) × (new ≡ old)
PassesToClose other old result new = ClosingOutcome old result new

-- all that is owed is passed on for a detaching; a stream that is read stays as it is
abbrev pub PassesToDetach : Access → Stream → Result (Unit {0}) IoFault → Stream → Type 0
PassesToDetach access.Read old result new = (result ≡ Ok tt) × (new ≡ old)
PassesToDetach other old result new = BeginDetachIn life.Live old result new

-- a detaching begins where the raw may be handed back
abbrev pub BeginsDetachIn : Access → Life → Stream → Result (Unit {0}) IoFault → Stream → Type 0
BeginsDetachIn opened life.Live old result new = PassesToDetach opened old result new
BeginsDetachIn opened other old result new = BeginDetachIn other old result new
