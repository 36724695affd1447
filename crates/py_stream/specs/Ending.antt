-- The steps of closing a stream, and of handing its raw back.
use Rattle.std.specs.Prelude.{◌≡◌, ◌≤◌, true, IsTrue, Result, Ok, Err}
use Rattle.py_flat.specs.declared.fault.IoFault.{IoFault}
use Rattle.py_flat.specs.declared.fault.IoFault.TheVariants as fault
use Rattle.py_flat.specs.declared.life.Life.{Life}
use Rattle.py_flat.specs.declared.life.Life.TheVariants as life
use Rattle.py_flat.specs.Limits.{greatest_place}
use Rattle.py_flat.specs.Causes.{Rose}
use Rattle.py_raw.specs.RawStream.{Keeps, KeepsBytes, NoFault, NoWait, AnswersFor, KeepsReads}
use Rattle.py_stream.specs.Stream.{Stream}
use Rattle.py_stream.specs.Answers.{moves_back}
use Rattle.py_stream.specs.Settling.{SettleOutcome}

-- all that is owed is passed on for a closing, and the raw then stands at the place, if it had to be moved back; a fault leaves the stream
-- closed, and its raw open
abbrev pub ClosingOutcome : Stream → Result (Unit {0}) IoFault → Stream → Type 0
ClosingOutcome old (Ok done) new = SettleOutcome old (Ok done) new × (moves_back old ≡ true → new.raw_place ≡ new.place)
ClosingOutcome old (Err fault.RawFault) new = (failed : Stream) × SettleOutcome old (Err fault.RawFault) failed × (new ≡ record failed { life = life.Closed })
ClosingOutcome old result new = SettleOutcome old result new

-- the raw was closed, and the stream with it
pub record ClosesRaw (old new : Stream) : Type 0 where
  pub raw : Keeps old.raw new.raw
  pub closed : new.raw.closed ≡ true
  pub no_wait : NoWait old.raw new.raw
  pub answered : AnswersFor 0 old.raw new.raw
  pub reads : KeepsReads old.raw new.raw
  pub bytes : KeepsBytes old.raw new.raw
  pub life_is : new.life ≡ life.Closed
  pub buffer : new.buffer ≡ old.buffer
  pub can : new.can ≡ old.can
  pub short : new.short ≡ old.short
  pub place : new.place ≡ old.place
  pub raw_place : new.raw_place ≡ old.raw_place
  pub owed : new.owed ≡ old.owed
  pub far : new.place ≤ greatest_place

-- what closing the raw of a live stream comes to: it is closed, also where that failed, and the stream with it; or memory ran out
abbrev pub CloseRawOutcome : Stream → Result (Unit {0}) IoFault → Stream → Type 0
CloseRawOutcome old (Ok done) new = ClosesRaw old new × NoFault old.raw new.raw
CloseRawOutcome old (Err fault.RawFault) new = ClosesRaw old new × Rose old.raw.faults new.raw.faults
CloseRawOutcome old (Err fault.NoMemory) new = IsTrue old.raw.takes_memory × (new ≡ old)
CloseRawOutcome old (Err other) new = ⊥

-- a detaching begins where the raw may be handed back: of a live stream once nothing is owed, and its raw stands at the place; and of a
-- failed one
abbrev pub BeginDetachIn : Life → Stream → Result (Unit {0}) IoFault → Stream → Type 0
BeginDetachIn life.Live old (Ok done) new = SettleOutcome old (Ok done) new × (new.raw_place ≡ new.place)
BeginDetachIn life.Live old (Err why) new = SettleOutcome old (Err why) new
BeginDetachIn life.Failed old result new = (result ≡ Ok tt) × (new ≡ old)
BeginDetachIn life.Closed old result new = (result ≡ Err fault.Closed) × (new ≡ old)
BeginDetachIn life.Detached old result new = ⊥
