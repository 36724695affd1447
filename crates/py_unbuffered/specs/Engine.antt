-- The engine of the streams without a buffer: what it is seen as, and what its steps do.
use Rattle.std.specs.Prelude.{◌≡◌, ◌≢◌, ℕ, ◌+◌, ◌≤◌, Bool, true, false, IsTrue, List, [], length, take, Option, Some, None, Result, Ok, Err}
use Rattle.py_flat.specs.declared.fault.IoFault.{IoFault}
use Rattle.py_flat.specs.declared.fault.IoFault.TheVariants as fault
use Rattle.py_flat.specs.declared.life.Life.{Life}
use Rattle.py_flat.specs.declared.life.Life.TheVariants as life
use Rattle.py_flat.specs.Limits.{greatest_place}
use Rattle.py_flat.specs.Bytes.{left_at, lay}
use Rattle.py_flat.specs.Causes.{Rose}
use Rattle.py_raw.specs.RawStream.{Raw, Keeps, StaysOpen, WhereTold, WherePlace, WhereTransfers, KeepsBytes, NoFault, NoWait, WaitsOnce, LeavesCounts, AnswersFor, ReadsBring, KeepsReads}
use Rattle.py_stream.specs.Stream.{Stream, nothing_owed, nothing_held}
use Rattle.py_stream.specs.LiveRaw.{LiveView, LetsBegin, starved}
use Rattle.py_stream.specs.declared.access.Access.{Access}
use Rattle.py_stream.specs.Access.{can_of, is_able}

-- an engine: its raw, its place, what its stream is opened for, what became of it, and whether a wait cut the last answer short
pub record EngineView : Type 0 where
  pub raw : Raw
  pub place : ℕ
  pub access : Access
  pub life : Life
  pub short : Bool

-- the raw of an engine, and what became of its stream
abbrev pub live_of : EngineView → LiveView
live_of engine = record { raw = engine.raw; access = engine.access; life = engine.life; short = engine.short }

-- the stream that an engine is: the raw stands at its place, and is owed nothing
abbrev pub stream_of : EngineView → Stream
stream_of engine = record {
  raw = engine.raw;
  place = engine.place;
  raw_place = engine.place;
  can = can_of engine.access engine.raw.seekable;
  life = engine.life;
  buffer = None;
  short = engine.short;
  owed = nothing_owed engine.place;
  held = nothing_held engine.place;
}

-- what holds of every engine
pub record IsEngine (raw : Raw) (place : ℕ) (access : Access) (current : Life) : Type 0 where
  pub far : place ≤ greatest_place
  pub able : is_able access None raw ≡ true
  pub is_open : current ≡ life.Live → raw.closed ≡ false
  pub attached : current ≢ life.Detached
  pub stands : WherePlace raw (current ≡ life.Live → raw.place ≡ place)

-- what every step keeps of an engine
pub record KeepsEngine (old new : EngineView) : Type 0 where
  pub raw : Keeps old.raw new.raw
  pub stays : StaysOpen old.raw new.raw
  pub access : new.access ≡ old.access
  pub short : new.short ≡ old.short
  pub is : IsEngine new.raw new.place new.access new.life

-- a call begins: it is refused by the life, and nothing is short yet
abbrev pub BeginOutcome : EngineView → Result (Unit {0}) IoFault → EngineView → Type 0
BeginOutcome old result new = LetsBegin old.life result × (new ≡ record old { short = false })

-- What the steps over the raw come to.

-- the raw would have blocked: but for its counts all is as it was
pub record Waits (old new : EngineView) : Type 0 where
  pub kept : KeepsEngine old new
  pub cause : Rose old.raw.waits new.raw.waits
  pub once : WaitsOnce old.raw new.raw
  pub no_fault : NoFault old.raw new.raw
  pub answered : AnswersFor 0 old.raw new.raw
  pub reads : KeepsReads old.raw new.raw
  pub live : new.life ≡ life.Live
  pub place : new.place ≡ old.place
  pub bytes : KeepsBytes old.raw new.raw
  pub transfers : WhereTransfers old.raw (new.raw.transfers ≤ old.raw.transfers + 1)

-- the raw failed, and the stream with it; the bytes are as they were
pub record Fails (old new : EngineView) : Type 0 where
  pub kept : KeepsEngine old new
  pub cause : Rose old.raw.faults new.raw.faults
  pub no_wait : NoWait old.raw new.raw
  pub answered : AnswersFor 0 old.raw new.raw
  pub reads : KeepsReads old.raw new.raw
  pub failed : new.life ≡ life.Failed
  pub place : new.place ≡ old.place
  pub bytes : KeepsBytes old.raw new.raw
  pub transfers : WhereTransfers old.raw (new.raw.transfers ≤ old.raw.transfers + 1)

-- memory ran out: the stream fails where bytes had moved in this call
abbrev pub StarvesWith : Bool → EngineView → EngineView → Type 0
StarvesWith moved old new = new ≡ record old { life = starved moved old.life }

-- Reading.

-- n bytes came into the front of a buffer; told, the next ones, and none into one that isn't empty only at the end
pub record Brings (old : EngineView) (before : List ℕ) (count : ℕ) (after : List ℕ) (new : EngineView) : Type 0 where
  pub kept : KeepsEngine old new
  pub counts : LeavesCounts old.raw new.raw
  pub answered : AnswersFor 0 old.raw new.raw
  pub reads : ReadsBring count old.raw new.raw
  pub live : new.life ≡ life.Live
  pub fits : count ≤ length after
  pub place : new.place ≡ old.place + count
  pub bytes : KeepsBytes old.raw new.raw
  pub told : WhereTold old.raw (take count (left_at old.raw.bytes old.place) ≡ take count after)
  pub end : count ≡ 0 → before ≢ [] → WhereTold old.raw (length old.raw.bytes ≤ old.place)
  pub transfers : WhereTransfers old.raw (new.raw.transfers ≤ old.raw.transfers + 1)

-- one transfer into a buffer
abbrev pub TransferOutcome : EngineView → Bool → List ℕ → Result (Option ℕ) IoFault → List ℕ → EngineView → Type 0
TransferOutcome old moved before (Ok (Some count)) after new = Brings old before count after new
TransferOutcome old moved before (Ok None) after new = Waits old new
TransferOutcome old moved before (Err fault.RawFault) after new = Fails old new
TransferOutcome old moved before (Err fault.NoMemory) after new = IsTrue old.raw.takes_memory × StarvesWith moved old new
TransferOutcome old moved before (Err other) after new = ⊥

-- Writing.

-- the raw took the first n of the bytes; told, they were laid on at the place
pub record Puts (old : EngineView) (bytes : List ℕ) (count : ℕ) (new : EngineView) : Type 0 where
  pub kept : KeepsEngine old new
  pub counts : LeavesCounts old.raw new.raw
  pub answered : AnswersFor count old.raw new.raw
  pub reads : KeepsReads old.raw new.raw
  pub live : new.life ≡ life.Live
  pub fits : count ≤ length bytes
  pub some : count ≡ 0 → bytes ≡ []
  pub place : new.place ≡ old.place + count
  pub told : WhereTold old.raw (new.raw.bytes ≡ lay old.raw.bytes old.place (take count bytes))
  pub transfers : WhereTransfers old.raw (new.raw.transfers ≤ old.raw.transfers + 1)

-- the raw failed, and answered for none of the bytes; told, some front of them may be laid on
pub record FailsPutting (old : EngineView) (bytes : List ℕ) (new : EngineView) : Type 0 where
  pub kept : KeepsEngine old new
  pub cause : Rose old.raw.faults new.raw.faults
  pub no_wait : NoWait old.raw new.raw
  pub answered : AnswersFor 0 old.raw new.raw
  pub reads : KeepsReads old.raw new.raw
  pub failed : new.life ≡ life.Failed
  pub place : new.place ≡ old.place
  pub told : WhereTold old.raw ((count : ℕ) × (count ≤ length bytes) × (new.raw.bytes ≡ lay old.raw.bytes old.place (take count bytes)))
  pub transfers : WhereTransfers old.raw (new.raw.transfers ≤ old.raw.transfers + 1)

-- one transfer of bytes to the raw
abbrev pub PutOutcome : EngineView → Bool → List ℕ → Result (Option ℕ) IoFault → EngineView → Type 0
PutOutcome old moved bytes (Ok (Some count)) new = Puts old bytes count new
PutOutcome old moved bytes (Ok None) new = Waits old new
PutOutcome old moved bytes (Err fault.RawFault) new = FailsPutting old bytes new
PutOutcome old moved bytes (Err fault.NoMemory) new = IsTrue old.raw.takes_memory × StarvesWith moved old new
PutOutcome old moved bytes (Err other) new = ⊥
