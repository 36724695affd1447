-- Reading from an engine that reads ahead: nothing is pending, and its raw stands after the bytes held.
use Rattle.std.specs.Prelude.{◌≡◌, ◌≢◌, ℕ, ◌+◌, ◌<◌, ◌≤◌, Bool, true, false, if◌then◌else◌, nat_lt, IsTrue, List, [], length, take, Some, Result, Ok, Err, Vec}
use Rattle.std.specs.declared.alloc.Global.{Global}
use Rattle.py_flat.specs.declared.fault.IoFault.{IoFault}
use Rattle.py_flat.specs.declared.fault.IoFault.TheVariants as fault
use Rattle.py_flat.specs.declared.life.Life.TheVariants as life
use Rattle.py_flat.specs.Bytes.{left_at}
use Rattle.py_flat.specs.Calls.{FileReply, Read, ReadInto}
use Rattle.py_flat.specs.Causes.{Rose}
use Rattle.py_raw.specs.RawStream.{Keeps, StaysOpen, WhereTold, WherePlace, WhereTransfers, KeepsBytes, NoFault, NoWait, WaitsOnce, AnswersFor, KeepsReads}
use Rattle.py_stream.specs.Access.{can_of, is_read}
use Rattle.py_stream.specs.Stream.{Stream, nothing_owed}
use Rattle.py_stream.specs.Answers.{Answers, CameByReads, EachBrings, ReadsOnce}
use Rattle.py_stream.specs.LiveRaw.{starved}
use Rattle.py_stream.specs.declared.stop.Stop.{Stop}
use Rattle.py_stream.specs.declared.stop.Stop.TheVariants as stop
use Rattle.py_window.specs.declared.window.Filled.{Filled}
use Rattle.py_window.specs.declared.window.Filled.TheVariants as filled
use Rattle.py_stream.specs.declared.stop.Step.{Step}
use Rattle.py_stream.specs.declared.stop.Step.TheVariants as step
use Rattle.py_window.specs.Window.{IsWindow, place_of, end_of, ahead_of, advanced, emptied_at, HoldsNew, HoldsBytes}
use Rattle.py_engine.specs.Engine.{EngineView, ReadsAhead}

-- the stream that an engine is which reads ahead
abbrev pub reading_of : EngineView → Stream
reading_of engine = record {
  raw = engine.raw;
  place = place_of engine.window;
  raw_place = end_of engine.window;
  can = can_of engine.access engine.raw.seekable;
  life = engine.life;
  buffer = Some engine.window.size;
  short = engine.short;
  owed = nothing_owed (place_of engine.window);
  held = record { from = engine.window.begin; to = end_of engine.window };
}

-- what holds of an engine that reads ahead; of a live one that its raw stands after the bytes held, and told, that these are the raw's
pub record IsReading (engine : EngineView) : Type 0 where
  pub reads : is_read engine.access ≡ true
  pub window_is : IsWindow engine.window
  pub is_open : engine.life ≡ life.Live → engine.raw.closed ≡ false
  pub attached : engine.life ≢ life.Detached
  pub ahead : ReadsAhead engine.raw_place engine.window
  pub stands : WherePlace engine.raw (engine.life ≡ life.Live → engine.raw.place ≡ end_of engine.window)
  pub told : WhereTold engine.raw (engine.life ≡ life.Live → HoldsBytes engine.raw.bytes engine.window)

-- what every step of a reading keeps of an engine
pub record KeepsEngine (old new : EngineView) : Type 0 where
  pub raw : Keeps old.raw new.raw
  pub stays : StaysOpen old.raw new.raw
  pub bytes : KeepsBytes old.raw new.raw
  pub written : AnswersFor 0 old.raw new.raw
  pub size : new.window.size ≡ old.window.size
  pub access : new.access ≡ old.access
  pub short : new.short ≡ old.short
  pub is : IsReading new

-- Failing.

-- the raw failed, and the stream with it
pub record FailsByRaw (old new : EngineView) : Type 0 where
  pub kept : KeepsEngine old new
  pub cause : Rose old.raw.faults new.raw.faults
  pub no_wait : NoWait old.raw new.raw
  pub failed : new.life ≡ life.Failed
  pub place : place_of new.window ≡ end_of old.window
  pub end : end_of new.window ≡ end_of old.window
  pub reads : KeepsReads old.raw new.raw
  pub transfers : WhereTransfers old.raw (new.raw.transfers ≤ old.raw.transfers + 1)

-- What one transfer leaves.

-- what at most one transfer leaves of a live engine
pub record Transferred (old new : EngineView) : Type 0 where
  pub kept : KeepsEngine old new
  pub no_fault : NoFault old.raw new.raw
  pub live : new.life ≡ life.Live
  pub transfers : WhereTransfers old.raw (new.raw.transfers ≤ old.raw.transfers + 1)
  pub once : ReadsOnce (reading_of old) (reading_of new)
  pub came : CameByReads 1 (reading_of old) (reading_of new)

-- the raw would have blocked, or a read of it brought none, as nothing comes: the window is used up
pub record UsesUp (empties : ℕ) (old new : EngineView) : Type 0 where
  pub transferred : Transferred old new
  pub came : CameByReads empties (reading_of old) (reading_of new)
  pub place : place_of new.window ≡ end_of old.window
  pub end : end_of new.window ≡ end_of old.window
  pub none : ahead_of new.window ≡ []
  pub still : WherePlace old.raw (new.raw.place ≡ old.raw.place)

-- told: no byte comes after those held
abbrev pub IsLast : EngineView → Type 0
IsLast old = WhereTold old.raw (length old.raw.bytes ≤ end_of old.window)

-- memory ran out: the stream fails where bytes had moved in this call
abbrev pub StarvesWith : Bool → EngineView → EngineView → Type 0
StarvesWith moved old new = new ≡ record old { life = starved moved old.life }

-- the raw wanted memory that it takes: nothing changed
abbrev pub RawStarves : Bool → EngineView → EngineView → Type 0
RawStarves moved old new = IsTrue old.raw.takes_memory × StarvesWith moved old new

-- the window was filled anew
pub record Fills (old : EngineView) (count : ℕ) (new : EngineView) : Type 0 where
  pub transferred : Transferred old new
  pub no_wait : NoWait old.raw new.raw
  pub holds : HoldsNew old.window count new.window
  pub some : 0 < count
  pub told : WhereTold old.raw (take count (left_at old.raw.bytes (end_of old.window)) ≡ new.window.held)
  pub each : EachBrings 0 0 (reading_of old) (reading_of new)
  pub last : WhereTransfers old.raw (new.raw.reads.last ≡ count)
  pub forth : WherePlace old.raw (old.raw.place < new.raw.place)

-- one transfer into the window: it brought bytes, nothing comes, the raw waits or failed, or memory ran out
abbrev pub FillsOutcome : EngineView → Bool → Result Filled IoFault → EngineView → Type 0
FillsOutcome old moved (Ok (filled.More count)) new = Fills old count new
FillsOutcome old moved (Ok filled.End) new = UsesUp 1 old new × IsLast old × NoWait old.raw new.raw
FillsOutcome old moved (Ok filled.Waits) new = UsesUp 0 old new × Rose old.raw.waits new.raw.waits × WaitsOnce old.raw new.raw
FillsOutcome old moved (Err fault.RawFault) new = FailsByRaw old new
FillsOutcome old moved (Err fault.NoMemory) new = RawStarves moved old new
FillsOutcome old moved (Err other) new = ⊥

-- bytes went past the window into the front of a caller's buffer
pub record Passes (old : EngineView) (count : ℕ) (buffer : List ℕ) (new : EngineView) : Type 0 where
  pub transferred : Transferred old new
  pub no_wait : NoWait old.raw new.raw
  pub fits : count ≤ length buffer
  pub some : 0 < count
  pub window_is : new.window ≡ emptied_at (end_of old.window + count) old.window
  pub told : WhereTold old.raw (take count (left_at old.raw.bytes (end_of old.window)) ≡ take count buffer)
  pub each : EachBrings 0 0 (reading_of old) (reading_of new)
  pub last : WhereTransfers old.raw (new.raw.reads.last ≡ count)
  pub forth : WherePlace old.raw (old.raw.place < new.raw.place)

-- one transfer past the window into a caller's buffer: it brought bytes, nothing comes, the raw waits or failed, or memory ran out
abbrev pub PassesOutcome : EngineView → Bool → Result Filled IoFault → List ℕ → EngineView → Type 0
PassesOutcome old moved (Ok (filled.More count)) buffer new = Passes old count buffer new
PassesOutcome old moved (Ok filled.End) buffer new = UsesUp 1 old new × IsLast old × NoWait old.raw new.raw
PassesOutcome old moved (Ok filled.Waits) buffer new = UsesUp 0 old new × Rose old.raw.waits new.raw.waits × WaitsOnce old.raw new.raw
PassesOutcome old moved (Err fault.RawFault) buffer new = FailsByRaw old new
PassesOutcome old moved (Err fault.NoMemory) buffer new = RawStarves moved old new
PassesOutcome old moved (Err other) buffer new = ⊥

-- Into a caller's buffer.

-- what answers every call that wants n bytes
pub record AnswersSized (before : Stream) (size : ℕ) (reply : FileReply) (after : Stream) : Type 0 where
  pub read : Answers before (Read (Some size)) reply after
  pub readinto : Answers before (ReadInto size) reply after

-- the step that a transfer makes which brought n bytes of as many as were wanted
abbrev pub stepped : Filled → ℕ → ℕ → Step
stepped (filled.More any) count wanted = if nat_lt count wanted then step.On count else step.Stopped count stop.Enough
stepped filled.End count wanted = step.Stopped 0 stop.End
stepped filled.Waits count wanted = step.Stopped 0 stop.Waits

-- By one transfer.

-- the window has some bytes ahead, without a call of the raw where it held some; or it is used up, and nothing comes; or the raw
-- waits
abbrev pub ReadyOutcome : EngineView → Result Stop IoFault → EngineView → Type 0
ReadyOutcome old (Ok stop.Enough) new = Transferred old new × (place_of new.window ≡ place_of old.window) × (0 < length (ahead_of new.window)) × NoWait old.raw new.raw × (end_of old.window ≢ place_of old.window → new ≡ old)
ReadyOutcome old (Ok stop.End) new = Transferred old new × (place_of new.window ≡ place_of old.window) × (ahead_of new.window ≡ []) × WhereTold old.raw (length old.raw.bytes ≤ place_of old.window) × NoWait old.raw new.raw × (end_of old.window ≡ place_of old.window)
ReadyOutcome old (Ok stop.Waits) new = Transferred old new × (place_of new.window ≡ place_of old.window) × (ahead_of new.window ≡ []) × Rose old.raw.waits new.raw.waits × WaitsOnce old.raw new.raw × (end_of old.window ≡ place_of old.window)
ReadyOutcome old (Err fault.RawFault) new = FailsByRaw old new × (place_of new.window ≡ place_of old.window) × (end_of old.window ≡ place_of old.window)
ReadyOutcome old (Err fault.NoMemory) new = IsTrue old.raw.takes_memory × (new ≡ old)
ReadyOutcome old (Err other) new = ⊥

-- what is held is given, at most n bytes: the raw isn't called
abbrev pub GivesHeld : EngineView → ℕ → Result (Vec ℕ Global) IoFault → EngineView → Type 0
GivesHeld old size (Ok part) new = (part.items ≡ take size (ahead_of old.window)) × (new ≡ record old { window = advanced (length part.items) old.window })
GivesHeld old size (Err refused) new = (refused ≡ fault.NoMemory) × (new ≡ old)
