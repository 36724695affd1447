-- The engine of the buffered streams: what it is seen as, and what holds of it.
use Rattle.std.specs.Prelude.{◌≡◌, ◌≢◌, ℕ, ◌+◌, ◌≤◌, Bool, true, false, IsTrue, List, length, Some, Result, Ok, Err}
use Rattle.py_flat.specs.declared.fault.IoFault.{IoFault}
use Rattle.py_flat.specs.declared.fault.IoFault.TheVariants as fault
use Rattle.py_flat.specs.declared.life.Life.{Life}
use Rattle.py_flat.specs.declared.life.Life.TheVariants as life
use Rattle.py_raw.specs.RawStream.{Raw, Keeps, StaysOpen, FailsWithout, Answers, WhereTold, WherePlace}
use Rattle.py_stream.specs.declared.access.Access.{Access}
use Rattle.py_stream.specs.declared.access.Access.TheVariants as access
use Rattle.py_stream.specs.Access.{can_of, is_written}
use Rattle.py_stream.specs.Stream.{Stream}
use Rattle.py_stream.specs.LiveRaw.{LetsBegin}
use Rattle.py_window.specs.Window.{WindowView, IsWindow, Collects, place_of, end_of, owed_of, HoldsBytes, flat_over}

-- an engine: its raw, where the raw stands by the stream's own count, the window on the raw's bytes, what its stream is opened for, what
-- became of it, and whether a wait cut the last answer short
pub record EngineView : Type 0 where
  pub raw : Raw
  pub raw_place : ℕ
  pub window : WindowView
  pub access : Access
  pub life : Life
  pub short : Bool

-- the stream that an engine is
abbrev pub stream_of : EngineView → Stream
stream_of engine = record {
  raw = engine.raw;
  place = place_of engine.window;
  raw_place = engine.raw_place;
  can = can_of engine.access engine.raw.seekable;
  life = engine.life;
  buffer = Some engine.window.size;
  short = engine.short;
  owed = owed_of engine.window;
  held = record { from = engine.window.begin; to = end_of engine.window };
}

-- the shape of a window by what the stream is opened for. Of a stream that is read nothing is owed, and its raw stands after the
-- bytes held
pub record ReadsAhead (raw_place : ℕ) (window : WindowView) : Type 0 where
  pub settled : window.from ≡ window.to
  pub stands : raw_place ≡ end_of window

-- of a stream that is written what is owed ends at the place, where all held bytes end, and the raw stands where what is owed begins
pub record OwesBefore (raw_place : ℕ) (window : WindowView) : Type 0 where
  pub collects : Collects window
  pub stands : raw_place ≡ window.begin + window.from

-- of a stream that is read and written the raw stands where some byte is held, or right after these, and not before the first that is owed
pub record StandsAmong (raw_place : ℕ) (window : WindowView) : Type 0 where
  pub after_begin : window.begin ≤ raw_place
  pub before_end : raw_place ≤ end_of window
  pub owed : window.from ≢ window.to → window.begin + window.from ≤ raw_place

-- where an engine's raw stands beside its window, by what the stream is opened for
abbrev pub HasShape : Access → ℕ → WindowView → Type 0
HasShape access.Read raw_place window = ReadsAhead raw_place window
HasShape access.Update raw_place window = StandsAmong raw_place window
HasShape other raw_place window = OwesBefore raw_place window

-- told, what a stream that is read holds are the flat bytes
abbrev pub HoldsRead : Access → List ℕ → WindowView → Type 0
HoldsRead access.Read bytes window = HoldsBytes bytes window
HoldsRead access.Update bytes window = HoldsBytes (flat_over bytes window) window
HoldsRead other bytes window = Unit {0}

-- an engine that takes bytes behind those that it owes: it is opened to be written, what it owes ends at its place, where all held bytes
-- end, and its raw stands where that begins
pub record IsBehind (engine : EngineView) : Type 0 where
  pub writes : is_written engine.access ≡ true
  pub owes : OwesBefore engine.raw_place engine.window

-- what holds of every engine; of a live one that its raw is open, and stands where the stream counts
pub record IsEngine (raw : Raw) (raw_place : ℕ) (window : WindowView) (opened : Access) (current : Life) : Type 0 where
  pub window_is : IsWindow window
  pub is_open : current ≡ life.Live → raw.closed ≡ false
  pub attached : current ≢ life.Detached
  pub shape : HasShape opened raw_place window
  pub stands : WherePlace raw (current ≡ life.Live → raw.place ≡ raw_place)
  pub told : WhereTold raw (current ≡ life.Live → HoldsRead opened raw.bytes window)

-- an engine as it is seen
abbrev pub Stands : EngineView → Type 0
Stands engine = IsEngine engine.raw engine.raw_place engine.window engine.access engine.life

-- the raw was asked where it ends, and answered: nothing else changed
pub record AsksRawEnd (old : EngineView) (end : ℕ) (new : EngineView) : Type 0 where
  pub same : new ≡ record old { raw = new.raw }
  pub kept : Keeps old.raw new.raw
  pub stays : StaysOpen old.raw new.raw
  pub answers : Answers old.raw.tells_bytes old.raw (length old.raw.bytes) end new.raw

-- the raw failed to say where it ends, and the stream with it
pub record FailsRawEnd (old new : EngineView) : Type 0 where
  pub same : new ≡ record old { raw = new.raw; life = life.Failed }
  pub kept : Keeps old.raw new.raw
  pub stays : StaysOpen old.raw new.raw
  pub fails : FailsWithout 0 old.raw new.raw

-- the raw was asked where it ends: it answered, failed, or wanted memory
abbrev pub RawEndOutcome : EngineView → Result ℕ IoFault → EngineView → Type 0
RawEndOutcome old (Ok end) new = AsksRawEnd old end new
RawEndOutcome old (Err fault.RawFault) new = FailsRawEnd old new
RawEndOutcome old (Err fault.NoMemory) new = IsTrue old.raw.takes_memory × (new ≡ old)
RawEndOutcome old (Err other) new = ⊥

-- a call begins: it is refused by the life, and nothing is short yet
abbrev pub BeginOutcome : EngineView → Result (Unit {0}) IoFault → EngineView → Type 0
BeginOutcome old result new = LetsBegin old.life result × (new ≡ record old { short = false })
