-- What an opener shows, and what opening a path and taking a raw back may do.
use Rattle.std.specs.Prelude.{◌≡◌, ◌≢◌, ℕ, ◌≤◌, Bool, true, false, ◌&&◌, ◌||◌, IsTrue, IsFalse, nat_eq, is_some, is_none, IsSome, List, [], Option, Some, unwrap_or, Result, Ok, Err, if◌then◌else◌}
use Rattle.py_flat.specs.Causes.{Rose, RoseBy}
use Rattle.py_raw.specs.declared.opener.OpenError.{OpenError}
use Rattle.py_raw.specs.declared.opener.OpenError.TheVariants.{Fault, Memory}
use Rattle.py_raw.specs.Reads.{no_reads}
use Rattle.py_raw.specs.RawStream.{Raw, WherePlace, WhereTransfers, tells}
use Rattle.py_raw.specs.RawMode.{letter_r, letter_w, letter_x, file_letter, mode_reads, mode_writes}

-- what each path holds means something only where the opener tells it; a path is the bytes of its text. It counts the raws that it
-- opened and those that it took back. An opener that counts exactly counts a fault of its own only where a call answers it
pub record OpenerView : Type 0 where
  pub tells : Bool
  pub holds : List ℕ → Option (List ℕ)
  pub faults : ℕ
  pub raw_faults : ℕ
  pub raw_waits : ℕ
  pub opened : ℕ
  pub taken_back : ℕ
  pub counts_exactly : Bool

-- every path holds what it held
abbrev pub HoldsTheSame : OpenerView → OpenerView → Type 0
HoldsTheSame old new = (path : List ℕ) → new.holds path ≡ old.holds path

-- every path but one holds what it held
abbrev pub OthersHoldTheSame : List ℕ → OpenerView → OpenerView → Type 0
OthersHoldTheSame path old new = (other : List ℕ) → other ≢ path → new.holds other ≡ old.holds other

-- of an opener that counts exactly, no fault was counted
abbrev pub NoOpenerFault : OpenerView → OpenerView → Type 0
NoOpenerFault old new = IsTrue old.counts_exactly → new.faults ≡ old.faults

-- `open_raw`

-- what every opening keeps: the counts of the raws that were taken back, whether the opener tells, and whether it counts exactly; the
-- opener's faults don't fall
pub record OpenKeeps (old new : OpenerView) : Type 0 where
  pub tells : new.tells ≡ old.tells
  pub faults : old.faults ≤ new.faults
  pub raw_faults : new.raw_faults ≡ old.raw_faults
  pub raw_waits : new.raw_waits ≡ old.raw_waits
  pub taken_back : new.taken_back ≡ old.taken_back
  pub counts_exactly : new.counts_exactly ≡ old.counts_exactly

-- whether a mode can't open what a path holds: x finds it, or r misses it
abbrev pub misses : List ℕ → Option (List ℕ) → Bool
misses mode held = (nat_eq (file_letter mode) letter_x && is_some held) || (nat_eq (file_letter mode) letter_r && is_none held)

-- what a path holds once it is opened: w empties it, and what is made is empty
abbrev pub opened_bytes : List ℕ → Option (List ℕ) → List ℕ
opened_bytes mode held = if nat_eq (file_letter mode) letter_w then [] else unwrap_or held []

-- a raw as it was opened by a mode
pub record IsOpened (mode : List ℕ) (raw : Raw) : Type 0 where
  pub live : raw.closed ≡ false
  pub reads : raw.readable ≡ mode_reads mode
  pub writes : raw.writable ≡ mode_writes mode
  pub faults : raw.faults ≡ 0
  pub waits : raw.waits ≡ 0
  pub start : IsFalse raw.seekable → WherePlace raw (raw.place ≡ 0)
  pub transfers : WhereTransfers raw (raw.transfers ≡ 0)
  pub written : WhereTransfers raw (raw.written ≡ 0)
  pub read : WhereTransfers raw (raw.reads ≡ no_reads)

-- told: the raw can seek and stands at the start of the path's bytes
pub record OpensTold (old : OpenerView) (path mode : List ℕ) (raw : Raw) (new : OpenerView) : Type 0 where
  pub found : misses mode (old.holds path) ≡ false
  pub tells : tells raw ≡ true
  pub seeks : raw.seekable ≡ true
  pub place : raw.place ≡ 0
  pub bytes : raw.bytes ≡ opened_bytes mode (old.holds path)
  pub held : new.holds path ≡ Some (opened_bytes mode (old.holds path))
  pub others : OthersHoldTheSame path old new

-- a raw was opened, which is counted
pub record Opens (old : OpenerView) (path mode : List ℕ) (raw : Raw) (new : OpenerView) : Type 0 where
  pub opened : IsOpened mode raw
  pub counted : RoseBy 1 old.opened new.opened
  pub told : IsTrue old.tells → OpensTold old path mode raw new

-- refused by the outside, with its cause; told, exactly where the mode can't open the path
pub record OpenFaults (old : OpenerView) (path mode : List ℕ) (new : OpenerView) : Type 0 where
  pub cause : Rose old.faults new.faults
  pub none : new.opened ≡ old.opened
  pub missed : IsTrue old.tells → misses mode (old.holds path) ≡ true
  pub same : IsTrue old.tells → HoldsTheSame old new

-- refused when out of memory
pub record OpenLacksMemory (old : OpenerView) (path mode : List ℕ) (new : OpenerView) : Type 0 where
  pub faults : new.faults ≡ old.faults
  pub none : new.opened ≡ old.opened
  pub found : IsTrue old.tells → misses mode (old.holds path) ≡ false
  pub same : IsTrue old.tells → HoldsTheSame old new

abbrev pub OpenOutcome : {R : Type 0} → (R → Raw) → OpenerView → List ℕ → List ℕ → Result R OpenError → OpenerView → Type 0
OpenOutcome shows old path mode (Ok raw) new = Opens old path mode (shows raw) new
OpenOutcome shows old path mode (Err Fault) new = OpenFaults old path mode new
OpenOutcome shows old path mode (Err Memory) new = OpenLacksMemory old path mode new

-- `done`

-- the counts of raws rise by those of the raw that is taken back, and none of them falls; one raw more was taken back
pub record DoneKeeps (raw : Raw) (old new : OpenerView) : Type 0 where
  pub tells : new.tells ≡ old.tells
  pub faults : old.faults ≤ new.faults
  pub raw_faults : RoseBy raw.faults old.raw_faults new.raw_faults
  pub raw_waits : RoseBy raw.waits old.raw_waits new.raw_waits
  pub keeps_raw_faults : old.raw_faults ≤ new.raw_faults
  pub keeps_raw_waits : old.raw_waits ≤ new.raw_waits
  pub opened : new.opened ≡ old.opened
  pub taken_back : RoseBy 1 old.taken_back new.taken_back
  pub counts_exactly : new.counts_exactly ≡ old.counts_exactly

-- told: the path holds the raw's bytes, every other what it held
pub record PutsAway (raw : Raw) (old : OpenerView) (path : List ℕ) (new : OpenerView) : Type 0 where
  pub held : new.holds path ≡ Some raw.bytes
  pub others : OthersHoldTheSame path old new

-- an opener that tells puts a raw away at a path that holds something, as one that was opened does, whatever it
-- answers; every other path holds what it held
pub record PutsAwayHeld (raw : Raw) (old : OpenerView) (path : List ℕ) (new : OpenerView) : Type 0 where
  pub held : IsSome (old.holds path) → new.holds path ≡ Some raw.bytes
  pub others : OthersHoldTheSame path old new

pub record DoneFaults (raw : Raw) (old : OpenerView) (path : List ℕ) (new : OpenerView) : Type 0 where
  pub cause : Rose old.faults new.faults
  pub untold : IsFalse old.tells

abbrev pub DoneOutcome : Raw → OpenerView → List ℕ → Result (Unit {0}) OpenError → OpenerView → Type 0
DoneOutcome raw old path (Ok done) new = IsTrue old.tells → PutsAway raw old path new
DoneOutcome raw old path (Err Fault) new = DoneFaults raw old path new
DoneOutcome raw old path (Err Memory) new = IsTrue old.tells → PutsAwayHeld raw old path new
