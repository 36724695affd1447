-- What the readings of a raw stream that take memory of their own may do: once, and up to the end.
use Rattle.std.specs.Prelude.{◌≡◌, ◌≢◌, ℕ, ◌+◌, ◌≤◌, ◌⊎◌, List, [], ◌++◌, length, take, Option, Some, None, Result, Ok, Err, Vec}
use Rattle.std.specs.declared.alloc.Global.{Global}
use Rattle.py_flat.specs.Bytes.{left_at}
use Rattle.py_flat.specs.Causes.{Rose, counted}
use Rattle.py_raw.specs.declared.raw_error.RawError.{RawError}
use Rattle.py_raw.specs.declared.raw_error.RawError.TheVariants.{Fault, Memory}
use Rattle.py_raw.specs.RawStream.{Raw, Keeps, WhereTold, WherePlace, WhereTransfers, KeepsBytes, Transfers, NoFault, NoWait, WaitsOnce, LeavesCounts, AnswersFor, ReadsBring, ReadsInAll, AsksToWait, FailsWithout}

-- told: a part is the next bytes of the stream
abbrev pub IsNext : Raw → List ℕ → Type 0
IsNext old part = take (length part) (left_at old.bytes old.place) ≡ part

-- a part was read: told, it is the next bytes; they stay, and the place moved past it
pub record ReadOn (old : Raw) (part : List ℕ) (new : Raw) : Type 0 where
  pub given : WhereTold old (IsNext old part)
  pub bytes : KeepsBytes old new
  pub place : WherePlace old (new.place ≡ old.place + length part)

-- `read`

-- one transfer gave these bytes, at most as many as were asked for; told: none of some only at the end
pub record ReadsOnce (old : Raw) (size : ℕ) (bytes : List ℕ) (new : Raw) : Type 0 where
  pub fits : length bytes ≤ size
  pub counts : LeavesCounts old new
  pub written : AnswersFor 0 old new
  pub reads : ReadsBring (length bytes) old new
  pub on : ReadOn old bytes new
  pub end : WhereTold old (length bytes ≡ 0 → size ≢ 0 → length old.bytes ≤ old.place)
  pub transfers : Transfers 1 old new

-- running out of memory, of the stream or for the vector, leaves the stream as it was
abbrev pub ReadOnceOutcome : Raw → ℕ → Result (Option (Vec ℕ Global)) RawError → Raw → Type 0
ReadOnceOutcome old size (Ok (Some bytes)) new = ReadsOnce old size bytes.items new
ReadOnceOutcome old size (Ok None) new = AsksToWait old new
ReadOnceOutcome old size (Err Fault) new = FailsWithout 1 old new
ReadOnceOutcome old size (Err Memory) new = new ≡ old

-- `readall`; `before` and `after` are what the vector holds

-- how a count of transfers rose: by one at least, and by no more than this
pub record CameBy (most old new : ℕ) : Type 0 where
  pub calls : ℕ
  pub some : 1 ≤ calls
  pub within : calls ≤ most
  pub count : new ≡ counted old calls

-- a part was read and appended, by no more transfers than it has bytes; without a byte all is as it was
pub record ReadSoFar (old : Raw) (before after : List ℕ) (new : Raw) : Type 0 where
  pub part : List ℕ
  pub appended : after ≡ before ++ part
  pub untouched : part ≡ [] → new ≡ old
  pub counts : LeavesCounts old new
  pub written : AnswersFor 0 old new
  pub reads : ReadsInAll (length part) 0 old new
  pub on : ReadOn old part new
  pub transfers : WhereTransfers old (part ≢ [] → CameBy (length part) old.transfers new.transfers)

-- why a reading up to the end stops: the end was reached, or the stream would have blocked after some bytes, once
abbrev pub Stops : Raw → ℕ → Raw → Type 0
Stops old count new = (NoWait old new × WhereTold old (length old.bytes ≤ new.place)) ⊎ ((1 ≤ count) × Rose old.waits new.waits × WaitsOnce old new)

-- n bytes were read and appended; one transfer more found that no more come, and no other brought none
pub record ReadsAll (old : Raw) (before : List ℕ) (count : ℕ) (after : List ℕ) (new : Raw) : Type 0 where
  pub part : List ℕ
  pub appended : after ≡ before ++ part
  pub counts : count ≡ length part
  pub no_fault : NoFault old new
  pub written : AnswersFor 0 old new
  pub reads : ReadsInAll (length part) 1 old new
  pub on : ReadOn old part new
  pub stops : Stops old count new
  pub transfers : WhereTransfers old (CameBy (count + 1) old.transfers new.transfers)

-- a part was read and appended, and the transfer after that failed; `between` is what the stream showed before it
pub record FailsReadingAll (old : Raw) (before after : List ℕ) (new : Raw) : Type 0 where
  pub between : Raw
  pub keeps : Keeps old between
  pub so_far : ReadSoFar old before after between
  pub fails : FailsWithout 1 between new

abbrev pub ReadAllOutcome : Raw → List ℕ → Result (Option ℕ) RawError → List ℕ → Raw → Type 0
ReadAllOutcome old before (Ok (Some count)) after new = ReadsAll old before count after new
ReadAllOutcome old before (Ok None) after new = AsksToWait old new × (after ≡ before)
ReadAllOutcome old before (Err Fault) after new = FailsReadingAll old before after new
ReadAllOutcome old before (Err Memory) after new = ReadSoFar old before after new
