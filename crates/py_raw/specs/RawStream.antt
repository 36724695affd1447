-- What a raw stream shows, and what each of its calls may do.
use Rattle.std.specs.Prelude.{◌≡◌, ◌≢◌, ℕ, ◌+◌, ◌≤◌, ◌⊎◌, Bool, true, false, ◌&&◌, IsTrue, List, [], length, take, Option, Some, None, Result, Ok, Err}
use Rattle.py_flat.specs.Limits.{greatest_place}
use Rattle.py_flat.specs.Bytes.{left_at, lay, resized}
use Rattle.py_flat.specs.Causes.{Rose, counted}
use Rattle.py_raw.specs.declared.raw_error.RawError.{RawError}
use Rattle.py_raw.specs.declared.raw_error.RawError.TheVariants.{Fault, Memory}
use Rattle.py_raw.specs.declared.reads.Reads.{Reads}
use Rattle.py_raw.specs.Reads.{no_reads, after_read, BringInAll}

-- what a raw stream shows. It may tell three things: its bytes, its place, and its number of transfers, with the number of bytes
-- that its writes answered for and with what its reads brought; each means something only where it tells it. It counts exactly
-- where its counts of faults and of waits rise in the calls alone that answer a fault, or would block
pub record Raw : Type 0 where
  pub tells_bytes : Bool
  pub tells_place : Bool
  pub tells_transfers : Bool
  pub bytes : List ℕ
  pub place : ℕ
  pub transfers : ℕ
  pub written : ℕ
  pub reads : Reads
  pub faults : ℕ
  pub waits : ℕ
  pub closed : Bool
  pub readable : Bool
  pub writable : Bool
  pub seekable : Bool
  pub takes_memory : Bool
  pub counts_exactly : Bool

-- whether a stream tells its bytes and its place: both together say what a reading gives
abbrev pub tells : Raw → Bool
tells raw = raw.tells_bytes && raw.tells_place

-- what a stream shows that tells nothing and takes no memory: its counts of faults and of waits, which are exact, whether it is
-- closed, and what it can do
abbrev pub untold : (faults waits : ℕ) → (closed readable writable seekable : Bool) → Raw
untold faults waits closed readable writable seekable = record {
  tells_bytes = false;
  tells_place = false;
  tells_transfers = false;
  bytes = [];
  place = 0;
  transfers = 0;
  written = 0;
  reads = no_reads;
  faults = faults;
  waits = waits;
  closed = closed;
  readable = readable;
  writable = writable;
  seekable = seekable;
  takes_memory = false;
  counts_exactly = true;
}

-- what every call keeps: what the stream tells and can do never changes, and its counts of faults and of waits never fall
pub record Keeps (old new : Raw) : Type 0 where
  pub tells_bytes : new.tells_bytes ≡ old.tells_bytes
  pub tells_place : new.tells_place ≡ old.tells_place
  pub tells_transfers : new.tells_transfers ≡ old.tells_transfers
  pub readable : new.readable ≡ old.readable
  pub writable : new.writable ≡ old.writable
  pub seekable : new.seekable ≡ old.seekable
  pub takes_memory : new.takes_memory ≡ old.takes_memory
  pub counts_exactly : new.counts_exactly ≡ old.counts_exactly
  pub faults : old.faults ≤ new.faults
  pub waits : old.waits ≤ new.waits

-- only `close` closes a stream
abbrev pub StaysOpen : Raw → Raw → Type 0
StaysOpen old new = new.closed ≡ old.closed

-- What outcomes are made of.

-- where the stream counts exactly: no fault was counted
abbrev pub NoFault : Raw → Raw → Type 0
NoFault old new = IsTrue old.counts_exactly → new.faults ≡ old.faults

-- where the stream counts exactly: no wait was counted
abbrev pub NoWait : Raw → Raw → Type 0
NoWait old new = IsTrue old.counts_exactly → new.waits ≡ old.waits

-- where the stream counts exactly: one wait was counted
abbrev pub WaitsOnce : Raw → Raw → Type 0
WaitsOnce old new = IsTrue old.counts_exactly → new.waits ≡ counted old.waits 1

-- where the stream counts exactly: no fault was counted, and no wait
pub record LeavesCounts (old new : Raw) : Type 0 where
  pub no_fault : NoFault old new
  pub no_wait : NoWait old new

-- where the stream tells its bytes and its place
abbrev pub WhereTold : Raw → Type 0 → Type 0
WhereTold raw Fact = IsTrue (tells raw) → Fact

-- where the stream tells its bytes
abbrev pub WhereBytes : Raw → Type 0 → Type 0
WhereBytes raw Fact = IsTrue raw.tells_bytes → Fact

-- where the stream tells its place
abbrev pub WherePlace : Raw → Type 0 → Type 0
WherePlace raw Fact = IsTrue raw.tells_place → Fact

-- where the stream tells its transfers
abbrev pub WhereTransfers : Raw → Type 0 → Type 0
WhereTransfers raw Fact = IsTrue raw.tells_transfers → Fact

-- where the stream tells its bytes, they are as they were
abbrev pub KeepsBytes : Raw → Raw → Type 0
KeepsBytes old new = WhereBytes old (new.bytes ≡ old.bytes)

-- where the stream tells its place, that is as it was
abbrev pub KeepsPlace : Raw → Raw → Type 0
KeepsPlace old new = WherePlace old (new.place ≡ old.place)

-- where the stream tells its transfers, n more were made
abbrev pub Transfers : ℕ → Raw → Raw → Type 0
Transfers more old new = WhereTransfers old (new.transfers ≡ counted old.transfers more)

-- where the stream tells its transfers, none was made
abbrev pub KeepsTransfers : Raw → Raw → Type 0
KeepsTransfers old new = WhereTransfers old (new.transfers ≡ old.transfers)

-- where the stream tells its transfers, at most n more were made
abbrev pub TransfersAtMost : ℕ → Raw → Raw → Type 0
TransfersAtMost most old new = WhereTransfers old ((old.transfers ≤ new.transfers) × (new.transfers ≤ counted old.transfers most))

-- where the stream tells its transfers, its writes answered for n bytes more, as far as a count can tell
abbrev pub AnswersFor : ℕ → Raw → Raw → Type 0
AnswersFor more old new = WhereTransfers old (counted new.written 0 ≡ counted old.written more)

-- where the stream tells its transfers, one read more brought n bytes
abbrev pub ReadsBring : ℕ → Raw → Raw → Type 0
ReadsBring count old new = WhereTransfers old (new.reads ≡ after_read old.reads count)

-- where the stream tells its transfers, no read more brought anything
abbrev pub KeepsReads : Raw → Raw → Type 0
KeepsReads old new = WhereTransfers old (new.reads ≡ old.reads)

-- where the stream tells its transfers, n bytes came by its reads, at most so many of which brought none
abbrev pub ReadsInAll : (total empties : ℕ) → Raw → Raw → Type 0
ReadsInAll total empties old new = WhereTransfers old (BringInAll total empties old.reads new.reads)

-- the stream stands still: bytes and place are as before, after n transfers
pub record StandsStill (more : ℕ) (old new : Raw) : Type 0 where
  pub bytes : KeepsBytes old new
  pub place : KeepsPlace old new
  pub transfers : Transfers more old new

-- running out of memory leaves all as it was, and comes only of a stream that takes memory
pub record LacksMemory (old new : Raw) : Type 0 where
  pub takes : IsTrue old.takes_memory
  pub same : new ≡ old

-- not ready: the waits rose, by one alone where the stream counts exactly, and nothing moved
pub record AsksToWait (old new : Raw) : Type 0 where
  pub cause : Rose old.waits new.waits
  pub once : WaitsOnce old new
  pub no_fault : NoFault old new
  pub written : AnswersFor 0 old new
  pub reads : KeepsReads old new
  pub still : StandsStill 1 old new

-- a fault that leaves the bytes as they were; at most n transfers more are counted
pub record FailsWithout (most : ℕ) (old new : Raw) : Type 0 where
  pub cause : Rose old.faults new.faults
  pub no_wait : NoWait old new
  pub written : AnswersFor 0 old new
  pub reads : KeepsReads old new
  pub bytes : KeepsBytes old new
  pub transfers : TransfersAtMost most old new

-- `readinto`

-- told: the next `count` bytes were read; 0 into a buffer that isn't empty only at the end
pub record ReadTold (old : Raw) (before : List ℕ) (count : ℕ) (after : List ℕ) : Type 0 where
  pub left : count ≤ length (left_at old.bytes old.place)
  pub given : take count after ≡ take count (left_at old.bytes old.place)
  pub end : count ≡ 0 → before ≢ [] → length old.bytes ≤ old.place

pub record ReadBytes (old : Raw) (before : List ℕ) (count : ℕ) (after : List ℕ) (new : Raw) : Type 0 where
  pub fits : count ≤ length before
  pub counts : LeavesCounts old new
  pub written : AnswersFor 0 old new
  pub reads : ReadsBring count old new
  pub told : WhereTold old (ReadTold old before count after)
  pub bytes : KeepsBytes old new
  pub place : WherePlace old (new.place ≡ old.place + count)
  pub transfers : Transfers 1 old new

-- `before` and `after` are the buffer's bytes
abbrev pub ReadOutcome : Raw → List ℕ → Result (Option ℕ) RawError → List ℕ → Raw → Type 0
ReadOutcome old before (Ok (Some count)) after new = ReadBytes old before count after new
ReadOutcome old before (Ok None) after new = AsksToWait old new
ReadOutcome old before (Err Fault) after new = FailsWithout 1 old new
ReadOutcome old before (Err Memory) after new = LacksMemory old new × (after ≡ before)

-- `write`

-- the end of a write that a stream can place
abbrev pub WriteFits : Raw → List ℕ → Type 0
WriteFits raw piece = WherePlace raw (raw.place + length piece ≤ greatest_place)

-- told: the first `count` bytes of the piece were laid on at the place
abbrev pub LaysFront : Raw → List ℕ → ℕ → Raw → Type 0
LaysFront old piece count new = new.bytes ≡ lay old.bytes old.place (take count piece)

-- nothing taken of a piece that isn't empty is a fault
pub record WritesBytes (old : Raw) (piece : List ℕ) (count : ℕ) (new : Raw) : Type 0 where
  pub fits : count ≤ length piece
  pub none : count ≡ 0 → piece ≢ [] → Rose old.faults new.faults
  pub no_fault : (count ≡ 0 → piece ≡ []) → NoFault old new
  pub no_wait : NoWait old new
  pub written : AnswersFor count old new
  pub reads : KeepsReads old new
  pub told : WhereTold old (LaysFront old piece count new)
  pub place : WherePlace old (new.place ≡ old.place + count)
  pub transfers : Transfers 1 old new

-- a fault of a write may have laid on a front of the piece, but answers for none of it
pub record FailsWriting (old : Raw) (piece : List ℕ) (new : Raw) : Type 0 where
  pub cause : Rose old.faults new.faults
  pub no_wait : NoWait old new
  pub written : AnswersFor 0 old new
  pub reads : KeepsReads old new
  pub told : WhereTold old ((count : ℕ) × (count ≤ length piece) × LaysFront old piece count new)
  pub transfers : TransfersAtMost 1 old new

abbrev pub WriteOutcome : Raw → List ℕ → Result (Option ℕ) RawError → Raw → Type 0
WriteOutcome old piece (Ok (Some count)) new = WritesBytes old piece count new
WriteOutcome old piece (Ok None) new = AsksToWait old new
WriteOutcome old piece (Err Fault) new = FailsWriting old piece new
WriteOutcome old piece (Err Memory) new = LacksMemory old new

-- `seek`, `tell`, `end`

-- a seek leaves the stream at the place that was asked for, with its bytes, and by no transfer
pub record Seeks (old : Raw) (place : ℕ) (new : Raw) : Type 0 where
  pub counts : LeavesCounts old new
  pub written : AnswersFor 0 old new
  pub reads : KeepsReads old new
  pub bytes : KeepsBytes old new
  pub place_is : WherePlace old (new.place ≡ place)
  pub transfers : KeepsTransfers old new

abbrev pub SeekOutcome : Raw → ℕ → Result (Unit {0}) RawError → Raw → Type 0
SeekOutcome old place (Ok done) new = Seeks old place new
SeekOutcome old place (Err Fault) new = FailsWithout 0 old new
SeekOutcome old place (Err Memory) new = LacksMemory old new

-- a number that a stream answered: where it tells that, it is this one; and nothing moved
pub record Answers (tells : Bool) (old : Raw) (told answer : ℕ) (new : Raw) : Type 0 where
  pub within : answer ≤ greatest_place
  pub counts : LeavesCounts old new
  pub written : AnswersFor 0 old new
  pub reads : KeepsReads old new
  pub value : IsTrue tells → answer ≡ told
  pub still : StandsStill 0 old new

abbrev pub NumberOutcome : Bool → Raw → ℕ → Result ℕ RawError → Raw → Type 0
NumberOutcome tells old told (Ok answer) new = Answers tells old told answer new
NumberOutcome tells old told (Err Fault) new = FailsWithout 0 old new
NumberOutcome tells old told (Err Memory) new = LacksMemory old new

abbrev pub TellOutcome : Raw → Result ℕ RawError → Raw → Type 0
TellOutcome old result new = NumberOutcome old.tells_place old old.place result new

abbrev pub EndOutcome : Raw → Result ℕ RawError → Raw → Type 0
EndOutcome old result new = NumberOutcome old.tells_bytes old (length old.bytes) result new

-- `truncate`

-- a fault of a truncation leaves the bytes as they were, or with the size
pub record FailsResizing (old : Raw) (size : ℕ) (new : Raw) : Type 0 where
  pub cause : Rose old.faults new.faults
  pub no_wait : NoWait old new
  pub written : AnswersFor 0 old new
  pub reads : KeepsReads old new
  pub bytes : WhereBytes old ((new.bytes ≡ old.bytes) ⊎ (new.bytes ≡ resized old.bytes size))
  pub transfers : KeepsTransfers old new

-- the bytes have the size that was asked for, and the place is kept
pub record Truncates (old : Raw) (size : ℕ) (new : Raw) : Type 0 where
  pub counts : LeavesCounts old new
  pub written : AnswersFor 0 old new
  pub reads : KeepsReads old new
  pub bytes : WhereBytes old (new.bytes ≡ resized old.bytes size)
  pub place : WherePlace old (new.place ≡ old.place)
  pub transfers : KeepsTransfers old new

abbrev pub TruncateOutcome : Raw → ℕ → Result (Unit {0}) RawError → Raw → Type 0
TruncateOutcome old size (Ok done) new = Truncates old size new
TruncateOutcome old size (Err Fault) new = FailsResizing old size new
TruncateOutcome old size (Err Memory) new = LacksMemory old new

-- `close`

-- closed, with the bytes as they were
pub record Closes (old new : Raw) : Type 0 where
  pub closed : new.closed ≡ true
  pub no_wait : NoWait old new
  pub written : AnswersFor 0 old new
  pub reads : KeepsReads old new
  pub bytes : KeepsBytes old new
  pub transfers : KeepsTransfers old new

abbrev pub CloseOutcome : Raw → Result (Unit {0}) RawError → Raw → Type 0
CloseOutcome old (Ok done) new = Closes old new × NoFault old new
CloseOutcome old (Err Fault) new = Closes old new × Rose old.faults new.faults
CloseOutcome old (Err Memory) new = LacksMemory old new
