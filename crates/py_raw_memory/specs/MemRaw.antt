-- A raw stream in memory: what it shows, and the exact answer and outcome of each call by its plan and its listed faults.
use Rattle.std.specs.Prelude.{◌≡◌, ℕ, ◌+◌, Bool, true, not, ◌||◌, ◌==◌, min, List, ◌++◌, length, take, drop, slice_get, Option, Some, None, Result, Ok, Err, if◌then◌else◌}
use Rattle.std.specs.List.{list_any}
use Rattle.py_flat.specs.Bytes.{left_at, lay, resized}
use Rattle.py_flat.specs.Causes.{counted}
use Rattle.py_raw_memory.specs.declared.cut.Cut.{Cut}
use Rattle.py_raw_memory.specs.declared.cut.Turn.{Turn}
use Rattle.py_raw_memory.specs.declared.cut.Turn.TheVariants.{Refuses, Moves, Stalls, Waits, Breaks}
use Rattle.py_raw_memory.specs.declared.mem_raw.MemRaw.{MemRaw}
use Rattle.py_raw.specs.declared.raw_error.RawError.{RawError}
use Rattle.py_raw.specs.declared.raw_error.RawError.TheVariants.{Fault, Memory}
use Rattle.py_raw_memory.specs.Cuts.{read_by, write_by}
use Rattle.py_raw.specs.Flags.{can_read, can_write, can_seek}
use Rattle.py_raw.specs.Reads.{after_read as one_read}
use Rattle.py_raw.specs.RawStream.{Raw}

-- what a stream in memory shows: it tells everything, and takes memory where it can be written
abbrev pub shown : MemRaw → Raw
shown raw = record {
  tells_bytes = true;
  tells_place = true;
  tells_transfers = true;
  bytes = raw.bytes.items;
  place = raw.place;
  transfers = raw.transfers;
  written = raw.written;
  reads = raw.reads;
  faults = raw.faults;
  waits = raw.waits;
  closed = raw.closed;
  readable = can_read raw.flags;
  writable = can_write raw.flags;
  seekable = can_seek raw.flags;
  takes_memory = can_write raw.flags;
  counts_exactly = true;
}

-- what a stream in memory shows, and what its further calls follow: its plan, the numbers of the calls that fail, and
-- the number of the next
pub record MemRawView : Type 0 where
  pub shows : Raw
  pub plan : List Cut
  pub refused : List ℕ
  pub calls : ℕ

-- a stream in memory, as its view
abbrev pub view_of : MemRaw → MemRawView
view_of raw = record { shows = shown raw; plan = raw.plan.items; refused = raw.refused.items; calls = raw.calls }

-- whether the next call is listed as one that fails
abbrev pub is_refused : MemRawView → Bool
is_refused raw = list_any (λ call. call == raw.calls) raw.refused

-- whether the next call fails outright: it is listed, or the stream can't do what it asks
abbrev pub refuses : Bool → MemRawView → Bool
refuses can raw = not can || is_refused raw

-- the element of the plan that the next transfer uses: each that isn't listed uses one, and they are counted
abbrev pub next_cut : MemRawView → Option Cut
next_cut raw = slice_get raw.plan raw.shows.transfers

-- The state after a call.

-- a stream after a call, which is counted whatever it came to
abbrev pub called : MemRawView → Raw → MemRawView
called raw after = record raw { shows = after; calls = counted raw.calls 1 }

-- a stream after a call that was listed to fail: a fault, and nothing else
abbrev pub refused_once : MemRawView → MemRawView
refused_once raw = called raw (record raw.shows { faults = counted raw.shows.faults 1 })

-- a stream after a transfer that failed or took nothing
abbrev pub broken : MemRawView → MemRawView
broken raw = called raw (record raw.shows { transfers = counted raw.shows.transfers 1; faults = counted raw.shows.faults 1 })

-- a stream after a transfer that would have blocked
abbrev pub waited : MemRawView → MemRawView
waited raw = called raw (record raw.shows { transfers = counted raw.shows.transfers 1; waits = counted raw.shows.waits 1 })

-- a stream after a transfer that moved the place
abbrev pub advanced : MemRawView → ℕ → MemRawView
advanced raw count = called raw (record raw.shows { transfers = counted raw.shows.transfers 1; place = raw.shows.place + count })

-- a stream after a read that brought n bytes: the place moved after them
abbrev pub moved : MemRawView → ℕ → MemRawView
moved raw count = called raw (record raw.shows { transfers = counted raw.shows.transfers 1; reads = one_read raw.shows.reads count; place = raw.shows.place + count })

-- a stream after a write that answered for n bytes: the place moved after them
abbrev pub wrote : MemRawView → ℕ → MemRawView
wrote raw count = called raw (record raw.shows { transfers = counted raw.shows.transfers 1; place = raw.shows.place + count; written = counted raw.shows.written count })

-- a stream with a piece laid on at its place
abbrev pub laid : MemRawView → List ℕ → MemRawView
laid raw piece = record raw { shows = record raw.shows { bytes = lay raw.shows.bytes raw.shows.place piece } }

-- a stream with its bytes cut or lengthened to a size
abbrev pub cut_to : MemRawView → ℕ → MemRawView
cut_to raw size = record raw { shows = record raw.shows { bytes = resized raw.shows.bytes size } }

-- what a turn answers: none of a piece is answered with 0, and counts as a fault
abbrev pub reply_of : Turn → Result (Option ℕ) RawError
reply_of Refuses = Err Fault
reply_of (Moves count) = Ok (Some count)
reply_of Stalls = Ok (Some 0)
reply_of Waits = Ok None
reply_of (Breaks count) = Err Fault

-- `readinto`

-- how many bytes a read into a buffer of a size could move
abbrev pub readable_count : MemRawView → ℕ → ℕ
readable_count raw size = min size (length (left_at raw.shows.bytes raw.shows.place))

-- what the next call makes of a read of n bytes, which are there
abbrev pub read_turn : MemRawView → ℕ → Turn
read_turn raw asked = if refuses raw.shows.readable raw then Refuses else read_by (next_cut raw) asked

-- the state after a read by a turn; a read never stalls
abbrev pub after_read : MemRawView → Turn → MemRawView
after_read raw Refuses = refused_once raw
after_read raw (Moves count) = moved raw count
after_read raw Stalls = broken raw
after_read raw Waits = waited raw
after_read raw (Breaks count) = broken raw

-- a buffer after a read: what was read is in its front
abbrev pub buffer_after : MemRawView → List ℕ → Turn → List ℕ
buffer_after raw before Refuses = before
buffer_after raw before (Moves count) = take count (left_at raw.shows.bytes raw.shows.place) ++ drop count before
buffer_after raw before Stalls = before
buffer_after raw before Waits = before
buffer_after raw before (Breaks count) = before

-- `write`

-- what the next call makes of a write of n bytes
abbrev pub write_turn : MemRawView → ℕ → Turn
write_turn raw asked = if refuses raw.shows.writable raw then Refuses else write_by (next_cut raw) asked

-- the state after a write by a turn; one that breaks off leaves the place
abbrev pub after_write : MemRawView → List ℕ → Turn → MemRawView
after_write raw piece Refuses = refused_once raw
after_write raw piece (Moves count) = wrote (laid raw (take count piece)) count
after_write raw piece Stalls = broken raw
after_write raw piece Waits = waited raw
after_write raw piece (Breaks count) = broken (laid raw (take count piece))

-- What each call answers, and the state after it.

-- a read: the buffer holds what was read in its front
pub record ReadsBy (turn : Turn) (old : MemRawView) (before : List ℕ) (result : Result (Option ℕ) RawError) (after : List ℕ) (new : MemRawView) : Type 0 where
  pub answer : result ≡ reply_of turn
  pub buffer : after ≡ buffer_after old before turn
  pub state : new ≡ after_read old turn

-- a read by its turn
abbrev pub ReadPlanned : MemRawView → List ℕ → Result (Option ℕ) RawError → List ℕ → MemRawView → Type 0
ReadPlanned old before result after new = ReadsBy (read_turn old (readable_count old (length before))) old before result after new

-- a result with the state after it
pub record Gives {A : Type 0} (expected : Result A RawError) (after : MemRawView) (result : Result A RawError) (new : MemRawView) : Type 0 where
  pub answer : result ≡ expected
  pub state : new ≡ after

-- running out of memory leaves all as it was; else it is the planned result
abbrev pub GivesOrLacks : {A : Type 0} → MemRawView → Result A RawError → MemRawView → Result A RawError → MemRawView → Type 0
GivesOrLacks old expected after (Err Memory) new = new ≡ old
GivesOrLacks old expected after (Err Fault) new = Gives expected after (Err Fault) new
GivesOrLacks old expected after (Ok answer) new = Gives expected after (Ok answer) new

-- a write by its turn, or running out of memory
abbrev pub WritePlanned : MemRawView → List ℕ → Result (Option ℕ) RawError → MemRawView → Type 0
WritePlanned old piece result new =
    let turn = write_turn old (length piece) in
    GivesOrLacks old (reply_of turn) (after_write old piece turn) result new

-- the answer of a call that is no transfer, of a stream that can or can't do it
abbrev pub answer_or_fault : {A : Type 0} → Bool → MemRawView → A → Result A RawError
answer_or_fault can raw answer = if refuses can raw then Err Fault else Ok answer

-- a stream after a call: it shows this, unless the call failed outright
abbrev pub after_call : Bool → MemRawView → Raw → MemRawView
after_call can raw after = if refuses can raw then refused_once raw else called raw after

-- a call that gives an answer and shows this after it, unless it failed outright
abbrev pub CallPlanned : {A : Type 0} → Bool → MemRawView → A → Raw → Result A RawError → MemRawView → Type 0
CallPlanned can old answer after result new = Gives (answer_or_fault can old answer) (after_call can old after) result new

-- a truncation, or running out of memory; one that failed outright leaves the bytes
abbrev pub TruncatePlanned : MemRawView → ℕ → Result (Unit {0}) RawError → MemRawView → Type 0
TruncatePlanned old size result new = GivesOrLacks old (answer_or_fault old.shows.writable old tt) (after_call old.shows.writable old (cut_to old size).shows) result new

-- a stream, closed
abbrev pub shut : MemRawView → MemRawView
shut raw = record raw { shows = record raw.shows { closed = true } }

-- a closing, which closes the stream also where the call is listed to fail
abbrev pub ClosePlanned : MemRawView → Result (Unit {0}) RawError → MemRawView → Type 0
ClosePlanned old result new = Gives (answer_or_fault true old tt) (after_call true (shut old) (shut old).shows) result new
