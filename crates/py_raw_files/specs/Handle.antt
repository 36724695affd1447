-- What of the system a raw stream stands on, and what the system's answers come to.
use Rattle.std.specs.Prelude.{is_none, IfSome, ◌≡◌, ℕ, ◌<◌, ◌≤◌, length, Bool, true, false, not, ◌&&◌, nat_eq, List, take, Option, Some, None, Result, Ok, Err, if◌then◌else◌}
use Rattle.std.specs.Io.KnownBytes.{Consumes, Appends, Keeps, IsAtEnd}
use Rattle.std.specs.declared.io.ErrorKind.{ErrorKind}
use Rattle.std.specs.declared.io.ErrorKind.TheVariants.{WouldBlock, Interrupted}
use Rattle.std.specs.declared.io.Error.{Error}
use Rattle.std.specs.IoError.{error_kind}
use Rattle.py_flat.specs.Causes.{counted}
use Rattle.py_raw.specs.declared.raw_error.RawError.{RawError}
use Rattle.py_raw.specs.declared.raw_error.RawError.TheVariants.{Fault}
use Rattle.py_raw.specs.Reads.{after_read as one_read}
use Rattle.py_raw.specs.RawStream.{Raw, untold}
use Rattle.py_raw_files.specs.declared.handle.Handle.{Handle}

-- what a handle shows: what it can do, and its counts, of transfers, of bytes written and of what its reads brought too; no
-- content, and no memory taken
abbrev pub shown_handle : {T : Type 0} → Handle T → Raw
shown_handle handle = record (untold handle.counts.faults handle.counts.waits (is_none handle.inner) handle.readable handle.writable handle.seekable) {
  tells_transfers = true;
  transfers = handle.counts.transfers;
  written = handle.counts.written;
  reads = handle.counts.reads;
}

-- a stream over a handle at its opening: nothing is counted
abbrev pub opened : (readable writable seekable : Bool) → Raw
opened readable writable seekable = record (untold 0 0 false readable writable seekable) { tells_transfers = true }

-- which errors of a transfer say that the call is to be made again later
abbrev pub asks_to_wait : ErrorKind → Bool
asks_to_wait WouldBlock = true
asks_to_wait Interrupted = true
asks_to_wait _ = false

-- what the system's answer to a transfer comes to
abbrev pub transfer_reply : Result ℕ Error → Result (Option ℕ) RawError
transfer_reply (Ok count) = Ok (Some count)
transfer_reply (Err error) = if asks_to_wait (error_kind error) then Ok None else Err Fault

-- what the system's answer to a call that is no transfer comes to; none is an answer that can't be true
abbrev pub call_reply : {A : Type 0} → Result (Option A) Error → Result A RawError
call_reply (Ok (Some value)) = Ok value
call_reply (Ok None) = Err Fault
call_reply (Err error) = Err Fault

-- What a call leaves the stream at. It counts exactly what it answers: a fault for each fault, a wait for each wait, a transfer
-- for each transfer, and nothing else.

-- a fault more, and nothing else
abbrev pub one_fault : Raw → Raw
one_fault raw = record raw { faults = counted raw.faults 1 }

-- a wait more, and nothing else
abbrev pub one_wait : Raw → Raw
one_wait raw = record raw { waits = counted raw.waits 1 }

-- a transfer more, and nothing else
abbrev pub one_transfer : Raw → Raw
one_transfer raw = record raw { transfers = counted raw.transfers 1 }

-- a stream after a call that is no transfer
abbrev pub after_call : {A : Type 0} → Raw → Result A RawError → Raw
after_call raw (Ok answer) = raw
after_call raw (Err error) = one_fault raw

-- a stream after a transfer, but for the bytes that it moved
abbrev pub after_transfer : Raw → Result (Option ℕ) RawError → Raw
after_transfer raw (Ok (Some count)) = one_transfer raw
after_transfer raw (Ok None) = one_wait (one_transfer raw)
after_transfer raw (Err error) = one_fault (one_transfer raw)

-- a stream after a read: it tells what that brought
abbrev pub after_read : Raw → Result (Option ℕ) RawError → Raw
after_read raw (Ok (Some count)) = record (one_transfer raw) { reads = one_read raw.reads count }
after_read raw reply = after_transfer raw reply

-- a stream after a write of a piece of a size: it answers for the bytes that it took; to take none of some is a fault
-- too
abbrev pub after_write : Raw → ℕ → Result (Option ℕ) RawError → Raw
after_write raw size (Ok (Some count)) = if nat_eq count 0 && not (nat_eq size 0) then one_fault (one_transfer raw) else record (one_transfer raw) { written = counted raw.written count }
after_write raw size (Ok None) = one_wait (one_transfer raw)
after_write raw size (Err error) = one_fault (one_transfer raw)

-- a stream that is closed, and as it was in all else
abbrev pub shut : Raw → Raw
shut raw = record raw { closed = true }

-- what holds of the inner one before and after a call of a stream that is open
abbrev pub ForInner : {T : Type 0} → Option T → Option T → (T → T → Type 0) → Type 0
ForInner old new P = IfSome old (λ stood. IfSome new (λ stands. P stood stands))

-- a read takes what it gave from what is known to be left, none only at the end, and nothing without an answer
abbrev pub TakesFrom : Option (List ℕ) → Option (List ℕ) → Result (Option ℕ) RawError → List ℕ → Type 0
TakesFrom old new (Ok (Some count)) buffer = Consumes old new (take count buffer) × (count ≡ 0 → 0 < length buffer → IsAtEnd new)
TakesFrom old new (Ok None) buffer = Keeps old new
TakesFrom old new (Err error) buffer = Keeps old new

-- a write puts what it took after what is known to be held, and nothing without an answer
abbrev pub PutsIn : Option (List ℕ) → Option (List ℕ) → Result (Option ℕ) RawError → List ℕ → Type 0
PutsIn old new (Ok (Some count)) piece = Appends old new (take count piece)
PutsIn old new (Ok None) piece = Keeps old new
PutsIn old new (Err error) piece = Keeps old new

-- a front of a piece was put after what is known to be held
pub record PutsFront (old new : Option (List ℕ)) (piece : List ℕ) : Type 0 where
  pub count : ℕ
  pub within : count ≤ length piece
  pub held : Appends old new (take count piece)

-- a write that would block puts nothing, and one that failed a front of the piece
abbrev pub StopsThrough : Bool → Option (List ℕ) → Option (List ℕ) → List ℕ → Type 0
StopsThrough true old new piece = Keeps old new
StopsThrough false old new piece = PutsFront old new piece

-- a write that was passed on puts what it took
abbrev pub PassesThrough : Option (List ℕ) → Option (List ℕ) → Result ℕ Error → List ℕ → Type 0
PassesThrough old new (Ok count) piece = Appends old new (take count piece)
PassesThrough old new (Err error) piece = StopsThrough (asks_to_wait (error_kind error)) old new piece

-- what a write that was passed on puts, by the answer that it comes to
abbrev pub PutsThrough : Option (List ℕ) → Option (List ℕ) → Result (Option ℕ) RawError → List ℕ → Type 0
PutsThrough old new (Ok (Some count)) piece = Appends old new (take count piece)
PutsThrough old new (Ok None) piece = Keeps old new
PutsThrough old new (Err error) piece = PutsFront old new piece
