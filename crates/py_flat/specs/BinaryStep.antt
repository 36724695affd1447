-- What may come of a call of a binary stream over any raw: the allowed step on flat files.
use Rattle.std.specs.Prelude.{◌≡◌, ◌≢◌, ℕ, ◌<◌, ◌≤◌, ◌⊎◌, Bool, true, false, ◌&&◌, ◌||◌, not, IsTrue, pos, zero, suc, List, [], ◌++◌, length, take, drop, Option, Some, None, is_none}
use Rattle.py_flat.specs.declared.fault.IoFault.{IoFault}
use Rattle.py_flat.specs.declared.fault.IoFault.TheVariants as fault
use Rattle.py_flat.specs.declared.life.Life.{Life}
use Rattle.py_flat.specs.declared.life.Life.TheVariants as life
use Rattle.py_flat.specs.Bytes.{lay, resized, first_of}
use Rattle.py_flat.specs.Lines.{Lf, first_line, lines_of, lines_within, joined}
use Rattle.py_flat.specs.Calls.{FileCall, Read, Read1, ReadLine, ReadLines, Peek, ReadInto, ReadInto1, Write, WriteLines, Seek, Tell, Truncate, Flush, Close, Detach, FileReply, Bytes, Lines, Count, NotReady, Unwritten, Refused}
use Rattle.py_flat.specs.FlatFile.{FlatFile, Buffering, Unbuffered, InMemory}
use Rattle.py_flat.specs.Refusals.{refusal, is_getter, lacks}
use Rattle.py_flat.specs.ExactStep.{rest, after_read, after_write, in_life, buffer_full, one_transfer, carried_out}
use Rattle.py_flat.specs.AllowedStep.{AllowedStep}

-- some bytes are the first of others
abbrev pub IsFrontOf : List ℕ → List ℕ → Type 0
IsFrontOf part whole = (more : List ℕ) × (part ++ more ≡ whole)

-- Single transfers.

-- what an unbuffered stream moves in one transfer, of some bytes
abbrev pub if_unbuffered : Buffering → List ℕ → Option (List ℕ)
if_unbuffered Unbuffered bytes = Some bytes
if_unbuffered _ bytes = None

-- what a stream over a raw moves in one transfer; one in memory gives all at once
abbrev pub if_over_raw : Buffering → List ℕ → Option (List ℕ)
if_over_raw InMemory bytes = None
if_over_raw _ bytes = Some bytes

-- what a call that makes one transfer asks for: a `read1`, `readinto1` or `peek`; of an unbuffered stream a read of
-- a size, a `readinto` or a write. Its `writelines` goes on until all is taken
abbrev pub asked : FlatFile → FileCall → Option (List ℕ)
asked file (Read1 size) = if_over_raw file.buffering (one_transfer file.buffering size (rest file))
asked file (ReadInto1 size) = if_over_raw file.buffering (first_of (Some size) (rest file))
asked file Peek = Some (buffer_full file.buffering (rest file))
asked file (Read (Some size)) = if_unbuffered file.buffering (first_of (Some size) (rest file))
asked file (ReadInto size) = if_unbuffered file.buffering (first_of (Some size) (rest file))
asked file (Write bytes) = if_unbuffered file.buffering bytes
asked file _ = None

-- what one transfer of these bytes answers and leaves
abbrev pub transferred : FlatFile → FileCall → List ℕ → FileReply × FlatFile
transferred file (Write bytes) part = (Count (length part), after_write file part)
transferred file Peek part = (Bytes part, file)
transferred file _ part = (Bytes part, after_read file (length part))

-- one transfer moves some first part of what was asked: nothing only where nothing is asked or left
pub record Transfers (file : FlatFile) (call : FileCall) (wanted : List ℕ) (reply : FileReply) (after : FlatFile) : Type 0 where
  pub part : List ℕ
  pub front : IsFrontOf part wanted
  pub some : part ≡ [] → wanted ≡ []
  pub outcome : (reply, after) ≡ transferred file call part

-- Detaching a failed stream.

abbrev pub is_live : Life → Bool
is_live life.Live = true
is_live _ = false

-- where a failed stream that can be moved says that its unwritten bytes belong
abbrev pub StandAt : List ℕ → Bool → Option ℕ → List ℕ → Type 0
StandAt bytes true None whole = ⊥
StandAt bytes true (Some place) whole = take (length bytes) (drop place whole) ≡ bytes
StandAt bytes false None whole = (place : ℕ) × (take (length bytes) (drop place whole) ≡ bytes)
StandAt bytes false (Some place) whole = ⊥

-- the `detach` of a failed file gives bytes that stand in it at the place given, or at some place where the raw can't seek
pub record HandsBack (file : FlatFile) (reply : FileReply) (after : FlatFile) : Type 0 where
  pub bytes : List ℕ
  pub place : Option ℕ
  pub says : reply ≡ Unwritten bytes place
  pub stand : StandAt bytes file.can.seekable place file.bytes
  pub leaves : after ≡ in_life file life.Detached

-- Settled calls.

-- a call that isn't refused is carried out exactly, but for single transfers and the `detach` of a file that isn't live
abbrev pub CarriedOut : FlatFile → FileCall → Option (List ℕ) → FileReply → FlatFile → Type 0
CarriedOut file call (Some wanted) reply after = Transfers file call wanted reply after
CarriedOut file call None reply after = (reply, after) ≡ carried_out file call

-- a `detach` that is let through is of a live file, or of a failed one
abbrev pub DetachesIn : Life → FlatFile → FileReply → FlatFile → Type 0
DetachesIn life.Failed file reply after = HandsBack file reply after
DetachesIn _ file reply after = (reply, after) ≡ carried_out file Detach

abbrev pub Accepted : FlatFile → FileCall → FileReply → FlatFile → Type 0
Accepted file Detach reply after = DetachesIn file.life file reply after
Accepted file call reply after = CarriedOut file call (asked file call) reply after

abbrev pub SettledBy : FlatFile → FileCall → Option IoFault → FileReply → FlatFile → Type 0
SettledBy file call (Some fault) reply after = (reply ≡ Refused fault) × (after ≡ file)
SettledBy file call None reply after = Accepted file call reply after

-- the call is refused as it has to be, or carried out
abbrev pub Settled : FlatFile → FileCall → FileReply → FlatFile → Type 0
Settled file call reply after = SettledBy file call (refusal file call) reply after

-- Calls that may go to the raw.

abbrev pub is_tell : FileCall → Bool
is_tell Tell = true
is_tell _ = false

-- whether the call does work that may go to the raw: it is live, accepted, and not one that only tells
abbrev pub does_work : FlatFile → FileCall → Bool
does_work file call = is_live file.life && is_none (refusal file call) && not (is_getter call || is_tell call)

abbrev pub asks_end : FlatFile → FileCall → Bool
asks_end file (Seek offset (pos (suc (suc zero)))) = is_live file.life && not (lacks file (Seek offset (pos (suc (suc zero)))))
asks_end file _ = false

-- whether the call may go to the raw: it does work, or is a seek from the end, of which the raw is asked before the target is tried
abbrev pub reaches_raw : FlatFile → FileCall → Bool
reaches_raw file call = does_work file call || asks_end file call

-- Waits.

-- what a waiting read gives: a first part, not empty, of the exact bytes, and the place moves by it
pub record GivesPart (file : FlatFile) (wanted part : List ℕ) (after : FlatFile) : Type 0 where
  pub front : IsFrontOf part wanted
  pub some : part ≢ []
  pub leaves : after ≡ after_read file (length part)

abbrev pub NotReadyYet : FlatFile → FileReply → FlatFile → Type 0
NotReadyYet file reply after = (reply ≡ NotReady) × (after ≡ file)

-- a short answer, or none
abbrev pub ReadsPart : FlatFile → List ℕ → FileReply → FlatFile → Type 0
ReadsPart file wanted reply after = NotReadyYet file reply after ⊎ ((part : List ℕ) × (reply ≡ Bytes part) × GivesPart file wanted part after)

-- a short answer of lines, of which the last may lack its end, or none
abbrev pub ReadsLinesPart : FlatFile → List ℕ → FileReply → FlatFile → Type 0
ReadsLinesPart file wanted reply after = NotReadyYet file reply after ⊎ ((part : List ℕ) × (reply ≡ Lines (lines_of part)) × GivesPart file wanted part after)

-- a write that could not take all: the bytes that were taken are laid on
pub record TakesPart (file : FlatFile) (bytes : List ℕ) (reply : FileReply) (after : FlatFile) : Type 0 where
  pub taken : ℕ
  pub less : taken < length bytes
  pub says : reply ≡ Refused (fault.WouldBlock taken)
  pub leaves : after ≡ after_write file (take taken bytes)

-- a call that has to come again, with all as before
abbrev pub HasToWait : FlatFile → FileReply → FlatFile → Type 0
HasToWait file reply after = (reply ≡ Refused (fault.WouldBlock 0)) × (after ≡ file)

abbrev pub WritesPart : FlatFile → Buffering → List ℕ → FileReply → FlatFile → Type 0
WritesPart file Unbuffered bytes reply after = NotReadyYet file reply after
WritesPart file _ bytes reply after = TakesPart file bytes reply after

-- what may come of each call where the raw would have blocked
abbrev pub WaitedBy : FlatFile → FileCall → FileReply → FlatFile → Type 0
WaitedBy file (Read size) reply after = ReadsPart file (first_of size (rest file)) reply after
WaitedBy file (ReadLine limit) reply after = ReadsPart file (first_line Lf limit (rest file)) reply after
WaitedBy file (ReadLines hint) reply after = ReadsLinesPart file (joined (lines_within hint (rest file))) reply after
WaitedBy file (ReadInto size) reply after = ReadsPart file (first_of (Some size) (rest file)) reply after
WaitedBy file (Read1 size) reply after = NotReadyYet file reply after
WaitedBy file (ReadInto1 size) reply after = NotReadyYet file reply after
WaitedBy file Peek reply after = NotReadyYet file reply after
WaitedBy file (Write bytes) reply after = WritesPart file file.buffering bytes reply after
WaitedBy file (WriteLines lines) reply after = TakesPart file (joined lines) reply after
WaitedBy file (Seek offset whence) reply after = HasToWait file reply after
WaitedBy file (Truncate size) reply after = HasToWait file reply after
WaitedBy file Flush reply after = HasToWait file reply after
WaitedBy file Close reply after = HasToWait file reply after
WaitedBy file Detach reply after = HasToWait file reply after
WaitedBy file _ reply after = ⊥

abbrev pub Waited : FlatFile → FileCall → FileReply → FlatFile → Type 0
Waited file call reply after = IsTrue (does_work file call) × WaitedBy file call reply after

-- Faults and running out of memory.

-- the bytes that a call would lay on
abbrev pub payload : FileCall → List ℕ
payload (Write bytes) = bytes
payload (WriteLines lines) = joined lines
payload _ = []

-- a file after a call that failed in the middle: its life, and its bytes; abilities and settings stay, the place
-- isn't told
pub record Fails (file : FlatFile) (life : Life) (bytes : List ℕ) (after : FlatFile) : Type 0 where
  pub life_is : after.life ≡ life
  pub bytes_are : after.bytes ≡ bytes
  pub can : after.can ≡ file.can
  pub buffering : after.buffering ≡ file.buffering

-- some first part of what the call writes is laid on
abbrev pub FailsWriting : FlatFile → FileCall → Life → FlatFile → Type 0
FailsWriting file call life after = (count : ℕ) × (count ≤ length (payload call)) × Fails file life (lay file.bytes file.place (take count (payload call))) after

-- what a fault of the raw may leave of each call: a closed file after `close`, else a failed one; a truncation may have come about
abbrev pub FaultedBy : FlatFile → FileCall → FlatFile → Type 0
FaultedBy file Close after = Fails file life.Closed file.bytes after
FaultedBy file (Truncate None) after = Fails file life.Failed file.bytes after ⊎ Fails file life.Failed (resized file.bytes file.place) after
FaultedBy file (Truncate (Some size)) after = Fails file life.Failed file.bytes after ⊎ Fails file life.Failed (resized file.bytes size) after
FaultedBy file call after = FailsWriting file call life.Failed after

abbrev pub Faulted : FlatFile → FileCall → FlatFile → Type 0
Faulted file call after = IsTrue (reaches_raw file call) × FaultedBy file call after

-- a write fails when out of memory only after the raw took bytes of its argument
abbrev pub FailsMidway : FlatFile → FileCall → FlatFile → Type 0
FailsMidway file call after = (count : ℕ) × (0 < count) × (count ≤ length (payload call)) × Fails file life.Failed (lay file.bytes file.place (take count (payload call))) after

-- a read fails when out of memory only after bytes left the raw, so only where it has any to give
abbrev pub FailsReading : FlatFile → List ℕ → FlatFile → Type 0
FailsReading file wanted after = (wanted ≢ []) × Fails file life.Failed file.bytes after

-- what running out of memory may leave of each call: all as before; a read, after bytes left the raw, and a write, after
-- the raw took some, fail
abbrev pub StarvedBy : FlatFile → FileCall → FlatFile → Type 0
StarvedBy file (Read size) after = (after ≡ file) ⊎ FailsReading file (first_of size (rest file)) after
StarvedBy file (ReadInto size) after = (after ≡ file) ⊎ FailsReading file (first_of (Some size) (rest file)) after
StarvedBy file (ReadLine limit) after = (after ≡ file) ⊎ FailsReading file (first_line Lf limit (rest file)) after
StarvedBy file (ReadLines hint) after = (after ≡ file) ⊎ FailsReading file (joined (lines_within hint (rest file))) after
StarvedBy file (Write bytes) after = (after ≡ file) ⊎ FailsMidway file (Write bytes) after
StarvedBy file (WriteLines lines) after = (after ≡ file) ⊎ FailsMidway file (WriteLines lines) after
StarvedBy file call after = after ≡ file

abbrev pub Starved : FlatFile → FileCall → FlatFile → Type 0
Starved file call after = IsTrue (reaches_raw file call) × StarvedBy file call after

-- the allowed step of a binary stream
abbrev pub BinaryStep : FlatFile → FileCall → FileReply → Bool → Bool → FlatFile → Type 0
BinaryStep before call reply waited faulted after = AllowedStep Settled Waited Faulted Starved before call reply waited faulted after
