-- The exact step: what an accepted call answers and leaves, where nothing waits, fails or runs out of memory.
use Rattle.std.specs.Prelude.{ℕ, ◌+◌, Bool, true, false, ℤ, List, [], length, take, Option, Some, None, option_and_then, unwrap_or, if◌then◌else◌}
use Rattle.py_flat.specs.declared.fault.IoFault.{IoFault}
use Rattle.py_flat.specs.declared.life.Life.{Life}
use Rattle.py_flat.specs.declared.life.Life.TheVariants as life
use Rattle.py_flat.specs.Bytes.{left_at, lay, resized, first_of, first_or_all}
use Rattle.py_flat.specs.Lines.{Lf, first_line, lines_within, joined}
use Rattle.py_flat.specs.Calls.{FileCall, Read, Read1, ReadLine, ReadLines, Peek, ReadInto, ReadInto1, Write, WriteLines, Seek, Tell, Truncate, Flush, Close, Detach, Readable, Writable, Seekable, Closed, OtherKind, OtherGetter, FileReply, Bytes, Lines, Count, Place, Done, Flag, Unwritten, Refused}
use Rattle.py_flat.specs.FlatFile.{FlatFile, Buffering, Unbuffered, Buffered, InMemory}
use Rattle.py_flat.specs.Refusals.{refusal, seek_base, moved_by}

abbrev pub is_closed : Life → Bool
is_closed life.Closed = true
is_closed _ = false

-- the bytes that a stream has left
abbrev pub rest : FlatFile → List ℕ
rest file = left_at file.bytes file.place

-- a file after a read of n bytes
abbrev pub after_read : FlatFile → ℕ → FlatFile
after_read file count = record file { place = file.place + count }

-- a file after a write
abbrev pub after_write : FlatFile → List ℕ → FlatFile
after_write file bytes = record file { bytes = lay file.bytes file.place bytes; place = file.place + length bytes }

abbrev pub in_life : FlatFile → Life → FlatFile
in_life file life = record file { life = life }

-- bytes that are given, and the place after them
abbrev pub gives : FlatFile → List ℕ → FileReply × FlatFile
gives file bytes = (Bytes bytes, after_read file (length bytes))

-- what one transfer is asked for where no size is given
abbrev pub buffer_full : Buffering → List ℕ → List ℕ
buffer_full Unbuffered bytes = bytes
buffer_full (Buffered size) bytes = first_or_all size bytes
buffer_full InMemory bytes = bytes

-- what one transfer is asked for
abbrev pub one_transfer : Buffering → Option ℕ → List ℕ → List ℕ
one_transfer buffering None bytes = buffer_full buffering bytes
one_transfer buffering (Some size) bytes = first_of (Some size) bytes

-- the bytes of a truncated file: a stream in memory is only cut
abbrev pub truncated : Buffering → List ℕ → ℕ → List ℕ
truncated InMemory bytes size = take size bytes
truncated _ bytes size = resized bytes size

-- where an accepted seek goes
abbrev pub seek_target : FlatFile → ℤ → ℤ → ℕ
seek_target file offset whence = unwrap_or (option_and_then (λ base. moved_by base offset) (seek_base file whence)) 0

-- the place that is handed back with the lower stream: none where it can't seek
abbrev pub handed_place : FlatFile → Option ℕ
handed_place file = if file.can.seekable then Some file.place else None

-- what an accepted call answers and leaves. The `detach` of a failed file gives back what the flat file doesn't know:
-- `HandsBack` of `BinaryStep` says what
abbrev pub carried_out : FlatFile → FileCall → FileReply × FlatFile
carried_out file (Read size) = gives file (first_of size (rest file))
carried_out file (Read1 size) = gives file (one_transfer file.buffering size (rest file))
carried_out file (ReadLine limit) = gives file (first_line Lf limit (rest file))
carried_out file (ReadLines hint) = (Lines (lines_within hint (rest file)), after_read file (length (joined (lines_within hint (rest file)))))
carried_out file Peek = (Bytes (buffer_full file.buffering (rest file)), file)
carried_out file (ReadInto size) = gives file (first_of (Some size) (rest file))
carried_out file (ReadInto1 size) = gives file (first_of (Some size) (rest file))
carried_out file (Write bytes) = (Count (length bytes), after_write file bytes)
carried_out file (WriteLines lines) = (Done, after_write file (joined lines))
carried_out file (Seek offset whence) = (Place (seek_target file offset whence), record file { place = seek_target file offset whence })
carried_out file Tell = (Place file.place, file)
carried_out file (Truncate size) = (Place (unwrap_or size file.place), record file { bytes = truncated file.buffering file.bytes (unwrap_or size file.place) })
carried_out file Flush = (Done, file)
carried_out file Close = (Done, in_life file life.Closed)
carried_out file Detach = (Unwritten [] (handed_place file), in_life file life.Detached)
carried_out file Readable = (Flag file.can.readable, file)
carried_out file Writable = (Flag file.can.writable, file)
carried_out file Seekable = (Flag file.can.seekable, file)
carried_out file Closed = (Flag (is_closed file.life), file)
carried_out file OtherKind = (Done, file)
carried_out file OtherGetter = (Done, file)

-- a refusal leaves the file as it was
abbrev pub answered : FlatFile → FileCall → Option IoFault → FileReply × FlatFile
answered file call (Some fault) = (Refused fault, file)
answered file call None = carried_out file call

-- the exact step: what a file answers to a call, and how the call leaves it
abbrev pub exact : FlatFile → FileCall → FileReply × FlatFile
exact file call = answered file call (refusal file call)
