-- Which calls of a binary stream are refused, and by what: first by life, then for want of an ability, then by
-- an argument, then by a number. What is refused leaves the flat file as it was.
use Rattle.std.specs.Prelude.{ℕ, suc, zero, ◌+◌, ◌-◌, Bool, true, false, ◌&&◌, ◌||◌, not, ℤ, pos, negsuc, length, Option, Some, None, nat_lt, if◌then◌else◌}
use Rattle.py_flat.specs.declared.fault.IoFault.{IoFault}
use Rattle.py_flat.specs.declared.fault.IoFault.TheVariants as fault
use Rattle.py_flat.specs.declared.life.Life.{Life}
use Rattle.py_flat.specs.declared.life.Life.TheVariants as life
use Rattle.py_flat.specs.Limits.{greatest_place}
use Rattle.py_flat.specs.Lines.{joined}
use Rattle.py_flat.specs.Calls.{FileCall, Read, Read1, ReadLine, ReadLines, Peek, ReadInto, ReadInto1, Write, WriteLines, Seek, Tell, Truncate, Close, Detach, Readable, Writable, Seekable, Closed, OtherKind, OtherGetter}
use Rattle.py_flat.specs.FlatFile.{FlatFile, Buffering, Unbuffered, Buffered}

-- the first of two refusals
abbrev pub or_else : Option IoFault → Option IoFault → Option IoFault
or_else (Some fault) later = Some fault
or_else None later = later

-- a refusal where a test says so
abbrev pub refused_if : Bool → IoFault → Option IoFault
refused_if refused fault = if refused then Some fault else None

abbrev pub is_unbuffered : Buffering → Bool
is_unbuffered Unbuffered = true
is_unbuffered _ = false

-- whether a stream has a buffer that can be looked into, and a raw under it that can be handed back
abbrev pub is_buffered : Buffering → Bool
is_buffered (Buffered size) = true
is_buffered _ = false

-- whether a call only tells a setting or an ability: these are never refused
abbrev pub is_getter : FileCall → Bool
is_getter Readable = true
is_getter Writable = true
is_getter Seekable = true
is_getter Closed = true
is_getter _ = false

-- a getter that the kind lacks is refused in every life
abbrev pub is_other_getter : FileCall → Bool
is_other_getter OtherGetter = true
is_other_getter _ = false

abbrev pub is_close : FileCall → Bool
is_close Close = true
is_close _ = false

abbrev pub is_detach : FileCall → Bool
is_detach Detach = true
is_detach _ = false

-- what a life answers to a call that it doesn't let through
abbrev pub life_fault : Life → Option IoFault
life_fault life.Live = None
life_fault life.Failed = Some fault.Failed
life_fault life.Closed = Some fault.Closed
life_fault life.Detached = Some fault.Detached

-- the table of lives: a failed stream with a buffer may still be detached, a closed one closed again
abbrev pub lets_through : Life → Buffering → FileCall → Bool
lets_through life.Live buffering call = true
lets_through life.Failed buffering call = is_detach call && is_buffered buffering
lets_through life.Closed buffering call = is_close call
lets_through life.Detached buffering call = false

abbrev pub life_refusal : FlatFile → FileCall → Option IoFault
life_refusal file call = if lets_through file.life file.buffering call then None else life_fault file.life

-- whether the stream lacks what the call needs
abbrev pub lacks : FlatFile → FileCall → Bool
lacks file (Read size) = not file.can.readable
lacks file (Read1 size) = not file.can.readable || is_unbuffered file.buffering
lacks file (ReadLine limit) = not file.can.readable
lacks file (ReadLines hint) = not file.can.readable
lacks file Peek = not file.can.readable || not (is_buffered file.buffering)
lacks file (ReadInto size) = not file.can.readable
lacks file (ReadInto1 size) = not file.can.readable || is_unbuffered file.buffering
lacks file (Write bytes) = not file.can.writable
lacks file (WriteLines lines) = not file.can.writable
lacks file (Seek offset whence) = not file.can.seekable || file.can.appending
lacks file Tell = not file.can.seekable
lacks file (Truncate size) = not file.can.writable || not file.can.seekable || file.can.appending
lacks file Detach = not (is_buffered file.buffering)
lacks file OtherKind = true
lacks file _ = false

-- where a seek counts from: 0 the start, 1 the place, 2 the end; no other whence is known
abbrev pub seek_base : FlatFile → ℤ → Option ℕ
seek_base file (pos zero) = Some 0
seek_base file (pos (suc zero)) = Some file.place
seek_base file (pos (suc (suc zero))) = Some (length file.bytes)
seek_base file _ = None

-- an offset from a place; none below 0
abbrev pub moved_by : ℕ → ℤ → Option ℕ
moved_by base (pos n) = Some (base + n)
moved_by base (negsuc n) = if nat_lt n base then Some (base - suc n) else None

-- a place that a stream can't have
abbrev pub too_far : ℕ → Option IoFault
too_far place = refused_if (nat_lt greatest_place place) fault.TooFar

-- what is wrong with the target of a seek
abbrev pub target_refusal : Option ℕ → Option IoFault
target_refusal None = Some fault.NegativeSeek
target_refusal (Some target) = too_far target

abbrev pub seek_refusal : Option ℕ → ℤ → Option IoFault
seek_refusal None offset = Some fault.BadWhence
seek_refusal (Some base) offset = target_refusal (moved_by base offset)

-- what is wrong with the arguments and the numbers that they make
abbrev pub argument_refusal : FlatFile → FileCall → Option IoFault
argument_refusal file (Seek offset whence) = seek_refusal (seek_base file whence) offset
argument_refusal file (Write bytes) = too_far (file.place + length bytes)
argument_refusal file (WriteLines lines) = too_far (file.place + length (joined lines))
argument_refusal file (Truncate (Some size)) = too_far size
argument_refusal file _ = None

-- what a call is refused by, or None where it is accepted
abbrev pub refusal : FlatFile → FileCall → Option IoFault
refusal file call = if is_getter call then None else or_else (refused_if (is_other_getter call) fault.Unsupported) (or_else (life_refusal file call) (or_else (refused_if (lacks file call) fault.Unsupported) (argument_refusal file call)))
