-- What kinds of calls and replies there are.
use Rattle.std.specs.Prelude.{ℕ, Bool, true, false, ◌&&◌, ◌||◌, not, suc, zero, Option, Some, None, is_some, is_none}
use Rattle.py_flat.specs.declared.fault.IoFault.TheVariants as fault
use Rattle.py_flat.specs.Calls.{FileCall, Read, Read1, ReadLine, ReadLines, Peek, ReadInto, ReadInto1, Write, WriteLines, Seek, Tell, Truncate, Flush, Close, Detach, FileReply, Bytes, Lines, NotReady, Refused}

-- Calls.

-- what a call is like: it gives bytes to its caller, or takes bytes from it; it may make several transfers, or makes at most one; its space
-- is taken before anything else; its stream has room for it from the opening on, so that it needs no memory but the raw's; it asks for no
-- byte, and so for no transfer; it calls no raw; it calls the raw only to pass on what is owed, which a stream that doesn't write never
-- does; it answers a wait with not ready; and it may go on over a wait, as the buffer has room
pub record Profile : Type 0 where
  pub gives : Bool
  pub takes : Bool
  pub many : Bool
  pub one : Bool
  pub space_first : Bool
  pub room : Bool
  pub none : Bool
  pub idle : Bool
  pub passes : Bool
  pub unready : Bool
  pub outlasts : Bool

-- a profile of which no field is so
abbrev pub plain : Profile
plain = record { gives = false; takes = false; many = false; one = false; space_first = false; room = false; none = false; idle = false; passes = false; unready = false; outlasts = false }

-- a reading that goes on until it has all that is asked for
abbrev pub several : Profile
several = record plain { gives = true; unready = true; many = true }

-- a reading that makes at most one transfer
abbrev pub single : Profile
single = record plain { gives = true; unready = true; one = true }

-- a size asks for no byte
abbrev pub is_zero : ℕ → Bool
is_zero zero = true
is_zero (suc size) = false

-- a size that may be missing asks for no byte
abbrev pub asks_zero : Option ℕ → Bool
asks_zero (Some size) = is_zero size
asks_zero None = false

-- what each call is like, by whether the stream has a buffer: without one reads of a size, `readinto` and `write` make one transfer each, no
-- wait is outlasted, and there is nothing to pass on
abbrev pub by_buffer : Bool → FileCall → Profile
by_buffer buffered (Read size) = record several { many = buffered || is_none size; one = not buffered && is_some size; space_first = is_some size; none = buffered && asks_zero size }
by_buffer buffered (ReadLine limit) = record several { none = asks_zero limit }
by_buffer buffered (ReadLines hint) = several
by_buffer buffered (ReadInto size) = record several { many = buffered; one = not buffered; room = true; none = buffered && is_zero size }
by_buffer buffered (Read1 size) = record single { none = buffered && asks_zero size }
by_buffer buffered (ReadInto1 size) = record single { room = true; none = buffered && is_zero size }
by_buffer buffered Peek = record single { room = true }
by_buffer buffered (Write bytes) = record plain { takes = true; many = buffered; one = not buffered; room = true; unready = not buffered; outlasts = buffered }
by_buffer buffered (WriteLines lines) = record plain { takes = true; many = true; room = true; outlasts = buffered }
by_buffer buffered (Seek offset whence) = record plain { room = true }
by_buffer buffered Tell = record plain { room = true; idle = true }
by_buffer buffered (Truncate size) = record plain { room = true }
by_buffer buffered Flush = record plain { room = true; idle = not buffered; passes = true }
by_buffer buffered Close = record plain { room = true }
by_buffer buffered Detach = record plain { room = true; idle = not buffered; passes = true }
by_buffer buffered call = plain

-- what a call is like, by the size of the stream's buffer: `None` is of a stream without one
abbrev pub profile : Option ℕ → FileCall → Profile
profile buffer call = by_buffer (is_some buffer) call

-- Its fields by names, of a stream with a buffer, where that is all the same.

-- calls that give bytes
abbrev pub is_reading : FileCall → Bool
is_reading call = (by_buffer true call).gives

-- calls that move a stream to a place
abbrev pub is_seek : FileCall → Bool
is_seek (Seek offset whence) = true
is_seek call = false

-- calls that may move the raw of a stream that owes nothing: readings, and seeks
abbrev pub moves_raw : FileCall → Bool
moves_raw call = is_reading call || is_seek call

-- calls that give bytes to the stream
abbrev pub is_writing : FileCall → Bool
is_writing call = (by_buffer true call).takes

-- reading calls that go on until they have all that is asked for
abbrev pub reads_on : FileCall → Bool
reads_on call = (by_buffer true call).gives && (by_buffer true call).many

-- calls that make at most one transfer
abbrev pub is_single : FileCall → Bool
is_single call = (by_buffer true call).one

-- calls for which a stream has its room from its opening on: they need no memory but their raw's
abbrev pub has_room : FileCall → Bool
has_room call = (by_buffer true call).room

-- calls whose space is taken before anything else
abbrev pub takes_space_first : FileCall → Bool
takes_space_first call = (by_buffer true call).space_first

-- readings that ask for no byte
abbrev pub asks_nothing : FileCall → Bool
asks_nothing call = (by_buffer true call).none

-- Its fields by names, by the buffer's size.

-- calls that may make several transfers
abbrev pub goes_on : Option ℕ → FileCall → Bool
goes_on buffer call = (profile buffer call).many

-- readings that may make several transfers
abbrev pub by_several : Option ℕ → FileCall → Bool
by_several buffer call = (profile buffer call).gives && (profile buffer call).many

-- calls that make at most one transfer
abbrev pub makes_one : Option ℕ → FileCall → Bool
makes_one buffer call = (profile buffer call).one

-- calls that make no transfer, as they ask for no byte
abbrev pub asks_none : Option ℕ → FileCall → Bool
asks_none buffer call = (profile buffer call).none

-- calls that call no raw, by whether the stream writes
abbrev pub calls_none : Option ℕ → Bool → FileCall → Bool
calls_none buffer writes call = (profile buffer call).idle || ((profile buffer call).passes && not writes)

-- calls that answer a wait with not ready
abbrev pub waits_unready : Option ℕ → FileCall → Bool
waits_unready buffer call = (profile buffer call).unready

-- calls that may go on over a wait, as the buffer has room
abbrev pub outlasts : Option ℕ → FileCall → Bool
outlasts buffer call = (profile buffer call).outlasts

-- Replies.

-- the raw would have blocked, and the call was refused
abbrev pub says_would_block : FileReply → Bool
says_would_block (Refused (fault.WouldBlock taken)) = true
says_would_block reply = false

-- the raw would have blocked, and nothing was answered
abbrev pub says_wait : FileReply → Bool
says_wait NotReady = true
says_wait reply = says_would_block reply

-- bytes were given
abbrev pub says_given : FileReply → Bool
says_given (Bytes part) = true
says_given (Lines lines) = true
says_given reply = false

-- the raw failed
abbrev pub says_fault : FileReply → Bool
says_fault (Refused fault.RawFault) = true
says_fault reply = false

-- memory ran out
abbrev pub says_no_memory : FileReply → Bool
says_no_memory (Refused fault.NoMemory) = true
says_no_memory reply = false
