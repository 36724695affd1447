-- How many bytes of its argument a write took.
use Rattle.std.specs.Prelude.{ℕ, ◌-◌, List, length}
use Rattle.py_flat.specs.declared.fault.IoFault.TheVariants as fault
use Rattle.py_flat.specs.Calls.{FileReply, Count, Done, Refused}
use Rattle.py_stream.specs.Stream.{Stream}

-- how many of the bytes that it was given a write of a stream with a buffer took, by what it answered: all; as many as it says itself
-- where the raw would have blocked; as many as the place moved by where the raw failed or memory ran out; none where it was refused
abbrev pub taken_of : List ℕ → FileReply → (before after : ℕ) → ℕ
taken_of bytes (Count count) before after = length bytes
taken_of bytes Done before after = length bytes
taken_of bytes (Refused (fault.WouldBlock taken)) before after = taken
taken_of bytes (Refused fault.RawFault) before after = after - before
taken_of bytes (Refused fault.NoMemory) before after = after - before
taken_of bytes reply before after = 0

-- a stream that writes: the stream, and how many bytes of the last write it took, 0 before the first
pub record WriterView : Type 0 where
  pub stream : Stream
  pub taken : ℕ

-- the stream, without how many bytes it took
abbrev pub stream_in : WriterView → Stream
stream_in writer = writer.stream
