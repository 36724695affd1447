-- Writes of an engine that is opened to be read and written, wherever the bytes that it owes lie.
use Rattle.std.specs.Prelude.{◌≡◌, ◌+◌, ◌<◌, ◌≤◌, true, false, length, Bool, Result, Ok, Err}
use Rattle.py_flat.specs.declared.fault.IoFault.{IoFault}
use Rattle.py_flat.specs.Limits.{greatest_place}
use Rattle.py_flat.specs.Causes.{Rose}
use Rattle.py_flat.specs.Calls.{FileCall, Write, WriteLines, FileReply, Count, Done, Refused}
use Rattle.py_flat.specs.BinaryStep.{payload}
use Rattle.py_stream.specs.Stream.{Stream}
use Rattle.py_stream.specs.Kinds.{is_writing}
use Rattle.py_stream.specs.Writing.{HasRoom}
use Rattle.py_stream.specs.Answers.{Answers}
use Rattle.py_stream.specs.Settling.{LivesOn}
use Rattle.py_engine.specs.Engine.{EngineView, stream_of}
use Rattle.py_engine.specs.declared.data.given.Given.{Given}
use Rattle.py_engine.specs.declared.data.given.Given.TheVariants as gives

-- a call that gives a stream bytes that have a place, but for which the buffer has no room
pub record GivesPlaced (stream : Stream) (call : FileCall) : Type 0 where
  pub writing : is_writing call ≡ true
  pub within : stream.place + length (payload call) ≤ greatest_place
  pub roomless : HasRoom stream (payload call) → ⊥

-- the raw would have blocked while some was owed; the stream lives on, and no answer is short yet
pub record WaitsOwing (old new : Stream) : Type 0 where
  pub goes : LivesOn old new
  pub waited : Rose old.raw.waits new.raw.waits
  pub some : 0 < length new.owed.bytes

-- all was passed on for a call that gives bytes: what answers it then answers it from before; or the raw would have blocked; or its
-- refusal answers the call
abbrev pub GoesBehind : EngineView → Result Bool IoFault → EngineView → Type 0
GoesBehind old (Ok true) new = (call : FileCall) (reply : FileReply) (after : Stream) → GivesPlaced (stream_of old) call → Answers (stream_of new) call reply after → Answers (stream_of old) call reply after
GoesBehind old (Ok false) new = WaitsOwing (stream_of old) (stream_of new)
GoesBehind old (Err why) new = (call : FileCall) → GivesPlaced (stream_of old) call → Answers (stream_of old) call (Refused why) (stream_of new)

-- the call that gives them
abbrev pub call_of : Given → FileCall
call_of (gives.Bytes bytes) = Write bytes.now
call_of (gives.Lines lines) = WriteLines lines.now

-- what that call answers once all of them are taken
abbrev pub taken_all : Given → FileReply
taken_all (gives.Bytes bytes) = Count (length bytes.now)
taken_all (gives.Lines lines) = Done

-- bytes that a call gives were all taken, which answers it; or none of them were, and all that was owed is passed on: what answers the call
-- then answers it from before; or its refusal answers it
abbrev pub GivesOutcome : EngineView → Given → Result Bool IoFault → EngineView → Type 0
GivesOutcome old given (Ok true) new = Answers (stream_of old) (call_of given) (taken_all given) (stream_of new)
GivesOutcome old given (Ok false) new = (reply : FileReply) (after : Stream) → Answers (stream_of new) (call_of given) reply after → Answers (stream_of old) (call_of given) reply after
GivesOutcome old given (Err why) new = Answers (stream_of old) (call_of given) (Refused why) (stream_of new)
