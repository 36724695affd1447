-- A binary session: what one call of it may do.
use Rattle.std.specs.Prelude.{◌≡◌, ℕ, Bool, true, false, Option, None}
use Rattle.py_flat.specs.declared.fault.IoFault.{IoFault}
use Rattle.py_flat.specs.declared.fault.IoFault.TheVariants as fault
use Rattle.py_flat.specs.declared.life.Life.{Life}
use Rattle.py_flat.specs.declared.life.Life.TheVariants as life
use Rattle.py_flat.specs.Calls.{FileCall, Peek, ReadInto, ReadInto1, Detach, Readable, Writable, Seekable, Closed, OtherGetter, FileReply, Flag, Unwritten}
use Rattle.py_flat.specs.FlatFile.{Abilities}
use Rattle.py_flat.specs.Refusals.{is_getter}
use Rattle.py_flat.specs.ExactStep.{is_closed}
use Rattle.py_raw.specs.RawStream.{Raw}
use Rattle.py_stream.specs.Stream.{Stream, detached_stream}
use Rattle.py_stream.specs.Kinds.{has_room}
use Rattle.py_stream.specs.Answers.{AnswersWith, Leaves}
use Rattle.py_stream.specs.Handing.{place_handed, owed_then}
use Rattle.py_calls.specs.declared.call.Call.{Call}
use Rattle.py_calls.specs.declared.reply.Reply.{Reply}
use Rattle.py_calls.specs.Calls.{file_call, said}

-- a session's replies hold the bytes that they give, so that these calls want memory for them
abbrev pub has_reply_room : FileCall → Bool
has_reply_room (ReadInto size) = false
has_reply_room (ReadInto1 size) = false
has_reply_room Peek = false
has_reply_room call = has_room call

-- The four questions.

-- what a session answers to a question for what it can do, or whether it is closed; to anything else, no
abbrev pub flag_of : Abilities → Life → FileCall → Bool
flag_of can current Readable = can.readable
flag_of can current Writable = can.writable
flag_of can current Seekable = can.seekable
flag_of can current Closed = is_closed current
flag_of can current call = false

-- Detaching.

-- what is left of a session whose stream was detached: what it could do, its buffer's size, and the raw
abbrev pub gone_stream : Abilities → Option ℕ → Raw → Stream
gone_stream can buffer raw = record (detached_stream can buffer) { raw = raw }

-- what is left of a stream, by its session's life before the call and its own after it: one that was detached before stays as it is
abbrev pub left_by : (was is : Life) → Stream → Stream
left_by life.Detached is stream = stream
left_by was life.Detached stream = gone_stream stream.can stream.buffer stream.raw
left_by was is stream = stream

-- what a call leaves of the stream that answered it, by the session's life before
abbrev pub left_of : Life → Stream → Stream
left_of was stream = left_by was stream.life stream

-- a `detach` hands over what the stream owed: nothing of a live one, and all of a failed one; the stream that answered owes just that
abbrev pub HandsOwed : Stream → FileCall → FileReply → Stream → Type 0
HandsOwed before Detach (Unwritten bytes place) answered = (bytes ≡ (owed_then before.life before).bytes) × (place ≡ place_handed before (owed_then before.life before)) × (answered.owed ≡ owed_then before.life before)
HandsOwed before call reply answered = Unit {0}

-- what a detached session answers to a call that is none of the four questions
abbrev pub detached_fault : FileCall → IoFault
detached_fault OtherGetter = fault.Unsupported
detached_fault call = fault.Detached

-- The one clause of every call.

-- a call that the stream answered; what it left is the session's, which is short where the stream was
pub record AnswersCall (before : Stream) (call : FileCall) (reply : FileReply) (after : Stream) : Type 0 where
  pub answered : Stream
  pub answers : AnswersWith has_reply_room before call reply answered
  pub hands : HandsOwed before call reply answered
  pub leaves : after ≡ left_of before.life answered
  pub marks : after.short ≡ answered.short

-- a question leaves all as it was; every other call is one of the stream
abbrev pub AnswersBy : Bool → Stream → FileCall → FileReply → Stream → Type 0
AnswersBy true before call reply after = Leaves before (Flag (flag_of before.can before.life call)) reply after
AnswersBy false before call reply after = AnswersCall before call reply after

abbrev pub AnswersFile : Stream → FileCall → FileReply → Stream → Type 0
AnswersFile before call reply after = AnswersBy (is_getter call) before call reply after

-- one call of a binary session
abbrev pub AnswersBinary : Stream → Call → Reply → Stream → Type 0
AnswersBinary before call reply after = AnswersFile before (file_call call) (said reply) after

-- Handing the raw back.

-- what is handed back with the raw: what is owed, and the place of the first byte of that; nothing of a detached session
abbrev pub place_left : Life → Stream → Option ℕ
place_left life.Detached stream = None
place_left current stream = place_handed stream stream.owed
