-- A session: what it is seen as, and what one call of it may do.
use Rattle.std.specs.Prelude.{◌≡◌, ◌≢◌, ◌⊎◌, ℕ, Bool, true, false, List, [], Option, Some, None}
use Rattle.py_flat.specs.declared.life.Life.{Life}
use Rattle.py_flat.specs.declared.life.Life.TheVariants as life
use Rattle.py_flat.specs.declared.fault.IoFault.TheVariants as fault
use Rattle.py_flat.specs.Bytes.{lay}
use Rattle.py_flat.specs.Calls.{FileReply, Flag, Unwritten, Refused}
use Rattle.py_flat.specs.FlatFile.{FlatFile}
use Rattle.py_flat.specs.Refusals.{is_getter}
use Rattle.py_flat.specs.BinaryStep.{Settled, BinaryStep}
use Rattle.py_plain.specs.Units.{Unknown}
use Rattle.py_plain_text.specs.TextFile.{TextFile, clean_at}
use Rattle.py_plain_text.specs.TextCalls.{TextFileCall, tells_name}
use Rattle.py_plain_text.specs.TextCalls as text
use Rattle.py_plain_text.specs.TextExact.{carried_out}
use Rattle.py_plain_text.specs.TextAllowed as text_file
use Rattle.py_plain_text.specs.TextAllowed.{TextFileStep}
use Rattle.py_raw.specs.RawStream.{Raw}
use Rattle.py_stream.specs.Stream.{Stream, file_of, nothing_owed}
use Rattle.py_calls.specs.declared.call.Call.{Call}
use Rattle.py_calls.specs.declared.call.Call.TheVariants as call
use Rattle.py_calls.specs.declared.reply.Reply.{Reply}
use Rattle.py_calls.specs.declared.reply.Reply.TheVariants as reply
use Rattle.py_calls.specs.Calls.{text_call, file_call, said}
use Rattle.py_read_text.specs.TextState as state
use Rattle.py_read_text.specs.TextState.{TextState}
use Rattle.py_read_text.specs.Owing.{all_owed}
use Rattle.py_open.specs.TextSession.{IsOpen, OwesNothing, IsInReach}
use Rattle.py_open.specs.TextHanding.{AnswersCall}
use Rattle.py_binary.specs.Binary.{flag_of, AnswersBinary}

-- a session, by its kind
pub data SessionView : Type 0 where
  TextSession : (text : TextState) → SessionView
  BinarySession : (stream : Stream) → SessionView

-- the flat file of a session, by its kind
pub data SessionFile : Type 0 where
  OfText : (file : TextFile) → SessionFile
  OfBinary : (file : FlatFile) → SessionFile

-- the flat file that a session stands for
abbrev pub file_seen : SessionView → SessionFile
file_seen (TextSession text) = OfText (state.file_of text)
file_seen (BinarySession stream) = OfBinary (file_of stream)

-- the bytes of a session's file
abbrev pub bytes_in : SessionFile → List ℕ
bytes_in (OfText file) = file.bytes
bytes_in (OfBinary file) = file.bytes

-- the life of a session's file
abbrev pub life_in : SessionFile → Life
life_in (OfText file) = file.life
life_in (OfBinary file) = file.life

-- the raw under a session, with its counts
abbrev pub raw_of : SessionView → Raw
raw_of (TextSession text) = text.text.buffer.raw
raw_of (BinarySession stream) = stream.raw

abbrev pub life_of : SessionView → Life
life_of (TextSession text) = text.text.life
life_of (BinarySession stream) = stream.life

-- whether a wait of the raw cut the last answer short
abbrev pub short_of : SessionView → Bool
short_of (TextSession text) = text.short
short_of (BinarySession stream) = stream.short

-- the bytes that callers handed over and the raw isn't known to have
abbrev pub owed_of : SessionView → List ℕ
owed_of (TextSession text) = all_owed text.text
owed_of (BinarySession stream) = stream.owed.bytes

-- the bytes of the flat file: the raw's, with the owed ones laid at their place
abbrev pub flat_bytes : SessionView → List ℕ
flat_bytes (TextSession text) = (state.file_of text).bytes
flat_bytes (BinarySession stream) = (file_of stream).bytes

-- The one clause of every call.

-- what a question answers; the name of an encoding or a handler may be refused for want of memory
abbrev pub SaysOrStarves : (names : Bool) → (expected reply : FileReply) → Type 0
SaysOrStarves true expected reply = (reply ≡ expected) ⊎ (reply ≡ Refused fault.NoMemory)
SaysOrStarves false expected reply = reply ≡ expected

-- a question answers what the text says of it, over any raw, and leaves the text as it was
pub record TellsText (before : TextState) (call : TextFileCall) (reply : FileReply) (after : TextState) : Type 0 where
  pub says : SaysOrStarves (tells_name call) (carried_out (state.file_of before) call).0 reply
  pub same : after ≡ record before { short = false }

-- a call of a text: a question, or one that the session's text answers
abbrev pub AnswersTextBy : (asks : Bool) → TextState → TextFileCall → FileReply → TextState → Type 0
AnswersTextBy true before call reply after = TellsText before call reply after
AnswersTextBy false before call reply after = AnswersCall before call reply after

-- as long as a text isn't closed its raw is open, and so is its buffer
abbrev pub StaysOpenWithText : TextState → Type 0
StaysOpenWithText text = text.text.life ≢ life.Closed → IsOpen text

-- a call of a text session
pub record AnswersText (before : TextState) (call : Call) (reply : Reply) (after : TextState) : Type 0 where
  pub answers : AnswersTextBy (text.is_getter (text_call call)) before (text_call call) (said reply) after
  -- the raw is open as long as the text isn't closed
  pub is_open : StaysOpenWithText after
  -- it has no more bytes than a stream can have
  pub reach : IsInReach after

-- one call of a session, which stays of its kind
abbrev pub Answers : SessionView → Call → Reply → SessionView → Type 0
Answers (TextSession before) call reply (TextSession after) = AnswersText before call reply after
Answers (BinarySession before) call reply (BinarySession after) = AnswersBinary before call reply after
Answers before call reply after = ⊥

-- What holds of a session between calls.

-- a session is in step with its raw, as every session is from its opening on: one that doesn't write owes nothing, and so does a
-- stream of bytes without a buffer
abbrev pub IsInStep : SessionView → Type 0
IsInStep (TextSession text) = text.text.buffer.can.writable ≡ false → OwesNothing text
IsInStep (BinarySession stream) = (stream.can.writable ≡ false) ⊎ (stream.buffer ≡ None) → stream.owed ≡ nothing_owed stream.place

-- the raw is open, and of a text its buffer too
abbrev pub IsOpenBelow : SessionView → Type 0
IsOpenBelow (TextSession text) = IsOpen text
IsOpenBelow (BinarySession stream) = stream.raw.closed ≡ false

-- the raw is open as long as its session isn't closed
abbrev pub HasOpenRaw : SessionView → Type 0
HasOpenRaw session = life_of session ≢ life.Closed → IsOpenBelow session

-- a session is in step with its raw, which is open as long as the session isn't closed
pub record IsKept (session : SessionView) : Type 0 where
  pub in_step : IsInStep session
  pub has_open : HasOpenRaw session

-- nothing is owed, and the raw is closed
pub record IsShut (session : SessionView) : Type 0 where
  pub none : owed_of session ≡ []
  pub closed : (raw_of session).closed ≡ true

-- a `close` of a live session that was done closed the raw, of every kind of session; of other calls nothing
abbrev pub ClosesRaw : SessionView → Call → Reply → SessionView → Type 0
ClosesRaw before call.Close reply.Done after = life_of before ≡ life.Live → IsShut after
ClosesRaw before call reply after = Unit {0}

-- What the model says of a call.

-- the bytes that a reply hands over as unwritten, and their place; of other replies none
abbrev pub unwritten_in : FileReply → List ℕ
unwritten_in (Unwritten bytes place) = bytes
unwritten_in reply = []

abbrev pub place_in : FileReply → Option ℕ
place_in (Unwritten bytes place) = place
place_in reply = None

-- what a `detach` leaves of the flat file that it detached, now without a stream: what it could do; and its bytes, but for those that
-- it handed over as unwritten, of a live one none. No place is left of it: that of the unwritten bytes was handed over
pub record IsDetached (file : FlatFile) (reply : FileReply) (after : FlatFile) : Type 0 where
  pub life_is : after.life ≡ life.Detached
  pub can : after.can ≡ file.can
  pub buffering : after.buffering ≡ file.buffering
  pub place : after.place ≡ 0
  pub at : ℕ
  pub told : (place : ℕ) → place_in reply ≡ Some place → at ≡ place
  pub bytes : file.bytes ≡ lay after.bytes at (unwritten_in reply)

-- so of a text, with its settings
pub record IsDetachedText (file : TextFile) (reply : FileReply) (after : TextFile) : Type 0 where
  pub life_is : after.life ≡ life.Detached
  pub can : after.can ≡ file.can
  pub settings : after.settings ≡ file.settings
  pub place : after.place ≡ clean_at 0 Unknown
  pub at : ℕ
  pub told : (place : ℕ) → place_in reply ≡ Some place → at ≡ place
  pub bytes : file.bytes ≡ lay after.bytes at (unwritten_in reply)

-- what a call leaves of a file, by its life before and after: all, but of one that it detached what is told of that. A file that
-- was detached before stays as it is, its bytes and its place too
abbrev pub LeftBy : {File : Type 0} → (File → FileReply → File → Type 0) → (was is : Life) → File → FileReply → File → Type 0
LeftBy detached life.Detached is file reply after = after ≡ file
LeftBy detached was life.Detached file reply after = detached file reply after
LeftBy detached was is file reply after = after ≡ file

abbrev pub FileLeft : Life → FlatFile → FileReply → FlatFile → Type 0
FileLeft was file reply after = LeftBy IsDetached was file.life file reply after

abbrev pub TextLeft : Life → TextFile → FileReply → TextFile → Type 0
TextLeft was file reply after = LeftBy IsDetachedText was file.life file reply after

-- the allowed step of a flat file
pub record LeavesFile (before : FlatFile) (call : Call) (reply : FileReply) (waited faulted : Bool) (after : FlatFile) : Type 0 where
  pub file : FlatFile
  pub step : BinaryStep before (file_call call) reply waited faulted file
  pub left : FileLeft before.life file reply after

-- what a flat file answers and leaves where nothing waits, fails or runs out of memory
pub record SettlesFile (before : FlatFile) (call : Call) (reply : FileReply) (after : FlatFile) : Type 0 where
  pub file : FlatFile
  pub settled : Settled before (file_call call) reply file
  pub left : FileLeft before.life file reply after

-- the allowed step of a text
pub record LeavesTextFile (before : TextFile) (call : TextFileCall) (reply : FileReply) (waited faulted : Bool) (after : TextFile) : Type 0 where
  pub file : TextFile
  pub step : TextFileStep before call reply waited faulted file
  pub left : TextLeft before.life file reply after

-- what a text answers and leaves where nothing waits, fails or runs out of memory
pub record SettlesTextFile (before : TextFile) (call : TextFileCall) (reply : FileReply) (after : TextFile) : Type 0 where
  pub file : TextFile
  pub settled : text_file.Settled before call reply file
  pub left : TextLeft before.life file reply after

-- what a stream of bytes answers to one of the four questions
abbrev pub flag_seen : FlatFile → Call → FileReply
flag_seen file call = Flag (flag_of file.can file.life (file_call call))

-- a question answers what the file says of it, and leaves the file as it was
pub record Tells (before : FlatFile) (call : Call) (reply : FileReply) (after : FlatFile) : Type 0 where
  pub says : reply ≡ flag_seen before call
  pub same : after ≡ before

abbrev pub FileStepBy : Bool → FlatFile → Call → FileReply → Bool → Bool → FlatFile → Type 0
FileStepBy true before call reply waited faulted after = Tells before call reply after
FileStepBy false before call reply waited faulted after = LeavesFile before call reply waited faulted after

-- the allowed step of a session's file: what a call may answer and leave, by whether the raw waited or failed
abbrev pub SessionStep : SessionFile → Call → FileReply → Bool → Bool → SessionFile → Type 0
SessionStep (OfText before) call reply waited faulted (OfText after) = LeavesTextFile before (text_call call) reply waited faulted after
SessionStep (OfBinary before) call reply waited faulted (OfBinary after) = FileStepBy (is_getter (file_call call)) before call reply waited faulted after
SessionStep before call reply waited faulted after = ⊥

abbrev pub FileSettlesBy : Bool → FlatFile → Call → FileReply → FlatFile → Type 0
FileSettlesBy true before call reply after = Tells before call reply after
FileSettlesBy false before call reply after = SettlesFile before call reply after

-- what a call answers and leaves where nothing waits, fails or runs out of memory: the exact answer, but that a single transfer
-- gives some front of what is asked
abbrev pub Settles : SessionFile → Call → FileReply → SessionFile → Type 0
Settles (OfText before) call reply (OfText after) = SettlesTextFile before (text_call call) reply after
Settles (OfBinary before) call reply (OfBinary after) = FileSettlesBy (is_getter (file_call call)) before call reply after
Settles before call reply after = ⊥
