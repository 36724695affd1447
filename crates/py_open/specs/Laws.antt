-- What holds of whole runs, whatever raw is below.
use Rattle.std.specs.Prelude.{◌≡◌, ◌≢◌, ◌⊎◌, ◌+◌, ◌≤◌, Bool, true, false, IsTrue, ℕ, zero, pos, List, [], ◌∷◌, length, Option, None, is_some}
use Rattle.py_flat.specs.declared.fault.IoFault.TheVariants as fault
use Rattle.py_flat.specs.declared.life.Life.{Life}
use Rattle.py_flat.specs.declared.life.Life.TheVariants as life
use Rattle.py_flat.specs.Calls.{FileCall, FileReply, Text, Done, Count, Cookie, Unwritten, Refused}
use Rattle.py_flat.specs.Calls as file
use Rattle.py_flat.specs.FlatFile.{Buffered, FlatFile}
use Rattle.py_flat.specs.Limits.{greatest_place}
use Rattle.py_flat.specs.Refusals.{is_getter}
use Rattle.py_plain.specs.Units.{Unknown}
use Rattle.py_plain_text.specs.TextFile.{TextSettings, TextFile, clean_at}
use Rattle.py_plain_text.specs.Rest.{text_rest}
use Rattle.py_plain_text.specs.declared.text_cookie.TextIOCookie.{TextIOCookie}
use Rattle.py_plain_text.specs.Cookie.{cookie_bytes}
use Rattle.py_plain_text.specs.CookieView.{cookie_shown}
use Rattle.py_plain_text.specs.Telling as telling
use Rattle.py_plain_text.specs.TextCalls as text
use Rattle.py_plain_text.specs.TextCalls.{TextFileCall, tells_name}
use Rattle.py_plain_text.specs.TextRefusals.{refusal}
use Rattle.py_plain_text.specs.TextWriting.{written_bytes}
use Rattle.py_plain_text.specs.TextExact.{carried_out, after_writing, exact, with_chunk_size}
use Rattle.py_text_laws.specs.Written.{NeedsNoHandler, is_kept}
use Rattle.py_raw.specs.RawStream.{Raw, WhereTold, WhereBytes, tells}
use Rattle.py_text.specs.declared.reconfigure.Reconfigure.{Reconfigure}
use Rattle.py_stream.specs.Stream.{Stream, file_of, nothing_owed}
use Rattle.py_stream.specs.Answers as stream
use Rattle.py_calls.specs.declared.call.Call.{Call}
use Rattle.py_calls.specs.declared.call.Call.TheVariants as call
use Rattle.py_calls.specs.declared.reply.Reply.{Reply}
use Rattle.py_calls.specs.declared.reply.Reply.TheVariants as reply
use Rattle.py_calls.specs.Calls.{text_call, file_call, said}
use Rattle.py_calls.specs.declared.plan.OpenPlan.{OpenPlan}
use Rattle.py_calls.specs.Plan.{IsPlanned}
use Rattle.py_read_text.specs.TextState as state
use Rattle.py_read_text.specs.TextState.{TextState}
use Rattle.py_read_text.specs.Answers as over
use Rattle.py_read_text.specs.Owing.{has_line_end}
use Rattle.py_open.specs.TextSession.{OwesNothing}
use Rattle.py_binary.specs.Binary.{detached_fault}
use Rattle.py_open.specs.Session.{SessionFile, OfText, OfBinary, SessionView, TextSession, BinarySession, raw_of, file_seen, owed_of, flat_bytes, SaysOrStarves, flag_seen, Answers}
use Rattle.py_open.specs.Opening.{OpensSession}
use Rattle.py_open.specs.Run.{Entry, IsRun, IsMarkedRun, IsHistory, IsSmooth, NoneLacksMemory, calls_of, replies_of, all_said}

-- Texts.

-- a text without a place
abbrev pub without_place : TextFile → TextFile
without_place file = record file { place = clean_at 0 Unknown }

-- what is left of a text, by its life before a call and after it: of one that the call detached no place
abbrev pub left_exactly : (was is : Life) → TextFile → TextFile
left_exactly life.Detached is file = file
left_exactly was life.Detached file = without_place file
left_exactly was is file = file

-- what a text that a session calls is left as
abbrev pub session_left : Life → FileReply × TextFile → FileReply × TextFile
session_left was step = (step.0, left_exactly was step.1.life step.1)

-- what a text answers and leaves where nothing waits, fails or runs out of memory
abbrev pub session_exact : TextFile → Call → FileReply × TextFile
session_exact file call = session_left file.life (exact file (text_call call))

-- the replies of a list of calls, and the text after them
abbrev pub exact_replies : TextFile → List Call → List FileReply
exact_replies file [] = []
exact_replies file (call ∷ calls) = (session_exact file call).0 ∷ exact_replies (session_exact file call).1 calls

abbrev pub exact_after : TextFile → List Call → TextFile
exact_after file [] = file
exact_after file (call ∷ calls) = exact_after (session_exact file call).1 calls

-- each reply is the exact one, and so is the text after them
pub record IsExact (before : TextFile) (calls : List Call) (replies : List FileReply) (after : SessionFile) : Type 0 where
  pub says : replies ≡ exact_replies before calls
  pub leaves : after ≡ OfText (exact_after before calls)

-- whether a call is a `detach`
abbrev pub detaches : Call → Bool
detaches call.Detach = true
detaches call = false

-- none of these calls is of a kind
abbrev pub NoneIs : (Call → Bool) → List Call → Type 0
NoneIs kind [] = Unit {0}
NoneIs kind (call ∷ calls) = (kind call ≡ false) × NoneIs kind calls

-- the model knows what a text answers to these calls: a text that failed isn't detached by them, which hands over what the raw hasn't
abbrev pub KnowsAnswers : TextFile → List Call → Type 0
KnowsAnswers file calls = (file.life ≢ life.Failed) ⊎ NoneIs detaches calls

-- Sizes.

-- a file whose buffer has a size
abbrev pub with_buffer : FlatFile → ℕ → FlatFile
with_buffer file size = record file { buffering = Buffered size }

-- two files are alike but for how large things are: of texts the chunks, of streams of bytes the buffers, which both have
abbrev pub AlikeButSizes : SessionFile → SessionFile → Type 0
AlikeButSizes (OfText one) (OfText other) = (chunk : ℕ) × (other ≡ with_chunk_size one chunk)
AlikeButSizes (OfBinary one) (OfBinary other) = (was is : ℕ) × (one ≡ with_buffer one was) × (other ≡ with_buffer one is)
AlikeButSizes one other = ⊥

abbrev pub is_text : SessionFile → Bool
is_text (OfText file) = true
is_text (OfBinary file) = false

-- whether a call asks for a size, or for what one transfer brings, by whether the session is a text
abbrev pub tells_size : (text : Bool) → Call → Bool
tells_size true call.ChunkSize = true
tells_size false (call.Read1 size) = true
tells_size false (call.ReadInto1 size) = true
tells_size false call.Peek = true
tells_size text call = false

-- none of these calls does
abbrev pub NoneTellsSize : (text : Bool) → List Call → Type 0
NoneTellsSize text [] = Unit {0}
NoneTellsSize text (call ∷ calls) = (tells_size text call ≡ false) × NoneTellsSize text calls

-- a run over a raw that tells, in which no count of the raw rose and no call ran out of memory
pub record IsSmoothRun (before : SessionView) (calls : List Call) (replies : List Reply) (after : SessionView) : Type 0 where
  pub run : IsRun before calls replies after
  pub told : IsTrue (tells (raw_of before))
  pub smooth : IsSmooth (raw_of before) (raw_of after)
  pub memory : NoneLacksMemory (all_said replies)

-- Going back to where a text told.

-- a session that a plan opened over a raw that tells, and to which calls led
pub record IsReached (session : SessionView) : Type 0 where
  pub raw : Raw
  pub plan : OpenPlan
  pub told : IsTrue (tells raw)
  pub planned : IsPlanned plan
  pub opened : SessionView
  pub opens : OpensSession raw plan opened
  pub calls : List Call
  pub replies : List Reply
  pub run : IsRun opened calls replies session

-- a text may go back to where another told, of the same session or of another: it is live, can be moved, can be read where that can, doesn't
-- append, and has its encoding, handler and newline rule, and its bytes
pub record GoesBackFrom (was now : TextState) : Type 0 where
  pub live : now.text.life ≡ life.Live
  pub moves : now.text.buffer.can.seekable ≡ true
  pub reads : was.text.buffer.can.readable ≡ true → now.text.buffer.can.readable ≡ true
  pub forward : now.text.buffer.can.appending ≡ false
  pub encoding : now.text.settings.encoding ≡ was.text.settings.encoding
  pub handler : now.text.settings.handler ≡ was.text.settings.handler
  pub newline : now.text.settings.newline ≡ was.text.settings.newline
  pub bytes : (state.file_of now).bytes ≡ (state.file_of was).bytes

-- it went back: it answers the cookie, and has left what was left where that was told
pub record IsBack (was : TextState) (told : TextIOCookie) (reply : Reply) (after : TextState) : Type 0 where
  pub says : said reply ≡ Cookie (cookie_bytes (cookie_shown told))
  pub rest : text_rest (state.file_of after) ≡ text_rest (state.file_of was)

-- a `SeekText`, from the start, of the cookie that another text told, of the same session or of any other, goes back to where that told,
-- where both texts were reached, the one may go back to where the other told, no count of the raw rose in the call, and memory sufficed
abbrev pub GoesBackBy : SessionView → Call → Reply → SessionView → Type 0
GoesBackBy (TextSession now) (call.SeekText bytes (pos zero)) says (TextSession after) =
    (was told : TextState) (cookie : TextIOCookie) → bytes ≡ cookie_bytes (cookie_shown cookie)
    → IsReached (TextSession was) → Answers (TextSession was) call.Tell (reply.Cookie cookie) (TextSession told)
    → IsReached (TextSession now) → GoesBackFrom was now
    → IsSmooth now.text.buffer.raw after.text.buffer.raw → said says ≢ Refused fault.NoMemory → IsBack was cookie says after
GoesBackBy before call says after = Unit {0}

-- Over a raw that tells a session that a plan opened, and each to which calls lead from there, is reached; and a text of it that may go back
-- to where another told does so by a `SeekText` of the cookie that this told, in which no count of the raw rises and memory suffices
pub record BringsBack (opened : SessionView) : Type 0 where
  pub reached : (calls : List Call) (replies : List Reply) (session : SessionView) → IsRun opened calls replies session → IsReached session
  pub back : (was told now after : TextState) (cookie : TextIOCookie) (calls : List Call) (replies : List Reply) (says : Reply)
      → IsReached (TextSession was) → Answers (TextSession was) call.Tell (reply.Cookie cookie) (TextSession told)
      → IsRun opened calls replies (TextSession now) → GoesBackFrom was now
      → Answers (TextSession now) (call.SeekText (cookie_bytes (cookie_shown cookie)) (pos 0)) says (TextSession after)
      → IsSmooth now.text.buffer.raw after.text.buffer.raw → said says ≢ Refused fault.NoMemory → IsBack was cookie says after

-- Reading what was written.

-- a text session may write a text so that it can be read back
pub record MayWrite (now : TextState) (written : List ℕ) : Type 0 where
  -- it is live
  pub live : now.text.life ≡ life.Live
  -- it can be moved, so that it tells where it stands
  pub moves : now.text.buffer.can.seekable ≡ true
  -- it can be written
  pub writes : now.text.buffer.can.writable ≡ true
  -- it is clean: nothing was read from where it stands
  pub clean : now.text.place.dirty ≡ false
  -- its encoding has each of the characters, so that no handler replaces one
  pub had : NeedsNoHandler now.text.settings.encoding written
  -- its newline argument writes the text as it is, and reads that as it is: "\n" and "" do so with each text
  pub kept : is_kept now.text.settings.newline written ≡ true
  -- and what is written ends where a stream can stand
  pub near : now.text.place.at + length (written_bytes now.text.settings written) ≤ greatest_place

-- a text session may read what another wrote, whatever its handler is, its chunks and its ways of writing
pub record MayReadFrom (was now : TextState) (written : List ℕ) : Type 0 where
  -- it can be moved, so that it can be put where the other stood
  pub moves : now.text.buffer.can.seekable ≡ true
  -- it can be read
  pub reads : now.text.buffer.can.readable ≡ true
  -- it doesn't append, so that it can be put before its end
  pub forward : now.text.buffer.can.appending ≡ false
  -- it has the other's encoding
  pub encoding : now.text.settings.encoding ≡ was.text.settings.encoding
  -- its newline argument reads the text as it is, as the other's wrote it
  pub kept : is_kept now.text.settings.newline written ≡ true

-- the cookie that a text session tells, by where it stands
abbrev pub cookie_told : TextState → List ℕ
cookie_told now = cookie_bytes (telling.told (state.file_of now))

-- whether a call passes on all that is owed, and leaves the bytes as they are: a `flush` and a `close` do
abbrev pub passes_on : Call → Bool
passes_on call.Flush = true
passes_on call.Close = true
passes_on call = false

-- what one session wrote was read by another
pub record IsReadBack (was : TextState) (written : List ℕ) (replies others : List Reply) : Type 0 where
  -- the one told its cookie, took all the characters, and was flushed or closed
  pub writes : all_said replies ≡ Cookie (cookie_told was) ∷ Count (length written) ∷ Done ∷ []
  -- the other went there, and read the text that was written
  pub reads : all_said others ≡ Cookie (cookie_told was) ∷ Text written ∷ []

-- Histories, and runs in parts.

-- a run as a history: the same calls and replies, with the marks of the run, from file to file
pub record HasHistory (before : SessionView) (calls : List Call) (replies : List Reply) (after : SessionView) : Type 0 where
  pub entries : List Entry
  pub calls_are : calls_of entries ≡ calls
  pub replies_are : replies_of entries ≡ replies
  pub marked : IsMarkedRun before entries after
  pub steps : IsHistory (file_seen before) entries (file_seen after)

-- a run in two parts, with the session between them
pub record RunsInTwo (before : SessionView) (calls more : List Call) (replies others : List Reply) (after : SessionView) : Type 0 where
  pub mid : SessionView
  pub first : IsRun before calls replies mid
  pub second : IsRun mid more others after

-- Completeness.

-- a question is answered by what it asks for; a call that isn't refused by an answer of its own, or when out of memory
abbrev pub CompletesText : Bool → TextState → TextFileCall → FileReply → Type 0
CompletesText true before call reply = SaysOrStarves (tells_name call) (carried_out (state.file_of before) call).0 reply
CompletesText false before call reply = refusal (state.file_of before) call ≡ None → over.IsAnswerTo call reply

abbrev pub CompletesFile : Bool → Stream → Call → FileReply → Type 0
CompletesFile true before call reply = reply ≡ flag_seen (file_of before) call
CompletesFile false before call reply = stream.refused_by before (file_call call) ≡ None → stream.IsAnswerTo (file_call call) reply

abbrev pub Completes : SessionView → Call → FileReply → Type 0
Completes (TextSession before) call reply = CompletesText (text.is_getter (text_call call)) before (text_call call) reply
Completes (BinarySession before) call reply = CompletesFile (is_getter (file_call call)) before call reply

-- a run whose every call is answered so
abbrev pub RunsComplete : SessionView → List Call → List Reply → SessionView → Type 0
RunsComplete before [] [] after = after ≡ before
RunsComplete before (call ∷ calls) (reply ∷ replies) after = (mid : SessionView) × Answers before call reply mid × Completes before call (said reply) × RunsComplete mid calls replies after
RunsComplete before [] (reply ∷ replies) after = ⊥
RunsComplete before (call ∷ calls) [] after = ⊥

-- What stays.

-- whether a call gives a text a setting, by what a `Reconfigure` gives of it
abbrev pub gives : {A : Type 0} → (Reconfigure → Option A) → Call → Bool
gives given (call.Reconfigure changes) = is_some (given changes)
gives given call = false

-- whether a call gives a text a chunk size
abbrev pub gives_chunk_size : Call → Bool
gives_chunk_size (call.SetChunkSize size) = true
gives_chunk_size call = false

-- a setting stays over calls of which none gives another
abbrev pub SettingStays : {A : Type 0} → (Reconfigure → Option A) → (TextSettings → A) → (before : TextSettings) → List Call → (after : TextSettings) → Type 0
SettingStays given own before calls after = NoneIs (gives given) calls → own after ≡ own before

-- so does each setting of a text
pub record KeepsText (before : TextSettings) (calls : List Call) (after : TextSettings) : Type 0 where
  pub encoding : SettingStays (λ changes. changes.encoding) (λ settings. settings.encoding) before calls after
  pub handler : SettingStays (λ changes. changes.errors) (λ settings. settings.handler) before calls after
  pub newline : SettingStays (λ changes. changes.newline) (λ settings. settings.newline) before calls after
  pub line_buffering : SettingStays (λ changes. changes.line_buffering) (λ settings. settings.line_buffering) before calls after
  pub write_through : SettingStays (λ changes. changes.write_through) (λ settings. settings.write_through) before calls after
  pub chunk_size : NoneIs gives_chunk_size calls → after.chunk_size ≡ before.chunk_size

-- what a session can do, its kind and its settings, stay over these calls
abbrev pub KeepsSettings : SessionView → List Call → SessionView → Type 0
KeepsSettings (TextSession before) calls (TextSession after) =
    (after.text.buffer.can ≡ before.text.buffer.can) × KeepsText before.text.settings calls after.text.settings × (after.text.buffer.buffering ≡ before.text.buffer.buffering)
KeepsSettings (BinarySession before) calls (BinarySession after) = (after.can ≡ before.can) × (after.buffer ≡ before.buffer)
KeepsSettings before calls after = ⊥

-- a session that doesn't write, and owes nothing
abbrev pub OnlyReads : SessionView → Type 0
OnlyReads (TextSession text) = (text.text.buffer.can.writable ≡ false) × OwesNothing text
OnlyReads (BinarySession stream) = (stream.can.writable ≡ false) × (stream.owed ≡ nothing_owed stream.place)

-- What is passed on.

-- a call that leaves nothing owed of a live stream: a `flush`, a `close` or a `detach` that was done
abbrev pub FilePassesAll : FileCall → FileReply → Type 0
FilePassesAll file.Flush Done = Unit {0}
FilePassesAll file.Close Done = Unit {0}
FilePassesAll file.Detach (Unwritten bytes place) = Unit {0}
FilePassesAll call reply = ⊥

-- of a live text: a `flush`, a `close` or a `detach` that was done, a seek that was answered or whose cookie doesn't fit, and with line
-- buffering an answered write of a text with a line end
abbrev pub TextPassesAll : TextSettings → TextFileCall → FileReply → Type 0
TextPassesAll settings text.Flush Done = Unit {0}
TextPassesAll settings text.Close Done = Unit {0}
TextPassesAll settings text.Detach (Unwritten bytes place) = Unit {0}
TextPassesAll settings (text.SeekText sought whence) (Cookie bytes) = Unit {0}
TextPassesAll settings (text.SeekText sought whence) (Refused fault.CannotRestore) = Unit {0}
TextPassesAll settings (text.WriteText written) (Count count) = (settings.line_buffering ≡ true) × (has_line_end written ≡ true)
TextPassesAll settings call reply = ⊥

-- a call that leaves nothing owed of a live session
abbrev pub PassesAll : SessionView → Call → FileReply → Type 0
PassesAll (TextSession before) call reply = TextPassesAll before.text.settings (text_call call) reply
PassesAll (BinarySession before) call reply = FilePassesAll (file_call call) reply

-- the bytes that a text has once a call is carried out: a write lays its own on
abbrev pub text_left : TextFile → TextFileCall → List ℕ
text_left file (text.WriteText written) = (after_writing file (written_bytes file.settings written)).bytes
text_left file call = file.bytes

-- the flat bytes of the session that a call came to, with those of a write of a text
abbrev pub flat_left : SessionView → Call → List ℕ
flat_left (TextSession before) call = text_left (state.file_of before) (text_call call)
flat_left (BinarySession before) call = flat_bytes (BinarySession before)

abbrev pub ShownBy : (writes : Bool) → Raw → Type 0 → Type 0
ShownBy true raw Fact = WhereTold raw Fact
ShownBy false raw Fact = WhereBytes raw Fact

-- where the raw tells what it takes to know what it holds: of a text that isn't written its bytes; of others its place too
abbrev pub WhereShown : SessionView → Type 0 → Type 0
WhereShown (TextSession text) Fact = ShownBy text.text.buffer.can.writable text.text.buffer.raw Fact
WhereShown (BinarySession stream) Fact = WhereTold stream.raw Fact

-- nothing is owed any more; where it shows, the raw holds the flat bytes of the session that the call came to, and those of a write
pub record HoldsFlat (before : SessionView) (call : Call) (after : SessionView) : Type 0 where
  pub none : owed_of after ≡ []
  pub holds : WhereShown before ((raw_of after).bytes ≡ flat_left before call)

-- What sessions answer that have ended.

-- whether a call asks a text for a name, whose answer may be refused for want of memory
abbrev pub asks_name : SessionFile → Call → Bool
asks_name (OfText file) call = tells_name (text_call call)
asks_name (OfBinary file) call = false

-- each reply is the one that a file as it is answers to its call
abbrev pub SayAll : (SessionFile → Call → FileReply) → SessionFile → List Call → List FileReply → Type 0
SayAll expected file [] [] = Unit {0}
SayAll expected file (call ∷ calls) (reply ∷ replies) = SaysOrStarves (asks_name file call) (expected file call) reply × SayAll expected file calls replies
SayAll expected file [] (reply ∷ replies) = ⊥
SayAll expected file (call ∷ calls) [] = ⊥

-- Closed sessions.

-- what a closed text answers: another close is done, a question answered, all else is refused
abbrev pub closed_text_by : Bool → TextFile → TextFileCall → FileReply
closed_text_by true file call = (carried_out file call).0
closed_text_by false file text.Close = Done
closed_text_by false file call = Refused fault.Closed

-- a closed stream the same, but that it lacks some questions
abbrev pub closed_file_reply : FileCall → FileReply
closed_file_reply file.Close = Done
closed_file_reply file.OtherGetter = Refused fault.Unsupported
closed_file_reply call = Refused fault.Closed

abbrev pub closed_file_by : Bool → FlatFile → Call → FileReply
closed_file_by true file call = flag_seen file call
closed_file_by false file call = closed_file_reply (file_call call)

abbrev pub closed_reply : SessionFile → Call → FileReply
closed_reply (OfText file) call = closed_text_by (text.is_getter (text_call call)) file (text_call call)
closed_reply (OfBinary file) call = closed_file_by (is_getter (file_call call)) file call

-- a closed session answers so, and the session, with its raw, stays as it was
pub record StaysClosed (before : SessionView) (calls : List Call) (replies : List Reply) (after : SessionView) : Type 0 where
  pub says : SayAll closed_reply (file_seen before) calls (all_said replies)
  pub file : file_seen after ≡ file_seen before
  pub raw : raw_of after ≡ raw_of before

-- Detached sessions.

abbrev pub detached_text_by : Bool → TextFile → TextFileCall → FileReply
detached_text_by true file call = (carried_out file call).0
detached_text_by false file call = Refused fault.Detached

abbrev pub detached_file_by : Bool → FlatFile → Call → FileReply
detached_file_by true file call = flag_seen file call
detached_file_by false file call = Refused (detached_fault (file_call call))

-- what a detached session answers: the questions as ever, all else is refused
abbrev pub detached_reply : SessionFile → Call → FileReply
detached_reply (OfText file) call = detached_text_by (text.is_getter (text_call call)) file (text_call call)
detached_reply (OfBinary file) call = detached_file_by (is_getter (file_call call)) file call

-- a detached file answers so, and stays as it was, its bytes and its place too
pub record FileStaysDetached (before : SessionFile) (entries : List Entry) (after : SessionFile) : Type 0 where
  pub says : SayAll detached_reply before (calls_of entries) (all_said (replies_of entries))
  pub same : after ≡ before

-- a detached session answers so, and its file, with its raw, stays as it was
pub record StaysDetached (before : SessionView) (calls : List Call) (replies : List Reply) (after : SessionView) : Type 0 where
  pub says : SayAll detached_reply (file_seen before) calls (all_said replies)
  pub file : file_seen after ≡ file_seen before
  pub raw : raw_of after ≡ raw_of before
