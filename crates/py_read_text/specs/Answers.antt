-- The one clause of all calls of a text: what a call may answer and leave, over any buffered stream.
use Rattle.std.specs.Prelude.{◌≡◌, ◌≢◌, ℕ, zero, suc, ℤ, pos, if◌then◌else◌, ◌+◌, ◌<◌, ◌≤◌, ◌⊎◌, Bool, true, false, IsTrue, List, [], ◌∷◌, ◌++◌, length, Option, Some, None, String, Result, Ok, Err}
use Rattle.std.specs.declared.alloc.Global.{Global}
use Rattle.py_flat.specs.declared.fault.IoFault.{IoFault}
use Rattle.py_flat.specs.declared.fault.IoFault.TheVariants as fault
use Rattle.py_flat.specs.declared.life.Life.{Life}
use Rattle.py_flat.specs.declared.life.Life.TheVariants as life
use Rattle.py_flat.specs.Calls as binary
use Rattle.py_flat.specs.Calls.{FileReply, Text, Count, Cookie, Done, NotReady, Unwritten, Refused}
use Rattle.py_flat.specs.Bytes.{lay}
use Rattle.py_flat.specs.Causes.{rose, counted}
use Rattle.py_flat.specs.Limits.{greatest_place}
use Rattle.py_flat.specs.Lines.{first_line}
use Rattle.py_flat.specs.ExactStep.{is_closed}
use Rattle.py_plain.specs.declared.encoding.Encoding.{Encoding}
use Rattle.py_plain.specs.declared.encoding.Encoding.TheVariants.{Utf8, Latin1, Ascii}
use Rattle.py_plain.specs.declared.handler.Handler.{Handler}
use Rattle.py_plain.specs.declared.handler.Handler.TheVariants.{Ignore, Replace, BackslashReplace, SurrogateEscape}
use Rattle.py_plain.specs.declared.newlines.Newlines.{Newlines}
use Rattle.py_plain.specs.NewlineRule.{line_end}
use Rattle.py_codec.specs.Answers.{text_of}
use Rattle.py_plain_text.specs.TextFile.{TextPlace, clean_at, TextSettings, TextFile}
use Rattle.py_plain_text.specs.TextOver.{TextOver, text_file_of}
use Rattle.py_plain_text.specs.TextStep.{asks_any, place_taking}
use Rattle.py_plain_text.specs.declared.text_cookie.TextIOCookie.{TextIOCookie}
use Rattle.py_plain_text.specs.Cookie as cookie
use Rattle.py_plain_text.specs.CookieView.{cookie_shown}
use Rattle.py_plain_text.specs.Landing.{start_of, fed_by, skips, start_place, place_inside}
use Rattle.py_plain_text.specs.TextCalls.{TextFileCall, Read, ReadLine, WriteText, SeekText, Tell, Reconfigure, SetChunkSize, Flush, Close, Detach, OtherKind, changed}
use Rattle.py_plain_text.specs.TextRefusals.{refusal}
use Rattle.py_plain_text.specs.TextAllowed.{TextFileStep}
use Rattle.py_plain_text.specs.TextWriting.{written_bytes}
use Rattle.py_raw.specs.RawStream.{StaysOpen, KeepsBytes, AnswersFor}
use Rattle.py_stream.specs.Stream.{nothing_owed}
use Rattle.py_stream.specs.Kinds.{says_fault, says_no_memory}
use Rattle.py_stream.specs.Answers.{HasCauses}
use Rattle.py_stream.specs.Buffer.{Buffer, WhereShown, flat_of, KeepsBuffer, IsClosedWithRaw, parts_when_closed, AnswersAsBuffer, StandsAsCounted}
use Rattle.py_read_text.specs.TextState.{TextState, file_of}
use Rattle.py_read_text.specs.Waiting.{ShowsAll}
use Rattle.py_read_text.specs.Ahead.{ReadsNoFurther, ReadsOn}
use Rattle.py_read_text.specs.Owing.{all_owed, behind_own, begins_at, IsJoined, given_by, OwesOn, LaysOwed, Starves, has_line_end, flushes_behind, StopsOwing, KeepsOpen, StaysWhileOwing, may_close, Closes}

-- what the answer of a reading says, in the model's words
abbrev pub text_reply : Result (Option (String Global)) IoFault → FileReply
text_reply (Ok (Some text)) = Text (text_of text)
text_reply (Ok None) = NotReady
text_reply (Err why) = Refused why

-- what the answer of a tell says: a cookie as its bytes
abbrev pub cookie_reply : Result TextIOCookie IoFault → FileReply
cookie_reply (Ok told) = Cookie (cookie.cookie_bytes (cookie_shown told))
cookie_reply (Err why) = Refused why

-- Kinds of calls.

-- what refuses a call before the buffer is asked for anything: a seek to the end isn't refused by where that is, which has to be asked for
abbrev pub refused_here : TextFile → TextFileCall → Option IoFault
refused_here file (SeekText sought whence) = refusal (record file { bytes = [] }) (SeekText sought whence)
refused_here file call = refusal file call

-- whether a call gives characters
abbrev pub gives_text : TextFileCall → Bool
gives_text (Read size) = true
gives_text (ReadLine limit) = true
gives_text call = false

-- whether a call may read its buffer: it gives characters, or is a seek, whose cookie may feed bytes
abbrev pub may_read : TextFileCall → Bool
may_read (SeekText sought whence) = true
may_read call = gives_text call

-- whether a call calls no buffer: it asks for no character, only tells where the text stands, only changes settings, or is one that texts
-- don't have
abbrev pub calls_nothing : TextFileCall → Bool
calls_nothing (Read (Some zero)) = true
calls_nothing (ReadLine (Some zero)) = true
calls_nothing Tell = true
calls_nothing (Reconfigure changes) = true
calls_nothing (SetChunkSize size) = true
calls_nothing OtherKind = true
calls_nothing call = false

-- whether a call hands the buffer bytes that the text took from its callers: a write, and each call of a text that owes some
abbrev pub passes_on : (owed : List ℕ) → TextFileCall → Bool
passes_on owed (WriteText text) = true
passes_on [] call = false
passes_on (byte ∷ more) call = true

-- Which replies there are.

-- the replies that an accepted call may have where nothing waits or fails; running out of memory is free
abbrev pub IsAnswerTo : TextFileCall → FileReply → Type 0
IsAnswerTo (Read size) (Text characters) = Unit {0}
IsAnswerTo (Read size) (Refused (fault.UnicodeDecodeError start end)) = Unit {0}
IsAnswerTo (ReadLine limit) (Text characters) = Unit {0}
IsAnswerTo (ReadLine limit) (Refused (fault.UnicodeDecodeError start end)) = Unit {0}
IsAnswerTo (WriteText text) (Count count) = count ≡ length text
IsAnswerTo (SeekText sought whence) (Cookie bytes) = Unit {0}
IsAnswerTo (SeekText sought whence) (Refused fault.CannotRestore) = Unit {0}
IsAnswerTo Tell (Cookie bytes) = Unit {0}
IsAnswerTo Tell reply = ⊥
IsAnswerTo (Reconfigure changes) reply = reply ≡ Done
IsAnswerTo (SetChunkSize size) reply = reply ≡ Done
IsAnswerTo Flush Done = Unit {0}
IsAnswerTo Close Done = Unit {0}
IsAnswerTo Detach (Unwritten bytes place) = Unit {0}
IsAnswerTo call (Refused fault.NoMemory) = Unit {0}
IsAnswerTo call reply = ⊥

-- the replies that an accepted call may have at all: one that passes on what was written has to wait only over a buffer that writes, and
-- then a flush, a close and a detaching count 0 bytes as taken
abbrev pub IsReplyTo : Bool → TextFileCall → FileReply → Type 0
IsReplyTo writes Tell reply = IsAnswerTo Tell reply
IsReplyTo writes (Reconfigure changes) reply = reply ≡ Done
IsReplyTo writes (SetChunkSize size) reply = reply ≡ Done
IsReplyTo writes (Read size) NotReady = Unit {0}
IsReplyTo writes (ReadLine limit) NotReady = Unit {0}
IsReplyTo writes (WriteText text) (Refused (fault.WouldBlock taken)) = IsTrue writes
IsReplyTo writes (SeekText sought whence) (Refused (fault.WouldBlock taken)) = taken ≡ 0
IsReplyTo writes Flush (Refused (fault.WouldBlock taken)) = IsTrue writes × (taken ≡ 0)
IsReplyTo writes Close (Refused (fault.WouldBlock taken)) = IsTrue writes × (taken ≡ 0)
IsReplyTo writes Detach (Refused (fault.WouldBlock taken)) = IsTrue writes × (taken ≡ 0)
IsReplyTo writes call (Refused fault.RawFault) = Unit {0}
IsReplyTo writes call reply = IsAnswerTo call reply

-- an accepted call in which no count rose is answered so, and whole
pub record IsComplete (call : TextFileCall) (reply : FileReply) (short : Bool) : Type 0 where
  pub answer : IsAnswerTo call reply
  pub whole : short ≡ false

-- what is short: some characters, never none; and each reply that says by itself that the raw would have blocked, always
abbrev pub IsShort : FileReply → Bool → Type 0
IsShort (Text characters) true = characters ≢ []
IsShort NotReady short = short ≡ true
IsShort (Refused (fault.WouldBlock taken)) short = short ≡ true
IsShort reply short = short ≡ false

-- Life, settings and place, whether the raw tells or not.

abbrev pub life_after : TextFileCall → FileReply → Life → Life
life_after Close Done current = life.Closed
life_after Close (Refused fault.RawFault) current = life.Closed
life_after Detach (Unwritten bytes place) current = life.Detached
life_after call (Refused fault.RawFault) current = life.Failed
life_after call reply current = current

-- the life after a call: running out of memory leaves it, or fails a text that is written
abbrev pub LifeMoves : (writes : Bool) → TextFileCall → FileReply → Life → Life → Type 0
LifeMoves writes call (Refused fault.NoMemory) before after = (after ≡ before) ⊎ ((writes ≡ true) × (after ≡ life.Failed))
LifeMoves writes call reply before after = after ≡ life_after call reply before

abbrev pub settings_after : TextFileCall → FileReply → TextSettings → TextSettings
settings_after (Reconfigure changes) Done settings = changed settings changes
settings_after (SetChunkSize size) Done settings = record settings { chunk_size = size }
settings_after call reply settings = settings

-- a whole read of all goes to where the buffer ends, clean
pub record GoesToEnd (before : TextPlace) (end : ℕ) (after : TextPlace) : Type 0 where
  pub clean : after ≡ clean_at end before.order
  pub forth : before.at ≤ end

-- n characters were taken, no more than asked for
pub record TakesText (size : Option ℕ) (characters : List ℕ) (dirty : Bool) (before after : TextPlace) : Type 0 where
  pub taken : after ≡ place_taking before (length characters) dirty
  pub within : (limit : ℕ) → size ≡ Some limit → length characters ≤ limit

-- the place after each reply of a call that writes nothing and isn't a seek; a fault leaves it
abbrev pub PlaceMoves : TextFileCall → Bool → FileReply → TextPlace → ℕ → TextPlace → Type 0
PlaceMoves (Read None) false (Text characters) before end after = GoesToEnd before end after
PlaceMoves (Read size) true (Text characters) before end after = TakesText size characters true before after
PlaceMoves (Read size) false (Text characters) before end after = TakesText size characters (asks_any size) before after
PlaceMoves (ReadLine limit) true (Text characters) before end after = TakesText limit characters true before after
PlaceMoves (ReadLine limit) false (Text characters) before end after = TakesText limit characters (asks_any limit) before after
PlaceMoves (WriteText text) short reply before end after = Unit {0}
PlaceMoves (SeekText sought whence) short reply before end after = Unit {0}
PlaceMoves call short reply before end after = after ≡ before

-- a place n bytes further on
abbrev pub further : TextPlace → ℕ → TextPlace
further place count = record place { at = place.at + count }

-- told, the bytes that a text stands for: those of its raw, with all that is owed laid on
abbrev pub bytes_of : TextOver Buffer → List ℕ
bytes_of text = (text_file_of flat_of text).bytes

-- the text took all bytes of a write, and stands behind them. Told, none is lost: they lie where it stood, in the raw or among what is owed
pub record TookWritten (written : List ℕ) (before after : TextOver Buffer) : Type 0 where
  pub place : after.place ≡ further before.place (length written)
  pub bytes : WhereShown before.buffer (bytes_of after ≡ lay (bytes_of before) before.place.at written)

-- the buffer was read ahead of a text that is written, and didn't go back to it: nothing of the write was taken
pub record StaysAhead (before after : TextOver Buffer) : Type 0 where
  pub ahead : behind_own before ≢ before.place.at
  pub still : behind_own after ≡ behind_own before
  pub place : after.place ≡ before.place
  pub bytes : WhereShown before.buffer (bytes_of after ≡ bytes_of before)

-- the raw failed in a write: the text took all its bytes, or stands as it did, where its buffer had to go back first and failed to
abbrev pub FaultMoves : List ℕ → TextOver Buffer → TextOver Buffer → Type 0
FaultMoves written before after = TookWritten written before after ⊎ StaysAhead before after

-- a write ran out of memory: the text lives on and stands as it did, or failed and took all its bytes
abbrev pub MemoryMoves : List ℕ → TextOver Buffer → TextOver Buffer → Type 0
MemoryMoves written before after = ((after.life ≡ before.life) × (after.place ≡ before.place)) ⊎ ((after.life ≡ life.Failed) × TookWritten written before after)

-- the place after a write: behind all its bytes, also where the raw would have blocked, and where what failed took them, which are all there
-- then
abbrev pub WriteMoves : TextOver Buffer → TextFileCall → FileReply → TextOver Buffer → Type 0
WriteMoves before (WriteText text) (Count count) after = after.place ≡ further before.place (length (written_bytes before.settings text))
WriteMoves before (WriteText text) (Refused (fault.WouldBlock taken)) after = (taken ≡ length (written_bytes before.settings text)) × (after.place ≡ further before.place taken)
WriteMoves before (WriteText text) (Refused fault.RawFault) after = FaultMoves (written_bytes before.settings text) before after
WriteMoves before (WriteText text) (Refused fault.NoMemory) after = MemoryMoves (written_bytes before.settings text) before after
WriteMoves before (WriteText text) reply after = after.place ≡ before.place
WriteMoves before call reply after = Unit {0}

-- a line that is given, whole or short, is one: no line end stands in it but at its end, and it goes no further than the limit
abbrev pub ReadsOneLine : Newlines → TextFileCall → FileReply → Type 0
ReadsOneLine newline (ReadLine limit) (Text characters) = first_line (line_end newline) limit characters ≡ characters
ReadsOneLine newline call reply = Unit {0}

-- what a call moves
pub record TextMoves (before : TextState) (call : TextFileCall) (reply : FileReply) (after : TextState) : Type 0 where
  pub settings : after.text.settings ≡ settings_after call reply before.text.settings
  pub life_is : LifeMoves before.text.buffer.can.writable call reply before.text.life after.text.life
  pub place : PlaceMoves call after.short reply before.text.place after.text.buffer.place after.text.place
  pub written : WriteMoves before.text call reply after.text

-- What a refused range says.

-- whether a handler may refuse bytes in an encoding: `ignore`, `replace` and `backslashreplace` refuse none, `surrogateescape` none in UTF-8
-- and ASCII, and no handler any in ISO 8859-1, which has a character for each byte
abbrev pub may_refuse : Encoding → Handler → Bool
may_refuse encoding Ignore = false
may_refuse encoding Replace = false
may_refuse encoding BackslashReplace = false
may_refuse Latin1 handler = false
may_refuse Utf8 SurrogateEscape = false
may_refuse Ascii SurrogateEscape = false
may_refuse encoding handler = true

-- a refused range: some character was asked for; the handler may refuse bytes in the encoding; and the range has bytes, from the byte of the
-- text place on, that were taken from the buffer
pub record BlamesTaken (size : Option ℕ) (settings : TextSettings) (place : TextPlace) (start end far : ℕ) : Type 0 where
  pub asks : asks_any size ≡ true
  pub refuses : may_refuse settings.encoding settings.handler ≡ true
  pub forth : place.at ≤ start
  pub some : start < end
  pub within : end ≤ far

-- which range a reading may refuse, whether the raw tells or not, by the settings and by where the buffer stands then
abbrev pub TextBlames : TextFileCall → FileReply → TextSettings → TextPlace → (far : ℕ) → Type 0
TextBlames (Read size) (Refused (fault.UnicodeDecodeError start end)) settings place far = BlamesTaken size settings place start end far
TextBlames (ReadLine limit) (Refused (fault.UnicodeDecodeError start end)) settings place far = BlamesTaken limit settings place start end far
TextBlames call reply settings place far = Unit {0}

-- Where a text tells that it stands.

-- bytes that are a cookie, which can be built: it begins at no byte before that which the text was put at last, or the item that it was put
-- inside, and feeds at most four bytes, none past what was taken from the buffer, or past what the text owes itself
pub record TellsWithin (bytes : List ℕ) (text : TextOver Buffer) : Type 0 where
  pub told : cookie.Cookie
  pub bytes_are : cookie.parsed bytes ≡ Some told
  pub builds : cookie.is_buildable told ≡ true
  pub forth : begins_at text.place ≤ start_of told
  pub within : start_of told + fed_by told ≤ behind_own text
  pub few : fed_by told ≤ 4

-- where a text tells that it stands, whether the raw tells or not
abbrev pub TextTells : TextFileCall → FileReply → TextOver Buffer → Type 0
TextTells Tell (Cookie bytes) text = TellsWithin bytes text
TextTells call reply text = Unit {0}

-- Where a text is put.

-- the cookie that a seek goes by: the one given, one that tells where the text stands, or that of an end that was answered
abbrev pub SeeksBy : TextOver Buffer → (sought : List ℕ) → (whence : ℤ) → cookie.Cookie → Type 0
SeeksBy text sought (pos (suc zero)) goal = TellsWithin (cookie.cookie_bytes goal) text
SeeksBy text sought (pos (suc (suc zero))) goal = (end : ℕ) × (end ≤ greatest_place) × (goal ≡ cookie.boundary_cookie end 0)
SeeksBy text sought whence goal = goal ≡ cookie.cookie_of sought

-- where a cookie skips, it feeds one to four bytes, of a buffer that can be read
abbrev pub FeedsWhereSkips : Buffer → cookie.Cookie → Type 0
FeedsWhereSkips buffer goal = IsTrue (skips goal) → (buffer.can.readable ≡ true) × (1 ≤ fed_by goal) × (fed_by goal ≤ 4)

-- a seek put a text where its cookie says, and answered that
pub record PutBy (before : TextOver Buffer) (sought : List ℕ) (whence : ℤ) (told : List ℕ) (after : TextPlace) : Type 0 where
  pub goal : cookie.Cookie
  pub by : SeeksBy before sought whence goal
  pub says : told ≡ cookie.cookie_bytes goal
  pub place : after ≡ (if skips goal then place_inside goal else start_place goal)
  pub inside : FeedsWhereSkips before.buffer goal

-- a seek by a cookie that skips left a text, clean, at the cookie's start
pub record PutAtStart (before : TextOver Buffer) (sought : List ℕ) (whence : ℤ) (after : TextPlace) : Type 0 where
  pub goal : cookie.Cookie
  pub by : SeeksBy before sought whence goal
  pub skips : IsTrue (skips goal)
  pub place : after ≡ start_place goal

-- where a seek leaves a text: at the place of its cookie, or as it was, where it had to wait only while something was owed; or at the start
-- of a cookie that skips, where its bytes don't fit, or where reading them had to wait, failed, or ran out of memory, also on the way back,
-- over a raw that takes memory
abbrev pub TextSeeks : TextFileCall → FileReply → TextOver Buffer → TextPlace → Type 0
TextSeeks (SeekText sought whence) (Cookie told) before after = PutBy before sought whence told after
TextSeeks (SeekText sought whence) (Refused fault.CannotRestore) before after = PutAtStart before sought whence after
TextSeeks (SeekText sought whence) (Refused (fault.WouldBlock taken)) before after = ((after ≡ before.place) × (all_owed before ≢ [])) ⊎ PutAtStart before sought whence after
TextSeeks (SeekText sought whence) (Refused fault.RawFault) before after = (after ≡ before.place) ⊎ PutAtStart before sought whence after
TextSeeks (SeekText sought whence) (Refused fault.NoMemory) before after = (after ≡ before.place) ⊎ (IsTrue before.buffer.raw.takes_memory × PutAtStart before sought whence after)
TextSeeks (SeekText sought whence) reply before after = after ≡ before.place
TextSeeks call reply before after = Unit {0}

-- The one clause of every call.

-- whether a call closes a text that is closed: Python's `close` of a closed stream does nothing
abbrev pub closes_again : Life → TextFileCall → Bool
closes_again current Close = is_closed current
closes_again current call = false

-- a call of a text that calls no raw and leaves all as it was, with this answer
pub record LeavesText (before : TextState) (expected reply : FileReply) (after : TextState) : Type 0 where
  pub says : reply ≡ expected
  pub same : after ≡ record before { short = false }

-- a wait ends the call: it is answered, but where what came by then can't be given for want of memory
pub record WaitEnds (before : TextState) (reply : FileReply) (after : TextState) : Type 0 where
  pub waits : after.short ≡ false → says_no_memory reply ≡ false → after.text.buffer.raw.waits ≡ before.text.buffer.raw.waits
  pub once : IsTrue after.short → after.text.buffer.raw.waits ≡ counted before.text.buffer.raw.waits 1
  pub most : (after.text.buffer.raw.waits ≡ before.text.buffer.raw.waits) ⊎ (after.text.buffer.raw.waits ≡ counted before.text.buffer.raw.waits 1)

-- where the counts are exact: each fault is answered, and a wait ends the call, but where it hands the buffer bytes that were written,
-- which may have room for them
pub record IsCounted (before : TextState) (call : TextFileCall) (reply : FileReply) (after : TextState) : Type 0 where
  pub faults : says_fault reply ≡ false → after.text.buffer.raw.faults ≡ before.text.buffer.raw.faults
  pub ends : passes_on before.text.owed call ≡ false → WaitEnds before reply after

-- whether the raw is closed after a close
pub record LeavesRaw (before : Buffer) (reply : FileReply) (after : Buffer) : Type 0 where
  -- exactly where the buffer is, once nothing is owed, but where the close failed to move the raw back to the buffer's place
  pub shut : parts_when_closed before binary.Close reply after ≡ false → after.owed.bytes ≡ [] → IsClosedWithRaw before → IsClosedWithRaw after
  -- and there it is as it was
  pub parted : parts_when_closed before binary.Close reply after ≡ true → StaysOpen before.raw after.raw

abbrev pub ClosesWithRaw : TextFileCall → Buffer → FileReply → Buffer → Type 0
ClosesWithRaw Close before reply after = LeavesRaw before reply after
ClosesWithRaw call before reply after = Unit {0}

-- a flush, a close and a detaching need no memory but their raw's
abbrev pub WantsMemory : TextFileCall → FileReply → Buffer → Type 0
WantsMemory Flush (Refused fault.NoMemory) buffer = IsTrue buffer.raw.takes_memory
WantsMemory Close (Refused fault.NoMemory) buffer = IsTrue buffer.raw.takes_memory
WantsMemory Detach (Refused fault.NoMemory) buffer = IsTrue buffer.raw.takes_memory
WantsMemory call reply buffer = Unit {0}

-- a buffer that can't write and owes nothing: its raw's bytes stay, its writes answered for none, and nothing is owed after
pub record SparesBytes (before after : Buffer) : Type 0 where
  pub bytes : KeepsBytes before.raw after.raw
  pub written : AnswersFor 0 before.raw after.raw
  pub owed : after.owed ≡ nothing_owed after.place

-- where a wait ended a reading nothing that was taken from the raw is held back: not by the buffer, and not by the text
pub record HidesNothing (before after : TextState) : Type 0 where
  pub empty : after.text.buffer.owed.bytes ≡ [] → after.text.buffer.raw_place ≡ after.text.buffer.place
  pub shows : WhereShown before.text.buffer (ShowsAll (file_of after) after.text.buffer.place)

-- whether a call handed the buffer back
abbrev pub hands_back : TextFileCall → FileReply → Bool
hands_back Detach (Unwritten bytes place) = true
hands_back call reply = false

-- over a buffer that doesn't write what the text itself owes stays as it was; and where its life is its buffer's, it stays so, unless that
-- was handed back
pub record KeepsTied (before : TextState) (call : TextFileCall) (reply : FileReply) (after : TextState) : Type 0 where
  pub owed : before.text.buffer.can.writable ≡ false → after.text.owed ≡ before.text.owed
  pub life_is : before.text.buffer.can.writable ≡ false → before.text.buffer.life ≡ before.text.life → hands_back call reply ≡ false → after.text.buffer.life ≡ after.text.life

-- What a text that is written keeps, and what it passes on.

-- nothing is owed any more, neither by the text nor by its buffer: so the raw's bytes are the flat ones, where it tells them
pub record IsPassedOn (state : TextState) : Type 0 where
  pub own : state.text.owed ≡ []
  pub none : state.text.buffer.owed.bytes ≡ []
  pub holds : WhereShown state.text.buffer (state.text.buffer.raw.bytes ≡ (file_of state).bytes)

-- a done close of a live text passed all on that was owed, and so did its detaching, a done flush, a seek that was answered or whose cookie
-- doesn't fit, and an answered write of a text with a line end, with line buffering
abbrev pub TextPasses : (before : TextState) → TextFileCall → FileReply → (after : TextState) → Type 0
TextPasses before Flush Done after = IsPassedOn after
TextPasses before Close Done after = before.text.life ≡ life.Live → IsPassedOn after
TextPasses before Detach (Unwritten bytes place) after = before.text.life ≡ life.Live → IsPassedOn after
TextPasses before (SeekText sought whence) (Cookie bytes) after = IsPassedOn after
TextPasses before (SeekText sought whence) (Refused fault.CannotRestore) after = IsPassedOn after
TextPasses before (WriteText text) (Count count) after = before.text.settings.line_buffering ≡ true → has_line_end text ≡ true → IsPassedOn after
TextPasses before call reply after = Unit {0}

-- a flush, a close and a detaching move the buffer just by the bytes that it took of the text's own, which begin where it stands: the place
-- behind these stays
abbrev pub MovesByOwn : TextFileCall → TextOver Buffer → TextOver Buffer → Type 0
MovesByOwn Flush before after = behind_own after ≡ behind_own before
MovesByOwn Close before after = behind_own after ≡ behind_own before
MovesByOwn Detach before after = behind_own after ≡ behind_own before
MovesByOwn call before after = Unit {0}

-- after an answered write the text itself owes fewer bytes than a chunk has, and nothing where it writes through
pub record KeepsFew (state : TextState) : Type 0 where
  pub few : length state.text.owed < state.text.settings.chunk_size
  pub none : state.text.settings.write_through ≡ true → state.text.owed ≡ []

abbrev pub TextKeeps : TextFileCall → FileReply → TextState → Type 0
TextKeeps (WriteText text) (Count count) after = KeepsFew after
TextKeeps call reply after = Unit {0}

-- bytes that were given stay with the text, behind those that it owed, and its buffer owes what it did; where it wasn't read ahead of the
-- text it is as it was
pub record HoldsBack (before : TextOver Buffer) (given : List ℕ) (after : TextOver Buffer) : Type 0 where
  pub own : after.owed ≡ before.owed ++ given
  pub rest : after.buffer.owed.bytes ≡ before.buffer.owed.bytes
  pub buffer : behind_own before ≡ before.place.at → after.buffer ≡ before.buffer

-- the buffer took all that the text owed and was given, by one write
pub record WritesAll (before : TextOver Buffer) (given : List ℕ) (after : TextOver Buffer) : Type 0 where
  pub none : after.owed ≡ []
  pub write : AnswersAsBuffer before.buffer (binary.Write (before.owed ++ given)) (Count (length (before.owed ++ given))) after.buffer

-- an answered write hands on nothing that it needn't: without write through, where what the text owes and is given is less than a chunk,
-- and no flush is to follow. Where none is to follow, and its buffer wasn't read ahead of the text, all that it does is at most one write of
-- the buffer
pub record HandsOnLittle (before : TextOver Buffer) (given : List ℕ) (flushes : Bool) (after : TextOver Buffer) : Type 0 where
  pub few : before.settings.write_through ≡ false → flushes ≡ false → length (before.owed ++ given) < before.settings.chunk_size → HoldsBack before given after
  pub once : flushes ≡ false → behind_own before ≡ before.place.at → HoldsBack before given after ⊎ WritesAll before given after

abbrev pub TextHolds : TextOver Buffer → TextFileCall → FileReply → TextOver Buffer → Type 0
TextHolds before (WriteText text) (Count count) after = HandsOnLittle before (written_bytes before.settings text) (flushes_behind before.settings (WriteText text)) after
TextHolds before call reply after = Unit {0}

-- the raw of a live buffer stands where the buffer counts
abbrev pub StandsWhileLive : Buffer → Type 0
StandsWhileLive buffer = buffer.life ≡ life.Live → StandsAsCounted buffer

-- One call of a text.
pub record Answers (before : TextState) (call : TextFileCall) (reply : FileReply) (after : TextState) : Type 0 where
  -- what the buffer and its raw can do and tell stays, and the raw's counts never fall
  pub keeps : KeepsBuffer before.text.buffer after.text.buffer
  -- what the life, an ability or an argument refuses is answered with that, and leaves all as it was
  pub refused : (why : IoFault) → refused_here (file_of before) call ≡ Some why → LeavesText before (Refused why) reply after
  -- a close of a closed text is done, and leaves all as it was
  pub again : closes_again before.text.life call ≡ true → LeavesText before Done reply after
  -- a short answer comes only where the raw's waits rose in this call, RawFault only where its faults did
  pub causes : HasCauses before.text.buffer.raw reply after.text.buffer.raw after.short
  -- no fault goes unanswered, and a wait ends the call, over a raw that counts exactly
  pub counted : IsTrue before.text.buffer.raw.counts_exactly → IsCounted before call reply after
  -- which answers are short
  pub shorts : IsShort reply after.short
  -- a reading of no characters, a change of settings and a call that texts lack leave the buffer and its raw as they were
  pub nothing : calls_nothing call ≡ true → after.text.buffer ≡ before.text.buffer
  -- life, settings and place after the call
  pub moves : TextMoves before call reply after
  -- what a line is that is given
  pub lines : ReadsOneLine before.text.settings.newline call reply
  -- which range may be refused, and by which handlers any
  pub blames : TextBlames call reply before.text.settings before.text.place after.text.buffer.place
  -- where a text tells that it stands: no earlier than the byte that it was put at last, or the first of the item that it was put inside, and
  -- no further than what was taken from the buffer, or than what it owes itself, by a cookie that feeds at most four bytes
  pub tells : TextTells call reply before.text
  -- where a seek puts a text
  pub seeks : TextSeeks call reply before.text after.text.place
  -- what the buffer owes and what the text itself does stand one behind the other, how many characters were taken is bounded by where the
  -- buffer stands, and a live text's buffer lives
  pub joined : IsJoined after.text
  -- no byte is lost and none doubled: what is owed is what was and what the call gave, without what the raw answered for
  pub owes : OwesOn before.text call after.text
  -- told, the raw has a front then of what was owed and of what the call gave behind that, laid on where that begins, whatever it answers
  pub lays : LaysOwed before.text (all_owed before.text ++ given_by before.text.settings call) after.text
  -- running out of memory fails a text only over a raw that takes memory, in a call that has bytes of its own to hand on, once the raw took
  -- some of them: of what the text had kept, whose buffer failed then; or of the bytes of the write that was to be flushed
  pub starves : Starves before.text call reply after.text
  -- which replies may come of a call that isn't refused
  pub answer : refused_here (file_of before) call ≡ None → IsReplyTo before.text.buffer.can.writable call reply
  -- where no count of the raw rose, a call that isn't refused is answered in full, or ran out of memory
  pub complete : refused_here (file_of before) call ≡ None → rose before.text.buffer.raw.waits after.text.buffer.raw.waits ≡ false → rose before.text.buffer.raw.faults after.text.buffer.raw.faults ≡ false → IsComplete call reply after.short
  -- a flush, a close and a detaching need no memory but their raw's
  pub wants : WantsMemory call reply before.text.buffer
  -- a done close closes the buffer and its raw
  pub closes : Closes before.text.life call before.text.buffer reply after.text.buffer
  -- nothing else closes the raw, and no call hands the raw of the buffer back
  pub stays : may_close call reply ≡ false → KeepsOpen before.text.buffer after.text.buffer
  -- nor does a call close it that leaves bytes owed, whatever it answers
  pub unclosed : StaysWhileOwing before.text.buffer after.text
  -- a close of a text that itself owed nothing leaves the raw closed where the buffer is, and leaves it open where it failed to move it back
  pub shut : before.text.owed ≡ [] → ClosesWithRaw call before.text.buffer reply after.text.buffer
  -- a buffer that doesn't write leaves the raw's bytes, and owes nothing
  pub spares : before.text.buffer.can.writable ≡ false → before.text.buffer.owed ≡ nothing_owed before.text.buffer.place → SparesBytes before.text.buffer after.text.buffer
  -- over a buffer that doesn't write what the text itself owes stays, and its life goes on to be its buffer's, as long as it has one
  pub tied : KeepsTied before call reply after
  -- the raw of a live buffer goes on to stand where the buffer counts
  pub stands : StandsWhileLive before.text.buffer → StandsWhileLive after.text.buffer
  -- where the raw tells, the call is a step of the model
  pub told : WhereShown before.text.buffer (TextFileStep (file_of before) call reply after.short (says_fault reply) (file_of after))
  -- a reading brings its buffer no further than a chunk that it needed
  pub needs : gives_text call ≡ true → ReadsNoFurther before call after
  -- and over a buffer that doesn't write it brings in all just the bytes that it moves forth by, whether the raw tells its bytes or not
  pub brings : gives_text call ≡ true → ReadsOn before.text.buffer after.text.buffer
  -- a wait hides nothing, where the text itself owes nothing
  pub hides : IsTrue after.short → gives_text call ≡ true → after.text.owed ≡ [] → HidesNothing before after
  -- what a wait leaves that ended a call which hands bytes on
  pub stops : IsTrue after.short → StopsOwing (may_read call) after.text
  -- what a call passed on
  pub passes : TextPasses before call reply after
  -- how far a call that gives and takes no characters moves the buffer
  pub by_own : MovesByOwn call before.text after.text
  -- how little an answered write leaves with the text
  pub kept : TextKeeps call reply after
  -- which answered writes hand on nothing, and which by one write of the buffer
  pub holds : TextHolds before.text call reply after.text
