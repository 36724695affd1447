-- What a text and its buffer owe, over any raw, and whether a call closes the raw.
use Rattle.std.specs.Prelude.{◌≡◌, ◌≢◌, ◌⊎◌, ℕ, ◌+◌, ◌*◌, ◌-◌, ◌<◌, ◌≤◌, ◌||◌, ◌&&◌, nat_eq, Bool, true, false, IsTrue, List, [], ◌++◌, length, take, drop, Option, Some, None}
use Rattle.std.specs.List.{list_any}
use Rattle.py_flat.specs.declared.fault.IoFault.TheVariants as fault
use Rattle.py_flat.specs.declared.life.Life.{Life}
use Rattle.py_flat.specs.declared.life.Life.TheVariants as life
use Rattle.py_flat.specs.Bytes.{lay}
use Rattle.py_flat.specs.Limits.{greatest_place}
use Rattle.py_flat.specs.Lines.{lf, cr}
use Rattle.py_flat.specs.Calls.{FileReply, Done, Refused}
use Rattle.py_plain_text.specs.TextFile.{Front, TextPlace, TextSettings}
use Rattle.py_plain_text.specs.TextOver.{TextOver}
use Rattle.py_plain_text.specs.TextCalls.{TextFileCall, WriteText, SeekText, Close}
use Rattle.py_plain_text.specs.TextWriting.{written_bytes}
use Rattle.py_raw.specs.RawStream.{Raw, StaysOpen, AnswersFor}
use Rattle.py_stream.specs.Stream.{Stream, size_of}
use Rattle.py_stream.specs.Writing.{OwesUpTo, IsFull, TookOwn}
use Rattle.py_stream.specs.Buffer.{Buffer, WhereShown, stream_shown, IsClosedWithRaw}

-- What is owed.

-- all that is owed: what the buffer owes, and behind it what the text itself does
abbrev pub all_owed : TextOver Buffer → List ℕ
all_owed text = text.buffer.owed.bytes ++ text.owed

-- the place behind the bytes that a text itself owes, which begin where its buffer stands; without any, where that stands
abbrev pub behind_own : TextOver Buffer → ℕ
behind_own text = text.buffer.place + length text.owed

-- the byte that a text was put at last, or where it was put inside an item, the first of that
abbrev pub begins : Option Front → (at : ℕ) → ℕ
begins None at = at
begins (Some front) at = front.start

abbrev pub begins_at : TextPlace → ℕ
begins_at place = begins place.front place.at

-- what a buffer owes ends where it stands, and bytes that a text owes itself begin there; where any of both are owed the text stands
-- behind them. It stands nowhere further on, and that no further than a stream can. No more characters were taken since it was put at its
-- place than six for each byte from where that begins to where the buffer stands. And while the text lives so does its buffer
pub record JoinsAt (buffer : Buffer) (own : List ℕ) (from at taken : ℕ) (current : Life) : Type 0 where
  pub below : OwesUpTo buffer.owed buffer.place
  pub stands : ((buffer.owed.bytes ≡ []) × (own ≡ [])) ⊎ (at ≡ buffer.place + length own)
  pub behind : at ≤ buffer.place + length own
  pub far : buffer.place + length own ≤ greatest_place
  pub few : taken ≤ 6 * (buffer.place - from)
  pub lives : current ≡ life.Live → buffer.life ≡ life.Live

-- what a text and its buffer owe stands in one piece, and no live text has a buffer that doesn't live
abbrev pub IsJoined : TextOver Buffer → Type 0
IsJoined text = JoinsAt text.buffer text.owed (begins_at text.place) text.place.at text.place.taken text.life

-- of bytes that were owed the first were passed on, exactly as many as the raw answered for, and the rest is owed
pub record PassesOwed (before : Raw) (owed : List ℕ) (after : Raw) (left : List ℕ) : Type 0 where
  pub passed : ℕ
  pub most : passed ≤ length owed
  pub answered : AnswersFor passed before after
  pub rest : left ≡ drop passed owed

-- the bytes that a call gives: a write those that its text is written as
abbrev pub given_by : TextSettings → TextFileCall → List ℕ
given_by settings (WriteText text) = written_bytes settings text
given_by settings call = []

-- a write moved the text place by n bytes
abbrev pub WriteMovesBy : TextFileCall → (count from to : ℕ) → Type 0
WriteMovesBy (WriteText text) count from to = to ≡ from + count
WriteMovesBy call count from to = Unit {0}

-- no byte is lost, and none doubled, whatever a call answers: what is owed after it is what was owed before, and behind that the bytes that
-- the call gave, without as many at the front as the raw answered for. Of the call's own bytes all were taken or none, and a write moved
-- the place by them
pub record OwesOn (before : TextOver Buffer) (call : TextFileCall) (after : TextOver Buffer) : Type 0 where
  pub taken : List ℕ
  pub whole : (taken ≡ []) ⊎ (taken ≡ given_by before.settings call)
  pub place : WriteMovesBy call (length taken) before.place.at after.place.at
  pub passes : PassesOwed before.buffer.raw (all_owed before ++ taken) after.buffer.raw (all_owed after)

-- where all that is owed begins; where nothing is, the text place, where the bytes of a write would
abbrev pub all_from : TextOver Buffer → ℕ
all_from text = text.place.at - length (all_owed text)

-- some bytes are others with a front of what is owed laid on, from a place on
pub record LaysFront (bytes : List ℕ) (from : ℕ) (owed after : List ℕ) : Type 0 where
  pub count : ℕ
  pub laid : after ≡ lay bytes from (take count owed)

-- told, the raw's bytes after a call: those before it, with a front of some that were owed or given laid on where what is owed begins
abbrev pub LaysOwed : TextOver Buffer → (owed : List ℕ) → TextOver Buffer → Type 0
LaysOwed before owed after = WhereShown before.buffer (LaysFront before.buffer.raw.bytes (all_from before) owed after.buffer.raw.bytes)

-- Running out of memory.

-- whether a call puts the text at a place
abbrev pub is_seek : TextFileCall → Bool
is_seek (SeekText sought whence) = true
is_seek call = false

-- where what the text itself owes begins; without any, the text place, where the bytes of a write would
abbrev pub own_from : TextOver Buffer → ℕ
own_from text = text.place.at - length text.owed

-- what the buffer shows, of one that stands there
abbrev pub stream_from : TextOver Buffer → Stream
stream_from text = record (stream_shown text.buffer) { place = own_from text }

-- a call has bytes of the text's own to hand on: some that the text owed, or some that the call gives
abbrev pub HasOwn : TextOver Buffer → TextFileCall → Type 0
HasOwn before call = before.owed ++ given_by before.settings call ≢ []

-- whether a text has an end of a line, LF or CR: with line buffering its write is followed by a flush
abbrev pub has_line_end : List ℕ → Bool
has_line_end text = list_any (λ c. nat_eq c lf || nat_eq c cr) text

-- whether a call flushes the buffer behind what it gives
abbrev pub flushes_behind : TextSettings → TextFileCall → Bool
flushes_behind settings (WriteText text) = settings.line_buffering && has_line_end text
flushes_behind settings call = false

-- the raw took some of the n bytes that a call gave: fewer are owed
pub record TookGiven (given : ℕ) (after : TextOver Buffer) : Type 0 where
  pub fewer : length (all_owed after) < given

-- the buffer failed once the raw took some bytes of the text's own, which answered for more than the buffer owed
abbrev pub FailedWithOwn : TextOver Buffer → TextOver Buffer → Type 0
FailedWithOwn before after = (after.buffer.life ≡ life.Failed) × TookOwn (stream_from before) (stream_shown after.buffer)

-- bytes of the text's own went on: to a buffer that failed once the raw took some; or, in a call that flushes behind the n bytes that it
-- gives, the raw took some of these
abbrev pub GaveOwn : (flushes : Bool) → (given : ℕ) → TextOver Buffer → TextOver Buffer → Type 0
GaveOwn flushes given before after = FailedWithOwn before after ⊎ ((flushes ≡ true) × TookGiven given after)

-- life, settings and place stay
pub record StaysAsItWas (before after : TextOver Buffer) : Type 0 where
  pub life_is : after.life ≡ before.life
  pub settings : after.settings ≡ before.settings
  pub place : after.place ≡ before.place

-- running out of memory failed a text: its raw takes memory, the call had bytes of the text's own to hand on, and some of them went on
pub record FailsStarved (before : TextOver Buffer) (call : TextFileCall) (after : TextOver Buffer) : Type 0 where
  pub life_is : after.life ≡ life.Failed
  pub takes : IsTrue before.buffer.raw.takes_memory
  pub has : HasOwn before call
  pub gave : GaveOwn (flushes_behind before.settings call) (length (given_by before.settings call)) before after

-- running out of memory left a live text at another place, over a raw that takes memory, in a seek (`TextSeeks` says where)
pub record MovesStarved (before : TextOver Buffer) (call : TextFileCall) (after : TextOver Buffer) : Type 0 where
  pub seeks : is_seek call ≡ true
  pub takes : IsTrue before.buffer.raw.takes_memory
  pub life_is : after.life ≡ before.life
  pub settings : after.settings ≡ before.settings

-- running out of memory fails a text only over a raw that takes memory, in a call that has bytes of its own to hand on, and only once the
-- raw took some of them: of what the text had kept, whose buffer failed then; or of the bytes of the write that was to be flushed. Else it
-- leaves the text as it was, but for where a seek by a cookie that skips may leave it
abbrev pub Starves : TextOver Buffer → TextFileCall → FileReply → TextOver Buffer → Type 0
Starves before call (Refused fault.NoMemory) after = StaysAsItWas before after ⊎ (FailsStarved before call after ⊎ MovesStarved before call after)
Starves before call reply after = Unit {0}

-- A wait.

-- a wait ended a call: while the text has bytes of its own left the buffer is full of bytes that it owes, up to its place; and of a call
-- that reads nothing some bytes are owed
pub record StopsOwing (reads : Bool) (after : TextOver Buffer) : Type 0 where
  pub full : after.owed ≢ [] → IsFull after.buffer.owed after.buffer.place (size_of (stream_shown after.buffer))
  pub some : reads ≡ false → after.owed ≡ [] → after.buffer.owed.bytes ≢ []

-- What becomes of the raw.

-- whether a call may close the raw: a close that is done, or in which the raw failed
abbrev pub may_close : TextFileCall → FileReply → Bool
may_close Close Done = true
may_close Close (Refused fault.RawFault) = true
may_close call reply = false

-- the raw isn't handed back
abbrev pub StaysAttached : Buffer → Buffer → Type 0
StaysAttached before after = before.life ≢ life.Detached → after.life ≢ life.Detached

-- the raw isn't handed back and isn't closed: it is closed exactly where the buffer is, as it was
pub record KeepsOpen (before after : Buffer) : Type 0 where
  pub attached : StaysAttached before after
  pub stays : IsClosedWithRaw before → StaysOpen before.raw after.raw × IsClosedWithRaw after

-- while bytes are owed, by the buffer or by the text itself, a raw that is closed exactly where the buffer is isn't closed
abbrev pub StaysWhileOwing : Buffer → TextOver Buffer → Type 0
StaysWhileOwing before after = all_owed after ≢ [] → IsClosedWithRaw before → StaysOpen before.raw after.buffer.raw

-- a close of a live text that is done closes its buffer, and the raw with it; where the raw failed it isn't handed back
abbrev pub Closes : Life → TextFileCall → Buffer → FileReply → Buffer → Type 0
Closes current Close before Done after = current ≡ life.Live → (after.life ≡ life.Closed) × (IsClosedWithRaw before → IsTrue after.raw.closed)
Closes current Close before (Refused fault.RawFault) after = StaysAttached before after
Closes current call before reply after = Unit {0}
