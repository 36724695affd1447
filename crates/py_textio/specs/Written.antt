-- A text that is written: what it owes its buffer, and the steps of its calls.
use Rattle.std.specs.Prelude.{◌≡◌, ◌≢◌, ℕ, ◌+◌, ◌-◌, ◌<◌, ◌≤◌, ◌⊎◌, pos, Bool, true, false, IsTrue, List, [], ◌∷◌, ◌++◌, length, take, Option, Some, None, unwrap_or, Result, Ok, Err}
use Rattle.py_flat.specs.declared.fault.IoFault.{IoFault}
use Rattle.py_flat.specs.declared.fault.IoFault.TheVariants as fault
use Rattle.py_flat.specs.declared.life.Life.{Life}
use Rattle.py_flat.specs.declared.life.Life.TheVariants as life
use Rattle.py_flat.specs.Bytes.{lay}
use Rattle.py_flat.specs.Limits.{greatest_place}
use Rattle.py_flat.specs.Calls.{FileReply, Count, NotReady, Write, Flush, Refused}
use Rattle.py_flat.specs.Causes.{Rose}
use Rattle.py_plain.specs.Units.{Unknown}
use Rattle.py_plain_text.specs.TextFile.{TextPlace, TextFile, clean_at}
use Rattle.py_plain_text.specs.TextOver.{TextOver}
use Rattle.py_plain_text.specs.declared.text_cookie.TextIOCookie.{TextIOCookie}
use Rattle.py_plain_text.specs.Cookie.{cookie_bytes, is_buildable}
use Rattle.py_plain_text.specs.CookieView.{cookie_shown}
use Rattle.py_plain_text.specs.Landing.{start_of}
use Rattle.py_plain_text.specs.Telling.{told}
use Rattle.py_plain_text.specs.TextWriting.{writes_texts}
use Rattle.py_raw.specs.RawStream.{AnswersFor}
use Rattle.py_stream.specs.Stream.{size_of}
use Rattle.py_stream.specs.Writing.{IsFull, OwesBehind}
use Rattle.py_stream.specs.Buffer.{Buffer, WhereShown, flat_of, size_shown, stream_shown, AnswersAsBuffer, KeepsBuffer, taken_back}
use Rattle.py_read_text.specs.TextState.{TextState, file_of}
use Rattle.py_read_text.specs.Knowing.{TextView, place_of, over_of as read_of, IsClean}
use Rattle.py_read_text.specs.Writing.{LeavesFlat}
use Rattle.py_read_text.specs.Owing.{all_owed, behind_own, IsJoined, PassesOwed, LaysOwed, FailedWithOwn, TookGiven, GaveOwn, StopsOwing, KeepsOpen}
use Rattle.py_read_text.specs.Answers.{further, StandsWhileLive, IsPassedOn, KeepsFew, TellsWithin}

-- the text that reads; the bytes that were written and that its buffer hasn't, with room for more; and its life
pub record WrittenView : Type 0 where
  pub text : TextView
  pub pending : List ℕ
  pub room : ℕ
  pub life : Life

-- the place of a text behind the bytes that it owes its buffer, which begin where the buffer stands
abbrev pub behind_owed : TextPlace → List ℕ → TextPlace
behind_owed place [] = place
behind_owed place (byte ∷ more) = further place (length (byte ∷ more))

abbrev pub place_now : WrittenView → TextPlace
place_now view = behind_owed (place_of view.text) view.pending

-- what a text is seen as, by its parts
abbrev pub over_of : WrittenView → TextOver Buffer
over_of view = record { buffer = view.text.buffer; owed = view.pending; place = place_now view; settings = view.text.settings; life = view.life }

abbrev pub state_of : WrittenView → Bool → TextState
state_of view short = record { text = over_of view; short = short }

-- the text that it stands for
abbrev pub file_now : WrittenView → TextFile
file_now view = file_of (state_of view false)

-- a text that owes bytes stands, clean and behind no item, where its buffer stands
abbrev pub StandsToWrite : TextView → Type 0
StandsToWrite text = IsClean text × (text.at ≡ text.buffer.place) × (text.front ≡ None)

-- what holds of every text: no bytes of its buffer are lent out, and its chunks have some; where no character was asked for none was taken,
-- and it stands behind no item; its handler is one of those that texts are written with, where it writes; while it lives so does its buffer;
-- what it owes begins where the buffer stands, behind what that owes, and ends no further than a stream can; over a buffer that doesn't write
-- it owes nothing, and its life is its buffer's
pub record IsWritten (text : TextView) (pending : List ℕ) (current : Life) : Type 0 where
  pub kept : text.buffer.exported ≡ false
  pub asks : 0 < text.settings.chunk_size
  pub clean : text.dirty ≡ false → (text.taken ≡ 0) × (text.front ≡ None)
  pub handler : text.buffer.can.writable ≡ true → writes_texts text.settings.handler ≡ true
  pub lives : current ≡ life.Live → text.buffer.life ≡ life.Live
  pub stands : (pending ≡ []) ⊎ StandsToWrite text
  pub joined : IsJoined (read_of text)
  pub far : text.buffer.place + length pending ≤ greatest_place
  pub unwritten : text.buffer.can.writable ≡ false → (pending ≡ []) × (current ≡ text.buffer.life)

-- a text that owes bytes itself has room for as many more as its buffer holds
abbrev pub HasRoom : Buffer → List ℕ → ℕ → Type 0
HasRoom buffer pending room = pending ≢ [] → unwrap_or (size_shown buffer.buffering) 0 ≤ room

-- Where a text tells that it stands: told, what the file that it stands for tells, by a cookie that can be built, says no order and begins
-- no further than a stream can stand; and within what was taken from the buffer, or what the text owes itself
pub record TellsPlace (view : WrittenView) (cookie : TextIOCookie) : Type 0 where
  pub told : WhereShown view.text.buffer (cookie_shown cookie ≡ told (file_now view))
  pub within : TellsWithin (cookie_bytes (cookie_shown cookie)) (over_of view)
  pub builds : is_buildable (cookie_shown cookie) ≡ true
  pub flags : (cookie_shown cookie).dec_flags ≡ pos 0
  pub near : start_of (cookie_shown cookie) ≤ greatest_place

-- Handing on what is owed.

-- the buffer was called: `waited` says that the raw would have blocked, `faulted` that it failed
pub record CallsBuffer (before : Buffer) (waited faulted : Bool) (after : Buffer) : Type 0 where
  pub keeps : KeepsBuffer before after
  pub wait : IsTrue waited → Rose before.raw.waits after.raw.waits
  pub fault : IsTrue faulted → Rose before.raw.faults after.raw.faults
  pub faults : IsTrue before.raw.counts_exactly → faulted ≡ false → after.raw.faults ≡ before.raw.faults
  pub stands : StandsWhileLive before → StandsWhileLive after

-- the buffer was called, and the text stays as it is: no byte is lost or doubled, and the raw isn't closed. Told, the raw has a front laid on
-- of what was owed, and of bytes that the buffer was given behind it and didn't take
pub record HandsOnBut (given : List ℕ) (old : WrittenView) (waited faulted : Bool) (new : WrittenView) : Type 0 where
  pub calls : CallsBuffer old.text.buffer waited faulted new.text.buffer
  pub bytes : WhereShown old.text.buffer ((file_now new).bytes ≡ (file_now old).bytes)
  pub place : place_now new ≡ place_now old
  pub settings : new.text.settings ≡ old.text.settings
  pub owes : PassesOwed old.text.buffer.raw (all_owed (over_of old)) new.text.buffer.raw (all_owed (over_of new))
  pub lays : LaysOwed (over_of old) (all_owed (over_of old) ++ given) (over_of new)
  pub stays : KeepsOpen old.text.buffer new.text.buffer

-- so, where no bytes were given
abbrev pub HandsOn : WrittenView → (waited faulted : Bool) → WrittenView → Type 0
HandsOn old waited faulted new = HandsOnBut [] old waited faulted new

-- the buffer took nothing: its flat bytes and its place stay, and so does what the text owes; what it owes itself it may have passed on
pub record TakesNothing (old new : WrittenView) : Type 0 where
  pub lives : new.life ≡ life.Live
  pub stands : StandsToWrite new.text
  pub pending : new.pending ≡ old.pending
  pub place : new.text.buffer.place ≡ old.text.buffer.place
  pub flat : WhereShown old.text.buffer ((flat_of new.text.buffer).bytes ≡ (flat_of old.text.buffer).bytes)
  pub owes : PassesOwed old.text.buffer.raw old.text.buffer.owed.bytes new.text.buffer.raw new.text.buffer.owed.bytes

-- a buffer is full of bytes that it owes, up to its place
abbrev pub IsStuffed : Buffer → Type 0
IsStuffed buffer = IsFull buffer.owed buffer.place (size_of (stream_shown buffer))

-- the buffer took all that the text owed by one write
abbrev pub TookPending : WrittenView → WrittenView → Type 0
TookPending old new = AnswersAsBuffer old.text.buffer (Write old.pending) (Count (length old.pending)) new.text.buffer

-- the buffer took all that the text owed; or the raw would have blocked, or failed, or memory ran out: what wasn't taken is owed still. Out
-- of memory nothing was taken, but of a text that failed with its buffer. A buffer that couldn't take all is full
abbrev pub SettleOutcome : WrittenView → Result (Unit {0}) IoFault → WrittenView → Type 0
SettleOutcome old (Ok done) new = HandsOn old false false new × (new.pending ≡ []) × (new.life ≡ life.Live) × TookPending old new
SettleOutcome old (Err (fault.WouldBlock taken)) new = HandsOn old true false new × (new.pending ≢ []) × (new.life ≡ life.Live) × (old.text.buffer.can.writable ≡ true) × IsStuffed new.text.buffer
SettleOutcome old (Err fault.RawFault) new = HandsOn old false true new × (new.life ≡ life.Failed)
SettleOutcome old (Err fault.NoMemory) new = HandsOn old false false new × IsTrue old.text.buffer.raw.takes_memory × (TakesNothing old new ⊎ ((new.life ≡ life.Failed) × (old.text.buffer.can.writable ≡ true) × FailedWithOwn (over_of old) (over_of new)))
SettleOutcome old (Err other) new = ⊥

-- what a reading answers where what is owed couldn't be handed on
abbrev pub stopped_reply : IoFault → FileReply
stopped_reply (fault.WouldBlock taken) = NotReady
stopped_reply why = Refused why

-- a refusal, which counts so many bytes as taken where the raw would have blocked
abbrev pub with_taken : IoFault → ℕ → IoFault
with_taken (fault.WouldBlock taken) count = fault.WouldBlock count
with_taken why count = why

-- Writing.

-- a text was written: its bytes are laid at the place, and the text stands behind them, whether its buffer has them or not
pub record TookText (old : WrittenView) (written : List ℕ) (waited faulted : Bool) (new : WrittenView) : Type 0 where
  pub calls : CallsBuffer old.text.buffer waited faulted new.text.buffer
  pub bytes : WhereShown old.text.buffer ((file_now new).bytes ≡ lay (file_now old).bytes (place_now old).at written)
  pub place : place_now new ≡ further (place_now old) (length written)
  pub settings : new.text.settings ≡ old.text.settings
  pub owes : PassesOwed old.text.buffer.raw (all_owed (over_of old) ++ written) new.text.buffer.raw (all_owed (over_of new))
  pub lays : LaysOwed (over_of old) (all_owed (over_of old) ++ written) (over_of new)
  pub stays : KeepsOpen old.text.buffer new.text.buffer

-- how many bytes there are, where they end no further than a stream can
abbrev pub RoomFor : WrittenView → ℕ → Option ℕ → Type 0
RoomFor view bytes (Some count) = (count ≡ bytes) × ((place_now view).at + bytes ≤ greatest_place)
RoomFor view bytes None = greatest_place < (place_now view).at + bytes

-- a text of at most so many bytes can be kept behind those that are owed, which begin where the buffer stands: with it they come to less than
-- a chunk and end no further than a stream can, and nothing is passed on at once
pub record IsKept (view : WrittenView) (most : ℕ) : Type 0 where
  pub stands : StandsToWrite view.text
  pub lines : view.text.settings.line_buffering ≡ false
  pub through : view.text.settings.write_through ≡ false
  pub few : length view.pending + most < view.text.settings.chunk_size
  pub near : (place_now view).at + most ≤ greatest_place

-- the buffer stands where what the text owes begins, and owes what it did, and the text stays as it is; a buffer that stood there is as it
-- was
pub record GoesBack (old new : WrittenView) : Type 0 where
  pub hands : HandsOn old false false new
  pub owed : new.text.buffer.owed.bytes ≡ old.text.buffer.owed.bytes
  pub answered : AnswersFor 0 old.text.buffer.raw new.text.buffer.raw
  pub raw_bytes : WhereShown old.text.buffer (new.text.buffer.raw.bytes ≡ old.text.buffer.raw.bytes)
  pub lives : new.life ≡ life.Live
  pub pending : new.pending ≡ old.pending
  pub stands : StandsToWrite new.text
  pub still : old.text.at ≡ old.text.buffer.place → new.text.buffer ≡ old.text.buffer

-- the buffer of a clean text goes back to where what is owed begins; or the raw failed, of a buffer that stood elsewhere and stands there
-- still, or memory ran out, and the text stays as it is
abbrev pub BackOutcome : WrittenView → Result (Unit {0}) IoFault → WrittenView → Type 0
BackOutcome old (Ok done) new = GoesBack old new
BackOutcome old (Err fault.RawFault) new = HandsOn old false true new × (new.life ≡ life.Failed) × (old.text.at ≢ old.text.buffer.place) × (behind_own (over_of new) ≡ behind_own (over_of old))
BackOutcome old (Err fault.NoMemory) new = HandsOn old false false new × (new.life ≡ life.Live)
BackOutcome old (Err other) new = ⊥

-- the raw was moved, if at all: all else of the text and its buffer is as it was
pub record StaysReady (old new : WrittenView) : Type 0 where
  pub hands : HandsOn old false false new
  pub leaves : LeavesFlat old.text.buffer false new.text.buffer
  pub place : new.text.buffer.place ≡ old.text.buffer.place
  pub lives : new.life ≡ life.Live
  pub pending : new.pending ≡ old.pending
  pub stands : StandsToWrite old.text → StandsToWrite new.text

-- the raw stands where what the buffer owes begins; or moving it failed, or memory ran out, and the text stays as it is
abbrev pub ReadyOutcome : WrittenView → Result (Unit {0}) IoFault → WrittenView → Type 0
ReadyOutcome old (Ok done) new = StaysReady old new × OwesBehind (stream_shown new.text.buffer)
ReadyOutcome old (Err fault.RawFault) new = HandsOn old false true new × (new.life ≡ life.Failed)
ReadyOutcome old (Err fault.NoMemory) new = StaysReady old new
ReadyOutcome old (Err other) new = ⊥

-- what a text owes without the last n bytes
abbrev pub kept_of : WrittenView → ℕ → List ℕ
kept_of view count = take (length view.pending - count) view.pending

-- the last n of the bytes that a text owed are let go of, by it or by its buffer, for want of memory: the text goes on as though they had
-- never been written
pub record LetsGo (old : WrittenView) (count : ℕ) (new : WrittenView) : Type 0 where
  pub calls : CallsBuffer old.text.buffer false false new.text.buffer
  pub lives : new.life ≡ life.Live
  pub settings : new.text.settings ≡ old.text.settings
  pub bytes : WhereShown old.text.buffer ((file_now new).bytes ≡ lay (flat_of old.text.buffer).bytes old.text.buffer.place (kept_of old count))
  pub place : place_now new ≡ clean_at (old.text.buffer.place + length (kept_of old count)) Unknown
  pub owes : PassesOwed old.text.buffer.raw (old.text.buffer.owed.bytes ++ kept_of old count) new.text.buffer.raw (all_owed (over_of new))
  pub lays : LaysOwed (over_of old) (all_owed (over_of old) ++ []) (over_of new)
  pub stays : KeepsOpen old.text.buffer new.text.buffer

-- memory ran out as the buffer passed on, and the buffer took back the last n of the bytes that it still owed
pub record GivesBack (old : WrittenView) (count : ℕ) (new : WrittenView) : Type 0 where
  pub left : Buffer
  pub flushed : AnswersAsBuffer old.text.buffer Flush (Refused fault.NoMemory) left
  pub fits : count ≤ length left.owed.bytes
  pub back : new.text.buffer ≡ taken_back count left
  pub stands : StandsToWrite new.text
  pub settings : new.text.settings ≡ old.text.settings
  pub pending : new.pending ≡ []
  pub lives : new.life ≡ life.Live

-- memory ran out as the buffer passed on, over a raw that takes some, once the raw took some of the last n bytes that were owed
pub record FailsBehind (old : WrittenView) (count : ℕ) (new : WrittenView) : Type 0 where
  pub hands : HandsOn old false false new
  pub life_is : new.life ≡ life.Failed
  pub took : TookGiven count (over_of new)
  pub takes : IsTrue old.text.buffer.raw.takes_memory

-- the buffer passed on all; or the raw would have blocked, which counts all n bytes as taken; or it failed; or memory ran out, and the
-- buffer took back the n bytes, or the text failed, as the raw took some of them
abbrev pub PassOutcome : WrittenView → (count : ℕ) → Result (Unit {0}) IoFault → WrittenView → Type 0
PassOutcome old count (Ok done) new = HandsOn old false false new × (new.life ≡ life.Live) × KeepsFew (state_of new false) × IsPassedOn (state_of new false)
PassOutcome old count (Err (fault.WouldBlock taken)) new = HandsOn old true false new × (new.life ≡ life.Live) × (taken ≡ count) × StopsOwing false (over_of new)
PassOutcome old count (Err fault.RawFault) new = HandsOn old false true new × (new.life ≡ life.Failed)
PassOutcome old count (Err fault.NoMemory) new = GivesBack old count new ⊎ FailsBehind old count new
PassOutcome old count (Err other) new = ⊥

-- running out of memory failed a text that owed bytes, over a raw that takes memory: its buffer failed once the raw took some of them, or,
-- where it was to be flushed, the raw took some of the last n
pub record FailsHanding (old : WrittenView) (count : ℕ) (flushes : Bool) (new : WrittenView) : Type 0 where
  pub hands : HandsOn old false false new
  pub life_is : new.life ≡ life.Failed
  pub some : old.pending ≢ []
  pub gave : GaveOwn flushes count (over_of old) (over_of new)
  pub takes : IsTrue old.text.buffer.raw.takes_memory

-- what is owed is handed on where it has to be, and passed on by the buffer where it is to; where memory ran out the text failed, or the n
-- bytes are let go of
abbrev pub HandOutcome : WrittenView → (count : ℕ) → (flushes : Bool) → Result (Unit {0}) IoFault → WrittenView → Type 0
HandOutcome old count flushes (Ok done) new = HandsOn old false false new × (new.life ≡ life.Live) × KeepsFew (state_of new false) × (flushes ≡ true → IsPassedOn (state_of new false))
HandOutcome old count flushes (Err (fault.WouldBlock taken)) new = HandsOn old true false new × (new.life ≡ life.Live) × (taken ≡ count) × StopsOwing false (over_of new)
HandOutcome old count flushes (Err fault.RawFault) new = HandsOn old false true new × (new.life ≡ life.Failed)
HandOutcome old count flushes (Err fault.NoMemory) new = FailsHanding old count flushes new ⊎ LetsGo old count new
HandOutcome old count flushes (Err other) new = ⊥

-- the buffer took all that is owed; or the n bytes are let go of, or the text isn't as it was
abbrev pub GivesOutcome : WrittenView → (count : ℕ) → Result (Unit {0}) IoFault → WrittenView → Type 0
GivesOutcome old count (Ok done) new = SettleOutcome old (Ok done) new
GivesOutcome old count (Err why) new = HandOutcome old count false (Err why) new

-- nothing is handed on that needn't be: without write through, of less than a chunk, and where no flush is to follow all is as it was
abbrev pub KeepsOwed : WrittenView → (flushes : Bool) → Result (Unit {0}) IoFault → WrittenView → Type 0
KeepsOwed old flushes (Ok done) new = old.text.settings.write_through ≡ false → flushes ≡ false → length old.pending < old.text.settings.chunk_size → new ≡ old
KeepsOwed old flushes (Err why) new = Unit {0}

-- where no flush is to follow nothing is handed on, or all by one write of the buffer
abbrev pub HandsOnOnce : WrittenView → (flushes : Bool) → Result (Unit {0}) IoFault → WrittenView → Type 0
HandsOnOnce old flushes (Ok done) new = flushes ≡ false → (new ≡ old) ⊎ ((new.pending ≡ []) × TookPending old new)
HandsOnOnce old flushes (Err why) new = Unit {0}
