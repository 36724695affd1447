-- The one contract of buffered streams for the layer above them: what such a stream shows, over a raw stream or in memory, and what a
-- call of it may answer and leave.
use Rattle.std.specs.Prelude.{◌≡◌, ◌≢◌, ℕ, ◌+◌, ◌-◌, ◌≤◌, nat_le, ℤ, pos, suc, zero, Bool, true, false, ◌&&◌, IsTrue, List, [], length, take, max, Option, Some, None, Result, Ok, Err, if◌then◌else◌}
use Rattle.py_flat.specs.declared.fault.IoFault.{IoFault}
use Rattle.py_flat.specs.declared.fault.IoFault.TheVariants as fault
use Rattle.py_flat.specs.declared.life.Life.{Life}
use Rattle.py_flat.specs.declared.life.Life.TheVariants as life
use Rattle.py_flat.specs.Limits.{greatest_place}
use Rattle.py_flat.specs.Bytes.{lay}
use Rattle.py_flat.specs.Owed.{Owed}
use Rattle.py_flat.specs.Causes.{Rose, rose, counted}
use Rattle.py_flat.specs.FlatFile.{Abilities, Buffering, Buffered, FlatFile}
use Rattle.py_flat.specs.Calls.{FileCall, Read1, Write, WriteLines, Seek, Tell, Truncate, Flush, Close, FileReply, Bytes, Place, Done, Refused}
use Rattle.py_flat.specs.Refusals.{refusal, life_refusal, is_close, lacks, or_else, refused_if, moved_by, target_refusal}
use Rattle.py_flat.specs.ExactStep.{is_closed}
use Rattle.py_flat.specs.BinaryStep.{asks_end, is_live, payload, BinaryStep}
use Rattle.py_raw.specs.RawStream.{Raw, tells, Keeps, StaysOpen, WherePlace, KeepsBytes, KeepsReads, AnswersFor, NoFault, NoWait}
use Rattle.py_stream.specs.Stream.{Stream, buffering_of, nothing_owed, nothing_held}
use Rattle.py_stream.specs.Kinds.{is_reading, is_writing, is_single, has_room, outlasts, says_fault, says_no_memory}
use Rattle.py_stream.specs.Writing.{OwesUpTo, OwesBehind, OwesWithin, OwesBoth, Takes, PassesFront, PassedOn, HasJust, LaysFrontOf, BlocksFull, TookOwn}
use Rattle.py_stream.specs.Answers.{ClosedWith, parts_at_close, stands_behind, IsAnswerTo, IsReplyTo, IsShort, LifeMoves, PlaceMoves, AtMostOne, ReadsOnce, PassesFirst, CameByReads, SparesBytes, Within, UnlessStopped}

-- What a buffered stream shows: what its raw shows; where the raw stands, as the stream counts; its own place; what it can do; its life;
-- how large its buffer is, of 0 bytes in memory; whether a wait cut the last answer short; what it owes its raw; whether bytes of it are
-- lent out, so that its length has to stay; and how many bytes of the last write were taken. In memory its raw shows its own bytes and
-- place, and it owes nothing
pub record Buffer : Type 0 where
  pub raw : Raw
  pub raw_place : ℕ
  pub place : ℕ
  pub can : Abilities
  pub life : Life
  pub buffering : Buffering
  pub short : Bool
  pub owed : Owed
  pub exported : Bool
  pub taken : ℕ

-- what a stream over a raw one shows as a buffered stream, by how many bytes of its last write were taken
abbrev pub buffer_of : Stream → ℕ → Buffer
buffer_of stream taken = record {
  raw = stream.raw;
  raw_place = stream.raw_place;
  place = stream.place;
  can = stream.can;
  life = stream.life;
  buffering = buffering_of stream.buffer;
  short = stream.short;
  owed = stream.owed;
  exported = false;
  taken = taken;
}

-- where a buffered stream tells its content
abbrev pub WhereShown : Buffer → Type 0 → Type 0
WhereShown buffer Fact = IsTrue (tells buffer.raw) → Fact

-- the flat file that a buffered stream stands for: the raw's bytes, with the owed ones laid at their place
abbrev pub flat_of : Buffer → FlatFile
flat_of buffer = record {
  bytes = lay buffer.raw.bytes buffer.owed.place buffer.owed.bytes;
  place = buffer.place;
  can = buffer.can;
  buffering = buffer.buffering;
  life = buffer.life;
}

-- the size that a buffered stream shows to its own calls
abbrev pub size_shown : Buffering → Option ℕ
size_shown (Buffered size) = Some size
size_shown other = Some 0

-- What refuses a call.

-- calls that may change how many bytes there are, or let go of them
abbrev pub changes_length : FileCall → Bool
changes_length (Write bytes) = true
changes_length (WriteLines lines) = true
changes_length (Truncate size) = true
changes_length Close = true
changes_length call = false

-- while bytes are lent out a call that changes their number is refused, after what the stream's life and its abilities refuse
abbrev pub refusal_lent : FlatFile → FileCall → Option IoFault
refusal_lent file call = or_else (life_refusal file call) (or_else (refused_if (lacks file call) fault.Unsupported) (Some fault.BufferError))

-- whether a call is refused as bytes are lent out, whatever the flat file would say of it
abbrev pub refused_lent : Buffer → FileCall → Bool
refused_lent buffer call = buffer.exported && changes_length call

-- a close of a closed stream is done again, and a seek from the end has to ask for it first
abbrev pub refused_here : Buffer → FileCall → Option IoFault
refused_here buffer call = if asks_end (flat_of buffer) call then None else (if refused_lent buffer call then refusal_lent (flat_of buffer) call else refusal (flat_of buffer) call)

-- What every call keeps.

-- what every call keeps of a buffered stream: what it and its raw can do, what the raw tells, what is lent out, and how the stream is
-- buffered; the raw's counts never fall
pub record KeepsBuffer (before after : Buffer) : Type 0 where
  pub raw : Keeps before.raw after.raw
  pub can : after.can ≡ before.can
  pub buffering : after.buffering ≡ before.buffering
  pub exported : after.exported ≡ before.exported

-- how many bytes of the last write were taken, after a call that moved the place from one to another: of a write as many as the place
-- moved by, so all of an answered one, those that a wait says, and none of a refused one; other calls leave it
abbrev pub taken_by : FileCall → (from to was : ℕ) → ℕ
taken_by (Write bytes) from to was = to - from
taken_by call from to was = was

-- the call leaves all as it was, with this answer; of a write nothing was taken
pub record LeavesBuffer (before : Buffer) (call : FileCall) (expected reply : FileReply) (after : Buffer) : Type 0 where
  pub says : reply ≡ expected
  pub same : after ≡ record before { short = false; taken = taken_by call before.place before.place before.taken }

-- whether a call closes a buffered stream that is closed
abbrev pub closes_twice : Buffer → FileCall → Bool
closes_twice buffer Close = is_closed buffer.life
closes_twice buffer call = false

-- What becomes of the raw.

-- a buffered stream as one over its raw, by what it shows of itself: nothing of what it holds
abbrev pub stream_shown : Buffer → Stream
stream_shown buffer = record {
  raw = buffer.raw;
  place = buffer.place;
  raw_place = buffer.raw_place;
  can = buffer.can;
  life = buffer.life;
  buffer = size_shown buffer.buffering;
  short = buffer.short;
  owed = buffer.owed;
  held = nothing_held buffer.place;
}

-- whether a close failed to move the raw back to the place, so that the stream is closed and its raw wasn't asked to close
abbrev pub parts_when_closed : Buffer → FileCall → FileReply → Buffer → Bool
parts_when_closed before call reply after = parts_at_close (stream_shown before) call reply (stream_shown after)

-- the raw is closed exactly where the stream is
abbrev pub IsClosedWithRaw : Buffer → Type 0
IsClosedWithRaw buffer = ClosedWith buffer.life buffer.raw

-- the raw stands where the stream counts, where it tells its place
abbrev pub StandsAsCounted : Buffer → Type 0
StandsAsCounted buffer = WherePlace buffer.raw (buffer.raw.place ≡ buffer.raw_place)

-- Causes.

-- a short answer comes only where the waits rose in this call, RawFault only where the faults did
pub record BufferHasCauses (before : Buffer) (reply : FileReply) (after : Buffer) : Type 0 where
  pub waits : IsTrue after.short → Rose before.raw.waits after.raw.waits
  pub faults : IsTrue (says_fault reply) → Rose before.raw.faults after.raw.faults

-- where the counts are exact: each fault is answered, and each wait ends the call, but of a write, which may have room for what is left
pub record BufferIsCounted (before : Buffer) (call : FileCall) (reply : FileReply) (after : Buffer) : Type 0 where
  pub faults : says_fault reply ≡ false → after.raw.faults ≡ before.raw.faults
  pub waits : after.short ≡ false → outlasts (size_shown before.buffering) call ≡ false → after.raw.waits ≡ before.raw.waits
  pub once : IsTrue after.short → outlasts (size_shown before.buffering) call ≡ false → after.raw.waits ≡ counted before.raw.waits 1

-- Life and place.

-- what a `read1` asks for: its size; without one as much as the buffer holds, and in memory all
abbrev pub asks_for : Buffering → FileCall → Option ℕ
asks_for (Buffered size) (Read1 None) = Some size
asks_for buffering (Read1 size) = size
asks_for buffering call = None

-- no more is given than is asked for
abbrev pub GivesAsked : Buffering → FileCall → FileReply → Type 0
GivesAsked buffering (Read1 size) (Bytes part) = Within (asks_for buffering (Read1 size)) part
GivesAsked buffering call reply = Unit {0}

-- life and place of a buffered stream after a call, and that no more is given than was asked for
pub record BufferMoves (before : Buffer) (call : FileCall) (reply : FileReply) (after : Buffer) : Type 0 where
  pub life_is : LifeMoves (size_shown before.buffering) call reply before.life after.life
  pub place : PlaceMoves (size_shown before.buffering) call reply after.life before.place after.place
  pub far : after.place ≤ greatest_place
  pub within : GivesAsked before.buffering call reply

-- a refusal after the end was asked leaves the place, the life and what is owed
pub record RefusesTarget (before : Buffer) (why : IoFault) (reply : FileReply) (after : Buffer) : Type 0 where
  pub says : reply ≡ Refused why
  pub place : after.place ≡ before.place
  pub life_is : after.life ≡ before.life
  pub owed : after.owed ≡ before.owed
  pub whole : after.short ≡ false

-- a seek whose end was answered goes to its target, or is refused
abbrev pub GoesFromEnd : Buffer → Option ℕ → Option IoFault → FileReply → Buffer → Type 0
GoesFromEnd before (Some target) None reply after = reply ≡ Place target
GoesFromEnd before target (Some why) reply after = RefusesTarget before why reply after
GoesFromEnd before None None reply after = ⊥

-- an accepted seek from the end goes by some end that was answered, or that of what is owed, where this is later; told, that of the flat
-- bytes
pub record BufferSeeksFromEnd (before : Buffer) (offset : ℤ) (reply : FileReply) (after : Buffer) : Type 0 where
  pub end : ℕ
  pub within : end ≤ greatest_place
  pub owed : OwesWithin before.owed end
  pub told : WhereShown before (end ≡ length (flat_of before).bytes)
  pub target : GoesFromEnd before (moved_by end offset) (target_refusal (moved_by end offset)) reply after

-- an accepted seek from the end goes by the end that was answered, unless asking for it failed; of other calls nothing
abbrev pub BufferSeeksByEnd : Buffer → FileCall → FileReply → Buffer → Type 0
BufferSeeksByEnd before (Seek offset (pos (suc (suc zero)))) reply after = asks_end (flat_of before) (Seek offset (pos 2)) ≡ true → UnlessStopped reply (BufferSeeksFromEnd before offset reply after)
BufferSeeksByEnd before call reply after = Unit {0}

-- What is owed.

-- what is owed after a write, wherever it was made, and for how many of the bytes that were owed and were taken the raw answered; where
-- nothing was owed, or what was owed ended at the place, it ends where the bytes end that were taken, which the raw has as far as they
-- aren't owed
pub record BufferOwesBoth (before : Buffer) (bytes : List ℕ) (after : Buffer) : Type 0 where
  pub both : OwesBoth (stream_shown before) bytes (stream_shown after)
  pub takes : OwesUpTo before.owed before.place → Takes (stream_shown before) bytes (stream_shown after)

-- what is owed after a write; every other call leaves the rest of what was owed, where that stood, without as many bytes as the raw
-- answered for
abbrev pub BufferOwes : Buffer → FileCall → Buffer → Type 0
BufferOwes before (Write bytes) after = BufferOwesBoth before bytes after
BufferOwes before call after = PassesFront (stream_shown before) (stream_shown after)

-- a flush that was done, and a close of a live stream, passed all on that was owed, and told, the raw has the flat bytes; after a flush of
-- a stream that writes it stands at the place, where what is owed next will begin. One that ran out of memory gave the raw just what isn't
-- owed any more
abbrev pub BufferPasses : Buffer → FileCall → FileReply → Buffer → Type 0
BufferPasses before Flush Done after = PassedOn (stream_shown before) (stream_shown after) × (before.can.writable ≡ true → OwesBehind (stream_shown after))
BufferPasses before Flush (Refused fault.NoMemory) after = HasJust (stream_shown before) (stream_shown after)
BufferPasses before Close Done after = before.life ≡ life.Live → PassedOn (stream_shown before) (stream_shown after)
BufferPasses before call reply after = Unit {0}

-- the raw's bytes after a call: those before it, with a front laid on of what was owed and what the call gives
abbrev pub BufferLays : (before : Buffer) → (own after : List ℕ) → Type 0
BufferLays before own after = LaysFrontOf before.raw.bytes before.owed before.place own after

-- a write takes a front of its bytes, whatever it answers
abbrev pub BufferTakes : FileCall → (from to : ℕ) → Type 0
BufferTakes (Write bytes) from to = (from ≤ to) × (to ≤ from + length bytes)
BufferTakes call from to = Unit {0}

-- a stream that doesn't write owes nothing
abbrev pub OwesAsItCan : Buffer → Type 0
OwesAsItCan buffer = buffer.can.writable ≡ false → buffer.owed ≡ nothing_owed buffer.place

-- the calls that the layer above makes, besides asking for the end and getters
abbrev pub is_made : FileCall → Bool
is_made (Read1 size) = true
is_made (Write bytes) = true
is_made (Seek offset whence) = true
is_made Flush = true
is_made Close = true
is_made call = false

-- One call of a buffered stream.
pub record AnswersAsBuffer (before : Buffer) (call : FileCall) (reply : FileReply) (after : Buffer) : Type 0 where
  -- what the stream can do, how it is buffered and whether bytes are lent out stays; its counts never fall
  pub keeps : KeepsBuffer before after
  -- what is refused leaves all as it was
  pub refused : (why : IoFault) → refused_here before call ≡ Some why → LeavesBuffer before call (Refused why) reply after
  -- a close of a closed stream is done, and leaves all as it was
  pub again : closes_twice before call ≡ true → LeavesBuffer before call Done reply after
  -- the raw is closed exactly where the stream is, once nothing is owed, but where a close failed to move it back
  pub shut : parts_when_closed before call reply after ≡ false → after.owed.bytes ≡ [] → IsClosedWithRaw before → IsClosedWithRaw after
  -- a close that failed to move the raw back doesn't close it
  pub parted : parts_when_closed before call reply after ≡ true → StaysOpen before.raw after.raw
  -- nor does one that leaves bytes owed
  pub unclosed : after.owed.bytes ≢ [] → StaysOpen before.raw after.raw
  -- no call but a close closes the raw of a stream whose raw is closed where it is
  pub stays : is_close call ≡ false → IsClosedWithRaw before → StaysOpen before.raw after.raw
  -- the raw of a live stream stands where the stream counts
  pub stands : after.life ≡ life.Live → StandsAsCounted after
  -- the causes of short answers and of RawFault
  pub causes : BufferHasCauses before reply after
  -- no fault and no wait goes unanswered where the counts are exact
  pub counted : IsTrue before.raw.counts_exactly → BufferIsCounted before call reply after
  -- which answers are short: those that say so
  pub shorts : IsShort call reply after.short
  -- life and place after the call
  pub moves : BufferMoves before call reply after
  -- a seek from the end goes by some end that was answered
  pub ends : BufferSeeksByEnd before call reply after
  -- a call that has its room runs out of memory only where the stream takes some
  pub wants : IsTrue (says_no_memory reply) → IsTrue (has_room call) → IsTrue before.raw.takes_memory
  -- which replies an accepted call may have
  pub answer : refused_here before call ≡ None → IsReplyTo (size_shown before.buffering) before.can.writable call reply
  -- where no count rose, an accepted call is answered in full, or runs out of memory
  pub complete : refused_here before call ≡ None → rose before.raw.waits after.raw.waits ≡ false → rose before.raw.faults after.raw.faults ≡ false → IsAnswerTo call reply × (after.short ≡ false)
  -- told, the call is the step of the model from flat file to flat file, but for one that is refused as bytes are lent out
  pub told : refused_lent before call ≡ false → WhereShown before (BinaryStep (flat_of before) call reply after.short (says_fault reply) (flat_of after))
  -- no reading moves the place past the end of the flat bytes
  pub reach : IsTrue (is_reading call) → WhereShown before (after.place ≤ max before.place (length (flat_of before).bytes))
  -- a wait hides nothing: the raw then stands at the place
  pub hides : IsTrue after.short → IsTrue (is_reading call) → after.owed.bytes ≡ [] → after.raw_place ≡ after.place
  -- what is owed after a call, and how much was passed on: exactly what the raw answered for
  pub owes : BufferOwes before call after
  -- what the raw's bytes are after a call
  pub lays : WhereShown before (BufferLays before (payload call) after.raw.bytes)
  -- a stream that doesn't write leaves the raw's bytes, and owes nothing; only its readings and seeks move the raw
  pub spares : before.can.writable ≡ false → before.owed ≡ nothing_owed before.place → SparesBytes (stream_shown before) call (stream_shown after)
  -- a write that would have blocked leaves as many bytes owed as the buffer holds, another call some
  pub full : BlocksFull call reply (stream_shown after)
  -- so a call that neither gives nor takes bytes isn't made to wait where nothing was owed
  pub unwaited : is_reading call ≡ false → is_writing call ≡ false → before.owed.bytes ≡ [] → after.short ≡ false
  -- a `read1` makes at most one transfer where nothing was owed
  pub single : IsTrue (is_single call) → before.owed.bytes ≡ [] → AtMostOne (stream_shown before) (stream_shown after)
  -- also where it passes on first what was owed it reads once at most
  pub once : IsTrue (is_single call) → ReadsOnce (stream_shown before) (stream_shown after)
  -- a reading of a stream that doesn't write, and owes nothing, moves the raw by just as many bytes as its reads brought
  pub brings : IsTrue (is_reading call) → before.can.writable ≡ false → before.owed.bytes ≡ [] → CameByReads 1 (stream_shown before) (stream_shown after)
  -- one that gives bytes, or the end, passed on first what was owed
  pub passes_first : PassesFirst (stream_shown before) call reply (stream_shown after)
  -- running out of memory fails a write only once the raw took some of its own bytes
  pub starves : IsTrue (says_no_memory reply) → IsTrue (is_writing call) → after.life ≡ life.Failed → TookOwn (stream_shown before) (stream_shown after)
  -- a write takes a front of its bytes
  pub takes : BufferTakes call before.place after.place
  -- how many bytes of the last write were taken
  pub taken : after.taken ≡ taken_by call before.place after.place before.taken
  -- what a call passes on
  pub passes : BufferPasses before call reply after
  -- where what was owed lies right before the place, and the raw stands where that begins, it stands where what is left of that begins; a
  -- reading may move it
  pub behind : OwesBehind (stream_shown before) → is_reading call ≡ false → after.owed.bytes ≢ [] → after.raw_place ≡ after.owed.place

-- Asking where the stream stands, and where it ends.

-- a call answers a place, or is refused; all is as it was
abbrev pub SaysPlace : Option IoFault → ℕ → Result ℕ IoFault → Type 0
SaysPlace (Some why) place result = result ≡ Err why
SaysPlace None place result = result ≡ Ok place

-- `tell` answers the place, which is one that a stream can have, where the stream can be moved, or is refused, and asks no raw: all is
-- as it was
pub record TellsPlace (before : Buffer) (result : Result ℕ IoFault) (after : Buffer) : Type 0 where
  pub says : SaysPlace (refusal (flat_of before) Tell) before.place result
  pub far : before.place ≤ greatest_place
  pub same : after ≡ record before { short = false }

-- the end was asked: all is as it was but for the raw, which keeps its bytes, where they are told, answered for no write, brought no byte
-- and wasn't closed; its counts rise by no wait or fault that isn't answered
pub record AsksForEnd (before after : Buffer) : Type 0 where
  pub same : after ≡ record before { raw = after.raw; short = false; life = after.life }
  pub raw : Keeps before.raw after.raw
  pub stays : StaysOpen before.raw after.raw
  pub bytes : KeepsBytes before.raw after.raw
  pub written : AnswersFor 0 before.raw after.raw
  pub reads : KeepsReads before.raw after.raw
  pub no_wait : NoWait before.raw after.raw

-- the end is that of the flat bytes, where the stream tells them, and one that a stream can have; it isn't before that of what is owed; the
-- raw of a live stream stands where the stream counts
pub record SaysEnd (before : Buffer) (end : ℕ) (after : Buffer) : Type 0 where
  pub asks : AsksForEnd before after
  pub life_is : after.life ≡ before.life
  pub within : end ≤ greatest_place
  pub owed : OwesWithin before.owed end
  pub told : WhereShown before (end ≡ length (flat_of before).bytes)
  pub stands : after.life ≡ life.Live → StandsAsCounted after
  pub no_fault : NoFault before.raw after.raw

-- asking for the end failed, which fails the stream
pub record FailsAtEnd (before after : Buffer) : Type 0 where
  pub asks : AsksForEnd before after
  pub life_is : after.life ≡ life.Failed
  pub cause : Rose before.raw.faults after.raw.faults

-- asking for the end ran out of memory, of a stream that takes some: all is as it was, and the raw of a live stream stands where the
-- stream counts
pub record StarvesAtEnd (before after : Buffer) : Type 0 where
  pub takes : IsTrue before.raw.takes_memory
  pub same : after ≡ record before { short = false }
  pub stands : after.life ≡ life.Live → StandsAsCounted after

-- an accepted `end`: the end, a fault of the raw, or out of memory, of a stream that takes some
abbrev pub EndsAt : Buffer → Result ℕ IoFault → Buffer → Type 0
EndsAt before (Ok end) after = SaysEnd before end after
EndsAt before (Err fault.RawFault) after = FailsAtEnd before after
EndsAt before (Err fault.NoMemory) after = StarvesAtEnd before after
EndsAt before (Err why) after = ⊥

abbrev pub EndsBy : Option IoFault → Buffer → Result ℕ IoFault → Buffer → Type 0
EndsBy (Some why) before result after = (result ≡ Err why) × (after ≡ record before { short = false })
EndsBy None before result after = EndsAt before result after

-- `end` answers how many bytes there are, and keeps the place; it is refused where `tell` is
abbrev pub AnswersEnd : Buffer → Result ℕ IoFault → Buffer → Type 0
AnswersEnd before result after = EndsBy (refusal (flat_of before) Tell) before result after

-- Preparing a flush, and taking back what was written.

-- the raw stands elsewhere, or where it stood: it keeps its bytes, where they are told, answered for no write, brought no byte and wasn't
-- closed, and never asked to wait; all else is as it was, but for the life
pub record MovesRawAlone (before after : Buffer) : Type 0 where
  pub same : after ≡ record before { raw = after.raw; raw_place = after.raw_place; short = false; life = after.life }
  pub raw : Keeps before.raw after.raw
  pub stays : StaysOpen before.raw after.raw
  pub bytes : KeepsBytes before.raw after.raw
  pub written : AnswersFor 0 before.raw after.raw
  pub reads : KeepsReads before.raw after.raw
  pub no_wait : NoWait before.raw after.raw

-- the raw of a stream that writes stands where what is owed begins, which ends at the place, or with nothing owed at the place; the raw of
-- one that doesn't stands where it stood
pub record IsPrepared (before after : Buffer) : Type 0 where
  pub moves : MovesRawAlone before after
  pub life_is : after.life ≡ before.life
  pub stands : StandsAsCounted before → StandsAsCounted after
  pub behind : before.can.writable ≡ true → OwesUpTo before.owed before.place → OwesBehind (stream_shown after)
  pub no_fault : NoFault before.raw after.raw

-- moving the raw failed, which fails the stream
pub record FailsPreparing (before after : Buffer) : Type 0 where
  pub moves : MovesRawAlone before after
  pub life_is : after.life ≡ life.Failed
  pub cause : Rose before.raw.faults after.raw.faults

-- an accepted preparing: done, a fault of the raw, or out of memory, of a raw that takes some, with all as it was
abbrev pub PreparesBy : Buffer → Result (Unit {0}) IoFault → Buffer → Type 0
PreparesBy before (Ok done) after = IsPrepared before after
PreparesBy before (Err fault.RawFault) after = FailsPreparing before after
PreparesBy before (Err fault.NoMemory) after = IsTrue before.raw.takes_memory × (after ≡ record before { short = false })
PreparesBy before (Err why) after = ⊥

abbrev pub PreparesUnless : Option IoFault → Buffer → Result (Unit {0}) IoFault → Buffer → Type 0
PreparesUnless (Some why) before result after = (result ≡ Err why) × (after ≡ record before { short = false })
PreparesUnless None before result after = PreparesBy before result after

-- `prepare_flush` sees to it that the raw stands where a flush begins to write; it is refused where a flush is
abbrev pub Prepares : Buffer → Result (Unit {0}) IoFault → Buffer → Type 0
Prepares before result after = PreparesUnless (refusal (flat_of before) Flush) before result after

-- whether the last n bytes that are owed can be taken back: the stream lives, what it owes lies right before its place, its raw stands where
-- that begins, and so many are owed
abbrev pub may_take_back : Buffer → ℕ → Bool
may_take_back buffer count = is_live buffer.life && (stands_behind (stream_shown buffer) && nat_le count (length buffer.owed.bytes))

-- a stream that never took the last n bytes that it owes: it stands before them
abbrev pub taken_back : ℕ → Buffer → Buffer
taken_back count buffer = record buffer { place = buffer.place - count; owed = record { bytes = take (length buffer.owed.bytes - count) buffer.owed.bytes; place = buffer.owed.place } }

-- `take_back` takes back the last n bytes that are owed, or leaves all as it is, and answers which
abbrev pub TakesBack : Buffer → ℕ → Bool → Buffer → Type 0
TakesBack before count result after = (result ≡ may_take_back before count) × (after ≡ (if result then taken_back count before else before))
