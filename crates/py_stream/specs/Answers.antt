-- The one clause of all calls of a binary stream: what a call may answer and leave, over any raw.
use Rattle.std.specs.Prelude.{◌≡◌, ◌≢◌, ℕ, ◌+◌, ◌-◌, ◌<◌, ◌≤◌, ◌⊎◌, ℤ, pos, suc, zero, Bool, true, false, ◌&&◌, not, nat_eq, IsTrue, List, [], ◌++◌, length, take, max, Option, Some, None, IsSome, is_some, unwrap_or, if◌then◌else◌}
use Rattle.py_flat.specs.declared.fault.IoFault.{IoFault}
use Rattle.py_flat.specs.declared.fault.IoFault.TheVariants as fault
use Rattle.py_flat.specs.declared.life.Life.{Life}
use Rattle.py_flat.specs.declared.life.Life.TheVariants as life
use Rattle.py_flat.specs.Limits.{greatest_place}
use Rattle.py_flat.specs.Bytes.{first_of}
use Rattle.py_flat.specs.Lines.{Lf, first_line, lines_within, joined}
use Rattle.py_flat.specs.Causes.{Rose, rose, counted}
use Rattle.py_flat.specs.Calls.{FileCall, Read, Read1, ReadLine, ReadLines, Peek, ReadInto, ReadInto1, Write, WriteLines, Seek, Tell, Truncate, Flush, Close, Detach, FileReply, Bytes, Lines, Count, Place, Done, NotReady, Unwritten, Refused}
use Rattle.py_flat.specs.Refusals.{is_getter, is_other_getter, lets_through, lacks, refusal, moved_by, target_refusal}
use Rattle.py_flat.specs.ExactStep.{rest, is_closed}
use Rattle.py_flat.specs.BinaryStep.{asks_end, BinaryStep}
use Rattle.py_raw.specs.Reads.{after_read}
use Rattle.py_raw.specs.RawStream.{Raw, tells, Keeps, StaysOpen, WhereTold, WherePlace, WhereTransfers, KeepsBytes, AnswersFor, KeepsReads, ReadsInAll}
use Rattle.py_stream.specs.Stream.{Span, Stream, size_of, buffering_of, file_of, nothing_owed}
use Rattle.py_stream.specs.Kinds.{profile, is_reading, is_single, asks_nothing, moves_raw, reads_on, by_several, has_room, takes_space_first, calls_none, says_wait, says_fault, says_no_memory, says_given}
use Rattle.py_stream.specs.Writing.{IsEndOf, GoesAway, StandsBare, Writes}

-- What every call keeps.

-- the buffer's size and what the stream can do stay; so does what the raw can do, and its counts never fall; a stream without a
-- buffer that owes nothing, at its place, goes on so
pub record KeepsStream (before after : Stream) : Type 0 where
  pub buffer : after.buffer ≡ before.buffer
  pub can : after.can ≡ before.can
  pub raw : Keeps before.raw after.raw
  pub bare : before.buffer ≡ None → before.owed ≡ nothing_owed before.place → after.owed ≡ nothing_owed after.place

-- a call that calls no raw and leaves all as it was, with this answer
pub record Leaves (before : Stream) (expected reply : FileReply) (after : Stream) : Type 0 where
  pub says : reply ≡ expected
  pub same : after ≡ record before { short = false }

-- a stream with a buffer that reads and writes has to move its raw back to its place, once all is passed on
abbrev pub moves_back : Stream → Bool
moves_back stream = is_some stream.buffer && (stream.can.readable && stream.can.writable)

-- what a stream owes lies right before its place, and its raw stands where that begins: with nothing owed, at the place
abbrev pub stands_behind : Stream → Bool
stands_behind stream = nat_eq (stream.owed.place + length stream.owed.bytes) stream.place && nat_eq stream.raw_place stream.owed.place

-- a close moves the raw of such a stream back to the place once all is passed on, unless it stood where what was owed up to the place
-- began: where that moving fails, the raw stands elsewhere, the stream is closed, and its raw isn't asked to close
abbrev pub parts_at_close : Stream → FileCall → FileReply → Stream → Bool
parts_at_close before Close (Refused fault.RawFault) after = moves_back before && (not (stands_behind before) && not (nat_eq after.raw_place after.place))
parts_at_close before call reply after = false

-- a raw is closed where its stream is, and only there
abbrev pub ClosedWith : Life → Raw → Type 0
ClosedWith current raw = raw.closed ≡ is_closed current

-- whether a call closes a stream that is closed: Python's `close` of a closed stream does nothing
abbrev pub closes_again : Stream → FileCall → Bool
closes_again stream Close = is_closed stream.life
closes_again stream call = false

-- Which replies a call may have.

-- the answers of an accepted call that isn't stopped by its raw
abbrev pub IsAnswerTo : FileCall → FileReply → Type 0
IsAnswerTo (Read size) (Bytes part) = Unit {0}
IsAnswerTo (Read1 size) (Bytes part) = Unit {0}
IsAnswerTo (ReadLine limit) (Bytes part) = Unit {0}
IsAnswerTo (ReadLines hint) (Lines lines) = Unit {0}
IsAnswerTo Peek (Bytes part) = Unit {0}
IsAnswerTo (ReadInto size) (Bytes part) = Unit {0}
IsAnswerTo (ReadInto1 size) (Bytes part) = Unit {0}
IsAnswerTo (Write bytes) (Count count) = Unit {0}
IsAnswerTo (WriteLines lines) Done = Unit {0}
IsAnswerTo (Seek offset whence) (Place place) = Unit {0}
IsAnswerTo (Seek offset (pos (suc (suc zero)))) (Refused fault.NegativeSeek) = Unit {0}
IsAnswerTo (Seek offset (pos (suc (suc zero)))) (Refused fault.TooFar) = Unit {0}
IsAnswerTo Tell (Place place) = Unit {0}
IsAnswerTo (Truncate size) (Place place) = Unit {0}
IsAnswerTo Flush Done = Unit {0}
IsAnswerTo Close Done = Unit {0}
IsAnswerTo Detach (Unwritten bytes place) = Unit {0}
IsAnswerTo Tell (Refused fault.NoMemory) = ⊥
IsAnswerTo call (Refused fault.NoMemory) = Unit {0}
IsAnswerTo call reply = ⊥

-- the replies of an accepted call, also of one whose raw would have blocked or failed, which stop no `tell`
abbrev pub IsReplyTo : Option ℕ → Bool → FileCall → FileReply → Type 0
IsReplyTo buffer writes call NotReady = IsTrue (profile buffer call).unready
IsReplyTo buffer writes Tell (Refused (fault.WouldBlock taken)) = ⊥
IsReplyTo buffer writes call (Refused (fault.WouldBlock taken)) = IsTrue (writes && not (profile buffer call).unready)
IsReplyTo buffer writes Tell (Refused fault.RawFault) = ⊥
IsReplyTo buffer writes call (Refused fault.RawFault) = Unit {0}
IsReplyTo buffer writes call reply = IsAnswerTo call reply

-- Causes.

-- a short answer comes only where the raw's waits rose in this call, RawFault only where its faults did
pub record HasCauses (old : Raw) (reply : FileReply) (new : Raw) (short : Bool) : Type 0 where
  pub waits : IsTrue short → Rose old.waits new.waits
  pub faults : IsTrue (says_fault reply) → Rose old.faults new.faults

-- over a raw that counts exactly: each fault is answered, and each wait ends the call, but of a write into a buffer, which may
-- have room for what is left
pub record IsCounted (buffer : Option ℕ) (old : Raw) (call : FileCall) (reply : FileReply) (new : Raw) (short : Bool) : Type 0 where
  pub faults : says_fault reply ≡ false → new.faults ≡ old.faults
  pub waits : short ≡ false → (profile buffer call).outlasts ≡ false → new.waits ≡ old.waits
  pub once : IsTrue short → (profile buffer call).outlasts ≡ false → new.waits ≡ counted old.waits 1

-- what is short: each reply that says by itself that the raw would have blocked, always; some bytes, never none; nothing else
abbrev pub IsShort : FileCall → FileReply → Bool → Type 0
IsShort (Read1 size) (Bytes part) short = short ≡ false
IsShort (ReadInto1 size) (Bytes part) short = short ≡ false
IsShort Peek (Bytes part) short = short ≡ false
IsShort call (Bytes part) short = IsTrue short → part ≢ []
IsShort call (Lines lines) short = IsTrue short → lines ≢ []
IsShort call reply short = short ≡ says_wait reply

-- Life and place, whether the raw tells or not.

-- running out of memory fails a call that goes on, once bytes moved between raw and call
abbrev pub StarvesTo : Bool → Life → Life → Type 0
StarvesTo true before after = (after ≡ before) ⊎ (after ≡ life.Failed)
StarvesTo false before after = after ≡ before

-- the life after an answer: closed by a close, detached by a detach, failed by a fault or by running out of memory, else as it was
abbrev pub LifeMoves : Option ℕ → FileCall → FileReply → Life → Life → Type 0
LifeMoves buffer Close Done before after = after ≡ life.Closed
LifeMoves buffer Close (Refused fault.RawFault) before after = after ≡ life.Closed
LifeMoves buffer Detach (Unwritten bytes place) before after = after ≡ life.Detached
LifeMoves buffer call (Refused fault.RawFault) before after = after ≡ life.Failed
LifeMoves buffer call (Refused fault.NoMemory) before after = StarvesTo (profile buffer call).many before after
LifeMoves buffer call reply before after = after ≡ before

-- where an answered seek goes: so far from the start, or from the place; one from the end goes by what the raw answered
abbrev pub SeekGoes : ℕ → ℤ → ℤ → ℕ → Type 0
SeekGoes before offset (pos zero) place = moved_by 0 offset ≡ Some place
SeekGoes before offset (pos (suc zero)) place = moved_by before offset ≡ Some place
SeekGoes before offset whence place = Unit {0}

-- the most bytes that a call may move the place by, where its argument says how many
abbrev pub moves_most : FileCall → Option ℕ
moves_most (Read size) = size
moves_most (ReadInto size) = Some size
moves_most (ReadLine limit) = limit
moves_most (Write bytes) = Some (length bytes)
moves_most (WriteLines lines) = Some (length (joined lines))
moves_most call = None

-- the place moved forth, where there is a bound by no more than that
abbrev pub MovesForth : Option ℕ → ℕ → ℕ → Type 0
MovesForth None before after = before ≤ after
MovesForth (Some most) before after = (before ≤ after) × (after ≤ before + most)

-- a fault leaves the place, or moves it forth, of a call that may move bytes by several transfers
abbrev pub PlaceFails : Bool → Option ℕ → ℕ → ℕ → Type 0
PlaceFails true most before after = MovesForth most before after
PlaceFails false most before after = after ≡ before

-- running out of memory leaves the place, but of a call that it failed
abbrev pub PlaceStarves : Life → Option ℕ → ℕ → ℕ → Type 0
PlaceStarves life.Live most before after = after ≡ before
PlaceStarves current most before after = MovesForth most before after

-- a write takes all that it is given; without a buffer some, none only of nothing
abbrev pub TakesOf : Option ℕ → List ℕ → ℕ → Type 0
TakesOf (Some size) bytes count = count ≡ length bytes
TakesOf None bytes count = (count ≤ length bytes) × (count ≡ 0 → bytes ≡ [])

-- the place after an answer: past the bytes given or taken, or where a seek went; else as it was, or further on after a fault
abbrev pub PlaceMoves : Option ℕ → FileCall → FileReply → Life → ℕ → ℕ → Type 0
PlaceMoves buffer Peek (Bytes part) current before after = after ≡ before
PlaceMoves buffer call (Bytes part) current before after = after ≡ before + length part
PlaceMoves buffer call (Lines lines) current before after = after ≡ before + length (joined lines)
PlaceMoves buffer (Seek offset whence) (Place place) current before after = (after ≡ place) × SeekGoes before offset whence place
PlaceMoves buffer Tell (Place place) current before after = (place ≡ before) × (after ≡ before)
PlaceMoves buffer (Truncate size) (Place place) current before after = (place ≡ unwrap_or size before) × (after ≡ before)
PlaceMoves buffer call (Refused fault.RawFault) current before after = PlaceFails (profile buffer call).many (moves_most call) before after
PlaceMoves buffer call (Refused fault.NoMemory) current before after = PlaceStarves current (moves_most call) before after
PlaceMoves buffer (Write bytes) (Count count) current before after = TakesOf buffer bytes count × (after ≡ before + count)
PlaceMoves buffer (Write bytes) (Refused (fault.WouldBlock taken)) current before after = (taken < length bytes) × (after ≡ before + taken)
PlaceMoves buffer (WriteLines lines) Done current before after = after ≡ before + length (joined lines)
PlaceMoves buffer (WriteLines lines) (Refused (fault.WouldBlock taken)) current before after = (taken < length (joined lines)) × (after ≡ before + taken)
PlaceMoves buffer call reply current before after = after ≡ before

-- no more is given than is asked for: a size in bytes; one line, and no byte after its end; lines up to the hint
abbrev pub Within : Option ℕ → List ℕ → Type 0
Within None part = Unit {0}
Within (Some size) part = length part ≤ size

-- an answer gives no more than its call asks for, and without a size no more than the buffer holds
abbrev pub GivesWithin : ℕ → FileCall → FileReply → Type 0
GivesWithin buffer (Read size) (Bytes part) = Within size part
GivesWithin buffer (Read1 None) (Bytes part) = length part ≤ buffer
GivesWithin buffer (Read1 (Some size)) (Bytes part) = length part ≤ size
GivesWithin buffer Peek (Bytes part) = length part ≤ buffer
GivesWithin buffer (ReadInto size) (Bytes part) = length part ≤ size
GivesWithin buffer (ReadInto1 size) (Bytes part) = length part ≤ size
GivesWithin buffer (ReadLine limit) (Bytes part) = first_line Lf limit part ≡ part
GivesWithin buffer (ReadLines hint) (Lines lines) = lines_within hint (joined lines) ≡ lines
GivesWithin buffer call reply = Unit {0}

-- what a call moves
pub record Moves (before : Stream) (call : FileCall) (reply : FileReply) (after : Stream) : Type 0 where
  pub life_is : LifeMoves before.buffer call reply before.life after.life
  pub place : PlaceMoves before.buffer call reply after.life before.place after.place
  pub far : after.place ≤ greatest_place
  pub within : GivesWithin (size_of before) call reply

-- What refuses a call, as far as the stream itself can tell: a seek from the end has to ask the raw where that is.

-- what refuses a call before the raw is asked for the end
abbrev pub refused_by : Stream → FileCall → Option IoFault
refused_by stream call = if asks_end (file_of stream) call then None else refusal (file_of stream) call

-- a call that a stream refuses without a look at its argument: by its life, or since it lacks what the call needs
abbrev pub RefusesAlone : Stream → FileCall → Type 0
RefusesAlone stream call = (is_getter call ≡ false) × (is_other_getter call ≡ false) × ((lets_through stream.life (buffering_of stream.buffer) call ≡ false) ⊎ (lacks (file_of stream) call ≡ true))

-- what the end, as the raw told it, makes of a seek: the target, or the refusal, which leaves all but the raw as it was
abbrev pub SeeksTo : Stream → Option ℕ → Option IoFault → FileReply → Stream → Type 0
SeeksTo before (Some target) None reply after = reply ≡ Place target
SeeksTo before target (Some why) reply after = Leaves before (Refused why) reply (record after { raw = before.raw })
SeeksTo before None None reply after = ⊥

-- a seek from the end goes from some end
pub record SeeksFromEnd (before : Stream) (offset : ℤ) (reply : FileReply) (after : Stream) : Type 0 where
  pub end : ℕ
  pub is : IsEndOf before end
  pub target : SeeksTo before (moved_by end offset) (target_refusal (moved_by end offset)) reply after

-- a fact, of every reply but those that say that asking the raw failed
abbrev pub UnlessStopped : FileReply → Type 0 → Type 0
UnlessStopped (Refused fault.RawFault) Fact = Unit {0}
UnlessStopped (Refused fault.NoMemory) Fact = Unit {0}
UnlessStopped (Refused (fault.WouldBlock taken)) Fact = Unit {0}
UnlessStopped reply Fact = Fact

-- a seek from the end goes by what the raw answered, unless asking the raw failed
abbrev pub EndMoves : Stream → ℤ → FileReply → Stream → Type 0
EndMoves before offset reply after = UnlessStopped reply (SeeksFromEnd before offset reply after)

-- where an accepted seek from the end goes, by what the raw answered; of other calls nothing
abbrev pub SeeksByEnd : Stream → FileCall → FileReply → Stream → Type 0
SeeksByEnd before (Seek offset (pos (suc (suc zero)))) reply after = asks_end (file_of before) (Seek offset (pos 2)) ≡ true → EndMoves before offset reply after
SeeksByEnd before call reply after = Unit {0}

-- Where a seek leaves a stream.

-- a place lies among the bytes held, or right after them, of a stream that reads through a buffer
pub record IsAmong (stream : Stream) (place : ℕ) : Type 0 where
  pub reads : stream.can.readable ≡ true
  pub buffered : IsSome stream.buffer
  pub after_first : stream.held.from ≤ place
  pub before_end : place ≤ stream.held.to

-- nothing was passed on: what is owed is what was, where it belongs; the same bytes are held; and the raw stands where it stood, with its
-- bytes as they were
pub record StaysAmong (before after : Stream) : Type 0 where
  pub owed : after.owed.bytes ≡ before.owed.bytes
  pub belongs : after.owed.bytes ≢ [] → after.owed.place ≡ before.owed.place
  pub held : after.held ≡ before.held
  pub raw_place : after.raw_place ≡ before.raw_place
  pub raw_bytes : KeepsBytes before.raw after.raw
  pub answered : AnswersFor 0 before.raw after.raw

-- a seek went to a place, wherever it counted from: among the bytes held it passes nothing on; one that leaves them leaves nothing owed or
-- held
pub record WentTo (before : Stream) (place : ℕ) (after : Stream) : Type 0 where
  pub among : IsAmong before place → StaysAmong before after
  pub away : GoesAway before place → StandsBare after

-- how an answered seek leaves the stream, and an answered `tell`: as it was; of other calls nothing
abbrev pub SeekStands : Stream → FileCall → FileReply → Stream → Type 0
SeekStands before call (Refused why) after = Unit {0}
SeekStands before (Seek offset whence) (Place place) after = WentTo before place after
SeekStands before Tell (Place place) after = after ≡ record before { short = false }
SeekStands before call reply after = Unit {0}

-- Memory.

-- a call that has its room wants memory only where its raw takes some
abbrev pub WantsMemory : Bool → FileReply → Raw → Type 0
WantsMemory room reply raw = IsTrue (says_no_memory reply) → IsTrue room → IsTrue raw.takes_memory

-- a reading goes on from the bytes held: nothing is owed, and of a stream that also writes the raw stands after them
pub record IsAhead (stream : Stream) : Type 0 where
  pub none : stream.owed.bytes ≡ []
  pub stands : stream.can.writable ≡ true → stream.raw_place ≡ stream.held.to

-- a reading went past the bytes held: its raw isn't as it was, or its answer ends behind them
abbrev pub GoesPast : Stream → Stream → Type 0
GoesPast before after = (after.raw ≢ before.raw) ⊎ (before.held.to < after.place)

-- running out of memory leaves a reading that goes on as it was, the raw too, or fails it, and that only where bytes left the raw in this
-- call
pub record Starves (before after : Stream) : Type 0 where
  pub unmoved : after.life ≡ life.Live → after ≡ record before { short = false }
  pub moved : after.life ≡ life.Failed → before.raw_place < after.raw_place
  pub stands : after.life ≡ life.Failed → WherePlace before.raw (before.raw.place < after.raw.place)

-- bytes left the raw in a call, where it tells its transfers: its reads brought some
abbrev pub BringsSome : Stream → Stream → Type 0
BringsSome before after = WhereTransfers before.raw (Rose before.raw.reads.brought after.raw.reads.brought)

-- running out of memory fails a reading that may make several transfers exactly where bytes left the raw in this call, also where it had
-- to pass on first; one that goes on from the bytes held it leaves as it was else
pub record StarvesReading (before after : Stream) : Type 0 where
  pub ahead : IsAhead before → Starves before after
  pub left : after.life ≡ life.Failed → BringsSome before after
  pub unread : after.life ≡ life.Live → KeepsReads before.raw after.raw

-- where the space is taken first, the call's own running out of memory leaves all as it was
abbrev pub StarvesFirst : Stream → FileCall → FileReply → Stream → Type 0
StarvesFirst before call reply after = IsTrue (says_no_memory reply) → IsTrue (takes_space_first call) → before.raw.takes_memory ≡ false → after ≡ record before { short = false }

-- Transfers.

-- no raw is called: so the raw is as it was, and neither it nor running out of memory refuses the call
pub record IsIdle (before : Stream) (reply : FileReply) (after : Stream) : Type 0 where
  pub raw : after.raw ≡ before.raw
  pub fault : says_fault reply ≡ false
  pub memory : says_no_memory reply ≡ false

-- the raw is as it was, and doesn't refuse the call
pub record AsksNothing (before : Stream) (reply : FileReply) (after : Stream) : Type 0 where
  pub raw : after.raw ≡ before.raw
  pub fault : says_fault reply ≡ false

-- at most one transfer is made, where the raw tells its transfers
abbrev pub AtMostOne : Stream → Stream → Type 0
AtMostOne before after = WhereTransfers before.raw (after.raw.transfers ≤ before.raw.transfers + 1)

-- at most one read brought bytes, or met the end, where the raw tells its transfers
abbrev pub ReadsOnce : Stream → Stream → Type 0
ReadsOnce before after = WhereTransfers before.raw ((after.raw.reads ≡ before.raw.reads) ⊎ ((count : ℕ) × (after.raw.reads ≡ after_read before.raw.reads count)))

-- how many of the bytes held lie from the place on
abbrev pub ahead : Stream → ℕ
ahead stream = stream.held.to - stream.place

-- whether a reading by one transfer has to pass on first what is owed: a `read1` always, any other where no byte is held from the place on
abbrev pub FlushesFirst : Stream → FileCall → Type 0
FlushesFirst stream (Read1 size) = Unit {0}
FlushesFirst stream call = ahead stream ≡ 0

-- a reading by one transfer of a stream with a buffer that asks for some byte, and has to, passes on first all that was owed: where it gives
-- bytes, also none as the end is met, nothing is owed after it
abbrev pub PassesFirst : Stream → FileCall → FileReply → Stream → Type 0
PassesFirst before call reply after = IsSome before.buffer → IsTrue (is_single call) → asks_nothing call ≡ false → IsTrue (says_given reply) → FlushesFirst before call → after.owed.bytes ≡ []

-- a target of a seek lies among the bytes held, or right after them
abbrev pub Covers : Span → Option ℕ → Type 0
Covers held (Some target) = (held.from ≤ target) × (target ≤ held.to)
Covers held None = ⊥

-- the raw tells, and the bytes held from the place on have all of what is wanted, whatever comes after them
abbrev pub HasAllHeld : (List ℕ → List ℕ) → Stream → Type 0
HasAllHeld wanted stream = IsTrue (tells stream.raw) × ((more : List ℕ) → length (wanted (take (ahead stream) (rest (file_of stream)) ++ more)) ≤ ahead stream)

-- the bytes held answer a call by themselves: one of n bytes, or of at most n of a line, where n are held from the place on; one of a line,
-- or of lines above a hint, which end among them, where the raw tells; one of a single transfer where some are held, a `read1` only where
-- nothing is owed, which it passes on first; and a seek of a stream that reads, from the start or from the place, to a target among them
abbrev pub InHandOf : Stream → FileCall → Type 0
InHandOf stream (Read (Some size)) = size ≤ ahead stream
InHandOf stream (ReadInto size) = size ≤ ahead stream
InHandOf stream (ReadLine (Some limit)) = (limit ≤ ahead stream) ⊎ HasAllHeld (first_line Lf (Some limit)) stream
InHandOf stream (ReadLine None) = HasAllHeld (first_line Lf None) stream
InHandOf stream (ReadLines hint) = HasAllHeld (λ left. joined (lines_within hint left)) stream
InHandOf stream (Read1 size) = (0 < ahead stream) × (stream.owed.bytes ≡ [])
InHandOf stream (ReadInto1 size) = 0 < ahead stream
InHandOf stream Peek = 0 < ahead stream
InHandOf stream (Seek offset (pos zero)) = (stream.can.readable ≡ true) × Covers stream.held (moved_by 0 offset)
InHandOf stream (Seek offset (pos (suc zero))) = (stream.can.readable ≡ true) × Covers stream.held (moved_by stream.place offset)
InHandOf stream call = ⊥

-- a live stream with a buffer has in hand what answers a call
pub record InHand (stream : Stream) (call : FileCall) : Type 0 where
  pub lives : stream.life ≡ life.Live
  pub buffered : IsSome stream.buffer
  pub of : InHandOf stream call

-- nothing was passed on, and the same bytes are held
pub record StaysHeld (before after : Stream) : Type 0 where
  pub owed : after.owed.bytes ≡ before.owed.bytes
  pub held : after.held ≡ before.held

-- an answer is all that is asked for, whatever comes after it: as many bytes, a line with its end or of the greatest length, lines
-- that are above the hint
abbrev pub IsWhole : FileCall → FileReply → Type 0
IsWhole (Read size) (Bytes part) = (more : List ℕ) → first_of size (part ++ more) ≡ part
IsWhole (ReadInto size) (Bytes part) = (more : List ℕ) → first_of (Some size) (part ++ more) ≡ part
IsWhole (ReadLine limit) (Bytes part) = (more : List ℕ) → first_line Lf limit (part ++ more) ≡ part
IsWhole (ReadLines hint) (Lines lines) = (more : List ℕ) → lines_within hint (joined lines ++ more) ≡ lines
IsWhole call reply = ⊥

-- how far the raw came in a call, as the stream counts
abbrev pub came : Stream → Stream → ℕ
came before after = after.raw_place - before.raw_place

-- the raw came as far as its reads brought bytes, of which at most so many brought none: it stands where the stream counts
pub record CameByReads (empties : ℕ) (before after : Stream) : Type 0 where
  pub forth : before.raw_place ≤ after.raw_place
  pub reads : ReadsInAll (came before after) empties before.raw after.raw

-- each transfer brought a byte, but for at most n of them; at most so many of these were reads that brought none, the others waits or
-- faults
pub record EachBrings (others empties : ℕ) (before after : Stream) : Type 0 where
  pub transfers : WhereTransfers before.raw (after.raw.transfers + before.raw_place ≤ before.raw.transfers + after.raw_place + others)
  pub came : CameByReads empties before after

-- the last transfer was made for the answer, which ends among the bytes that it brought; or none was
abbrev pub LastIsNeeded : Stream → Stream → Type 0
LastIsNeeded before after = (after.raw ≡ before.raw) ⊎ WhereTransfers before.raw (after.raw_place < after.place + after.raw.reads.last)

-- A reading that goes on, of a stream that owed nothing, asks its raw for no more than it answers with: an answer that is whole asked for
-- nothing where it lay among the bytes held. Over a raw that tells its transfers each of them brought some byte, but for one that met the
-- end, a wait or a fault; no such one was made for an answer that is whole, and the last one was made for that
pub record AsksNoMore (before : Stream) (call : FileCall) (reply : FileReply) (after : Stream) : Type 0 where
  pub enough : IsWhole call reply → after.place ≤ before.held.to → IsSome before.buffer → AsksNothing before reply after
  pub whole : IsWhole call reply → EachBrings 0 0 before after
  pub needed : IsWhole call reply → LastIsNeeded before after
  pub last : EachBrings 1 1 before after

-- reads brought as many bytes as lie between some place, not before that of the call, and where the raw stands after it; at most so many of
-- them brought none
pub record ReadsFrom (empties : ℕ) (before after : Stream) : Type 0 where
  pub from : ℕ
  pub behind : before.place ≤ from
  pub forth : from ≤ after.raw_place
  pub reads : ReadsInAll (after.raw_place - from) empties before.raw after.raw

-- no read brought anything, or they brought no more bytes than lie between the place of the call and where the raw stands after it
abbrev pub ReadsUpTo : ℕ → Stream → Stream → Type 0
ReadsUpTo empties before after = KeepsReads before.raw after.raw ⊎ ReadsFrom empties before after

-- What the reads of a reading bring, whatever it had to pass on first: no more bytes than lie between its place and where the raw stands
-- after it. Those of an answer that is whole each brought some byte, the last one a byte of the answer; of any other one met the end at most
pub record ReadsNoMore (before : Stream) (call : FileCall) (reply : FileReply) (after : Stream) : Type 0 where
  pub whole : IsWhole call reply → ReadsUpTo 0 before after
  pub needed : IsWhole call reply → KeepsReads before.raw after.raw ⊎ WhereTransfers before.raw (after.raw_place < after.place + after.raw.reads.last)
  pub last : ReadsUpTo 1 before after

-- The raw's place and bytes, where the raw tells them.

-- a live stream's place and its raw's differ by at most the size of the buffer, which the bytes held fit; the place is among these, or
-- right after them, and so is all that is owed, before which the raw doesn't stand; of a stream that doesn't write they end where its raw
-- stands; the raw stands where the stream counts
pub record IsNear (stream : Stream) : Type 0 where
  pub after_first : stream.held.from ≤ stream.place
  pub before_end : stream.place ≤ stream.held.to
  pub fits : stream.held.to ≤ stream.held.from + size_of stream
  pub owed_after_first : stream.held.from ≤ stream.owed.place
  pub owed_before_end : stream.owed.place + length stream.owed.bytes ≤ stream.held.to
  pub owed_before_raw : stream.owed.bytes ≢ [] → stream.owed.place ≤ stream.raw_place
  pub read_ahead : stream.can.writable ≡ false → stream.held.to ≡ stream.raw_place
  pub ahead : stream.raw_place ≤ stream.place + size_of stream
  pub behind : stream.place ≤ stream.raw_place + size_of stream
  pub stands : WherePlace stream.raw (stream.raw.place ≡ stream.raw_place)

-- the raw's bytes are as they were, its writes answered for none, and nothing is owed, at the place; the raw stands where it stood, as the
-- stream counts, but after a reading or a seek
pub record SparesBytes (before : Stream) (call : FileCall) (after : Stream) : Type 0 where
  pub bytes : KeepsBytes before.raw after.raw
  pub written : AnswersFor 0 before.raw after.raw
  pub owed : after.owed ≡ nothing_owed after.place
  pub still : moves_raw call ≡ false → after.raw_place ≡ before.raw_place

-- One call of a stream over any raw; `room` says which calls have their room, so that they need no memory of their own.
pub record AnswersWith (room : FileCall → Bool) (before : Stream) (call : FileCall) (reply : FileReply) (after : Stream) : Type 0 where
  -- the buffer's size and what the stream and its raw can do stay, and the raw's counts never fall
  pub keeps : KeepsStream before after
  -- what the life, an ability or an argument refuses is answered with that, and leaves all as it was
  pub refused : (why : IoFault) → refused_by before call ≡ Some why → Leaves before (Refused why) reply after
  -- a close of a closed stream is done, and leaves all as it was
  pub again : closes_again before call ≡ true → Leaves before Done reply after
  -- the raw is closed exactly where the stream is, once nothing is owed, but where it failed to move back
  pub shut : parts_at_close before call reply after ≡ false → after.owed.bytes ≡ [] → ClosedWith before.life before.raw → ClosedWith after.life after.raw
  -- a close that failed to move the raw back doesn't close it
  pub parted : parts_at_close before call reply after ≡ true → StaysOpen before.raw after.raw
  -- a short answer comes only where the raw's waits rose in this call, RawFault only where its faults did
  pub causes : HasCauses before.raw reply after.raw after.short
  -- no fault and no wait of a raw that counts exactly goes unanswered
  pub counted : IsTrue before.raw.counts_exactly → IsCounted before.buffer before.raw call reply after.raw after.short
  -- which answers are short: those that say so by themselves, and else some bytes or lines, never none
  pub shorts : IsShort call reply after.short
  -- life and place after the call, and that no more is given than was asked for
  pub moves : Moves before call reply after
  -- a seek from the end goes by some end that the raw answered
  pub ends : SeeksByEnd before call reply after
  -- a seek among the bytes held passes nothing on; one that leaves them leaves nothing owed or held, and the raw at the place; a `tell`
  -- leaves all as it was
  pub seeks : SeekStands before call reply after
  -- a call that has its room wants memory only where its raw takes some
  pub wants : WantsMemory (room call) reply before.raw
  -- a reading that goes on from the bytes held leaves a stream so that another does
  pub goes_on : IsTrue (is_reading call) → IsAhead before → IsAhead after
  -- so does one that gave bytes and went past those that were held
  pub goes_past : IsTrue (is_reading call) → IsTrue (says_given reply) → GoesPast before after → IsAhead after
  -- running out of memory fails a reading exactly where bytes left the raw, and leaves one that goes on from the bytes held as it was else
  pub starves : IsTrue (says_no_memory reply) → IsTrue (reads_on call) → StarvesReading before after
  -- a call that takes its space first leaves all as it was where there is none
  pub first : StarvesFirst before call reply after
  -- calls that ask no raw leave the raw as it was, and answer no fault
  pub nothing : IsTrue (profile before.buffer call).none → AsksNothing before reply after
  -- calls that call no raw at all: neither a raw nor running out of memory refuses them
  pub idle : IsTrue (calls_none before.buffer before.can.writable call) → IsIdle before reply after
  -- calls that make at most one transfer, where nothing was owed
  pub single : IsTrue (profile before.buffer call).one → before.owed.bytes ≡ [] → AtMostOne before after
  -- also where they pass on first what was owed they read once at most
  pub once : IsTrue (profile before.buffer call).one → ReadsOnce before after
  -- a `read1` gives bytes only once all that was owed is passed on; so do the others by one transfer where no byte was held
  pub passes_first : PassesFirst before call reply after
  -- a reading that goes on from the bytes held moves the raw by as many bytes as its reads bring, and meets the end once at most
  pub brings : IsTrue (is_reading call) → IsAhead before → CameByReads 1 before after
  -- a call that gives no bytes reads none from the raw
  pub unread : is_reading call ≡ false → KeepsReads before.raw after.raw
  -- what the bytes held answer by themselves asks the raw for nothing
  pub in_hand : InHand before call → AsksNothing before reply after
  -- and passes nothing on, nor lets go of a byte that is held
  pub owing : InHand before call → StaysHeld before after
  -- a reading that goes on from the bytes held asks for no more than it answers with
  pub needs : IsTrue (by_several before.buffer call) → IsAhead before → AsksNoMore before call reply after
  -- the reads of any reading that goes on, also of one that had to pass on first, bring no more bytes than lie between its place and where the
  -- raw stands after it, and none once its answer is whole
  pub needs_reads : IsTrue (by_several before.buffer call) → ReadsNoMore before call reply after
  -- a stream that doesn't write leaves the raw's bytes, and owes nothing; only its readings and seeks move the raw
  pub spares : before.can.writable ≡ false → before.owed ≡ nothing_owed before.place → SparesBytes before call after
  -- what a stream that writes does with the bytes that it took
  pub writes : before.can.writable ≡ true → Writes before call reply after
  -- which replies an accepted call may have
  pub answer : refused_by before call ≡ None → IsReplyTo before.buffer before.can.writable call reply
  -- a failed stream is detached at once: neither its raw nor running out of memory stops that
  pub at_once : before.life ≡ life.Failed → call ≡ Detach → refused_by before call ≡ None → (bytes : List ℕ) × (place : Option ℕ) × (reply ≡ Unwritten bytes place)
  -- where no count of the raw rose, an accepted call is answered in full, or ran out of memory
  pub complete : refused_by before call ≡ None → rose before.raw.waits after.raw.waits ≡ false → rose before.raw.faults after.raw.faults ≡ false → IsAnswerTo call reply × (after.short ≡ false)
  -- where the raw tells, the call is the step of the model from flat file to flat file
  pub told : WhereTold before.raw (BinaryStep (file_of before) call reply after.short (says_fault reply) (file_of after))
  -- no reading moves the place past the end of the flat bytes
  pub reach : IsTrue (is_reading call) → WhereTold before.raw (after.place ≤ max before.place (length (file_of before).bytes))
  -- how near a live stream's raw stands to its place
  pub near : after.life ≡ life.Live → IsNear after
  -- a wait hides nothing: the raw then stands at the place
  pub hides : IsTrue after.short → IsTrue (is_reading call) → after.owed.bytes ≡ [] → after.raw_place ≡ after.place

-- of a stream of the library, whose room is taken at its opening
abbrev pub Answers : Stream → FileCall → FileReply → Stream → Type 0
Answers before call reply after = AnswersWith has_room before call reply after
