-- What a stream that writes does with the bytes that it took from its callers, over any raw.
use Rattle.std.specs.Prelude.{◌≡◌, ◌≢◌, ℕ, ◌+◌, ◌-◌, ◌<◌, ◌≤◌, ◌⊎◌, ℤ, pos, suc, zero, min, max, true, false, IsTrue, List, [], ◌++◌, length, take, drop, Option, Some, IsSome, unwrap_or}
use Rattle.py_flat.specs.declared.fault.IoFault.TheVariants as fault
use Rattle.py_flat.specs.declared.life.Life.TheVariants as life
use Rattle.py_flat.specs.Bytes.{lay, resized}
use Rattle.py_flat.specs.Causes.{counted}
use Rattle.py_flat.specs.Limits.{greatest_place}
use Rattle.py_flat.specs.Owed.{Owed}
use Rattle.py_flat.specs.Calls.{FileCall, Write, WriteLines, Seek, Truncate, Flush, Close, Detach, FileReply, Count, Place, Done, Unwritten, Refused}
use Rattle.py_flat.specs.BinaryStep.{payload}
use Rattle.py_flat.specs.Refusals.{moved_by}
use Rattle.py_raw.specs.RawStream.{WhereTold, WhereBytes, WherePlace, WhereTransfers, AnswersFor}
use Rattle.py_stream.specs.Stream.{Stream, size_of, file_of, nothing_held}
use Rattle.py_stream.specs.Kinds.{is_reading, is_writing, says_no_memory}

-- nothing is owed, or what is owed ends at a place
abbrev pub OwesUpTo : Owed → ℕ → Type 0
OwesUpTo owed place = (owed.bytes ≡ []) ⊎ (owed.place + length owed.bytes ≡ place)

-- where something is owed, it ends no later than an end
abbrev pub OwesWithin : Owed → ℕ → Type 0
OwesWithin owed end = owed.bytes ≢ [] → owed.place + length owed.bytes ≤ end

-- what a stream owes lies right before its place, and its raw stands where that begins
pub record OwesBehind (stream : Stream) : Type 0 where
  pub ends : stream.owed.place + length stream.owed.bytes ≡ stream.place
  pub stands : stream.raw_place ≡ stream.owed.place

-- where nothing is owed, the place of the owed bytes is the stream's
abbrev pub NoneAtPlace : Stream → Type 0
NoneAtPlace stream = stream.owed.bytes ≡ [] → stream.owed.place ≡ stream.place

-- told, the bytes that a write took, the first n, are laid on in the flat file, and after a fault of the raw some more of them may be
abbrev pub LaysTaken : (before : Stream) (bytes : List ℕ) (taken : ℕ) (after : Stream) → Type 0
LaysTaken before bytes taken after = WhereTold before.raw ((count : ℕ) × (taken ≤ count) × (count ≤ length bytes) × ((file_of after).bytes ≡ lay (file_of before).bytes before.place (take count bytes)))

-- a call that writes, whatever it answers: the stream took the first n of the bytes, after those that it owed, and
-- passed on the first of them all, exactly as many as the raw answered for; so it owes a suffix, up to its place. By so many the raw
-- went forth, where it stood where what was owed begins. Told, those that the stream took are laid on in the flat file, and after a fault
-- of the raw some more may be; and the raw of one that lives on, which stood there, has just those that it answered for
pub record Takes (before : Stream) (bytes : List ℕ) (after : Stream) : Type 0 where
  pub taken : ℕ
  pub within : taken ≤ length bytes
  pub place : after.place ≡ before.place + taken
  pub passed : ℕ
  pub most : passed ≤ length before.owed.bytes + taken
  pub answered : AnswersFor passed before.raw after.raw
  pub forth : OwesBehind before → after.raw_place ≡ before.raw_place + passed
  pub owed : after.owed.bytes ≡ drop passed (before.owed.bytes ++ take taken bytes)
  pub up_to : OwesUpTo after.owed after.place
  pub told : LaysTaken before bytes taken after
  pub just : after.life ≡ life.Live → OwesBehind before → WhereTold before.raw (after.raw.bytes ≡ lay before.raw.bytes before.owed.place (take passed (before.owed.bytes ++ take taken bytes)))

-- what is left of the owed bytes is a suffix of them, at the place where it stood
pub record OwesRest (before after : Owed) : Type 0 where
  pub passed : ℕ
  pub bytes : after.bytes ≡ drop passed before.bytes
  pub place : after.bytes ≢ [] → after.place ≡ before.place + passed

-- what is left of what was owed is a suffix, where that stood, and what was passed on is exactly what the raw answered for
pub record PassesFront (before after : Stream) : Type 0 where
  pub passed : ℕ
  pub most : passed ≤ length before.owed.bytes
  pub answered : AnswersFor passed before.raw after.raw
  pub bytes : after.owed.bytes ≡ drop passed before.owed.bytes
  pub place : after.owed.bytes ≢ [] → after.owed.place ≡ before.owed.place + passed

-- of the bytes that were owed and of those that a write gives at a place, the place of the first; without any the second place
abbrev pub first_of_both : (owed : List ℕ) (start : ℕ) (new : List ℕ) (place : ℕ) → ℕ
first_of_both [] start new place = place
first_of_both owed start [] place = start
first_of_both owed start new place = min start place

-- the place of the first of the bytes that were owed and of those that a write took at a place
abbrev pub first_place : Owed → List ℕ → ℕ → ℕ
first_place owed new place = first_of_both owed.bytes owed.place new place

-- of these the place after the last; without any the second place
abbrev pub end_of_both : (owed : List ℕ) (start : ℕ) (new : List ℕ) (place : ℕ) → ℕ
end_of_both [] start new place = place + length new
end_of_both owed start [] place = start + length owed
end_of_both owed start new place = max (start + length owed) (place + length new)

-- a list has some bytes at a place, as far as these reach into it: it begins at the first of two places, and they at the second
abbrev pub HasAt : (whole : List ℕ) (begins : ℕ) (part : List ℕ) (place : ℕ) → Type 0
HasAt whole begins part place = take (length part - (begins - place)) (drop (place - begins) whole) ≡ drop (begins - place) part

-- bytes that are owed cover what was owed, at its place, and the new bytes that a write took, at the stream's: they begin no earlier than
-- both, and end where both end. They have the new bytes at their place, and before and after them what was owed. So all of both that
-- isn't passed on is among them
pub record CoversBoth (was : Owed) (place : ℕ) (new : List ℕ) (owed : Owed) : Type 0 where
  pub from : first_place was new place ≤ owed.place
  pub to : owed.place + length owed.bytes ≡ end_of_both was.bytes was.place new place
  pub new_bytes : HasAt owed.bytes owed.place new place
  pub old_bytes : HasAt owed.bytes owed.place (take (place - was.place) was.bytes) was.place
  pub behind : HasAt owed.bytes owed.place (drop (place + length new - was.place) was.bytes) (max was.place (place + length new))

-- what was owed and the new bytes that a write took at a place are all owed: where nothing is, there was none of either; else what is owed
-- covers both, and begins where the first of both does
pub record OwesAll (was : Owed) (place : ℕ) (new : List ℕ) (owed : Owed) : Type 0 where
  pub none : owed.bytes ≡ [] → (was.bytes ≡ []) × (new ≡ [])
  pub from : owed.bytes ≢ [] → owed.place ≡ first_place was new place
  pub covers : owed.bytes ≢ [] → CoversBoth was place new owed

-- of the new bytes that a write took at a place the first n aren't owed: the rest is, alone
pub record LeavesNew (passed place : ℕ) (new : List ℕ) (owed : Owed) : Type 0 where
  pub most : passed ≤ length new
  pub bytes : owed.bytes ≡ drop passed new
  pub at : owed.place ≡ place + passed

-- all that was owed is passed on, and of the new bytes that a write took a front, exactly as many bytes as the raw answered for: the rest is
-- owed, up to the place
pub record OwesNewAlone (before : Stream) (new : List ℕ) (after : Stream) : Type 0 where
  pub passed : ℕ
  pub answered : AnswersFor (length before.owed.bytes + passed) before.raw after.raw
  pub leaves : LeavesNew passed before.place new after.owed

-- what is left of owed bytes without the first n
abbrev pub left_of : Owed → ℕ → Owed
left_of owed count = record { bytes = drop count owed.bytes; place = owed.place + count }

-- what is owed covers what was owed and the new bytes that a write took at a place, and begins where the first begins of what is left of
-- the former without the first n, and the new bytes
pub record LeavesBoth (passed : ℕ) (was : Owed) (place : ℕ) (new : List ℕ) (owed : Owed) : Type 0 where
  pub most : passed ≤ length was.bytes
  pub from : owed.place ≡ first_place (left_of was passed) new place
  pub covers : CoversBoth was place new owed

-- of what was owed a front is passed on, exactly as many bytes as the raw answered for: what is left of that, and the new bytes, are owed
pub record OwesTheRest (before : Stream) (new : List ℕ) (after : Stream) : Type 0 where
  pub passed : ℕ
  pub answered : AnswersFor passed before.raw after.raw
  pub leaves : LeavesBoth passed before.owed before.place new after.owed

-- a write took nothing: what is left of what was owed, without the first n, is owed, and after it what the buffer holds there up to the
-- place; so it ends there
pub record LeavesUpTo (passed : ℕ) (was : Owed) (place : ℕ) (new : List ℕ) (owed : Owed) : Type 0 where
  pub nothing : new ≡ []
  pub most : passed ≤ length was.bytes
  pub from : owed.place ≡ was.place + passed
  pub front : take (length was.bytes - passed) owed.bytes ≡ drop passed was.bytes
  pub ends : owed.place + length owed.bytes ≡ place

-- of what was owed a front is passed on, exactly as many bytes as the raw answered for, before a wait cut the write short, which took
-- nothing: what is left of that is owed, and after it what the buffer holds up to the place
pub record OwesUpToPlace (before : Stream) (new : List ℕ) (after : Stream) : Type 0 where
  pub passed : ℕ
  pub answered : AnswersFor passed before.raw after.raw
  pub cut : after.short ≡ true
  pub leaves : LeavesUpTo passed before.owed before.place new after.owed

-- what is owed after a write: it covers what was owed and what is new; or all that was owed was passed on; or the write took nothing, and
-- what was owed goes on up to the place
abbrev pub OwesSome : (before : Stream) (new : List ℕ) (after : Stream) → Type 0
OwesSome before new after = OwesTheRest before new after ⊎ (OwesNewAlone before new after ⊎ OwesUpToPlace before new after)

-- what is owed after a write that took n bytes, wherever its place lay. Where nothing is, all that was owed and all that was taken is
-- passed on: the raw answered for exactly so many bytes. Told, those that were taken are in the flat file
pub record OwesBoth (before : Stream) (bytes : List ℕ) (after : Stream) : Type 0 where
  pub taken : ℕ
  pub within : taken ≤ length bytes
  pub place : after.place ≡ before.place + taken
  pub owes : after.owed.bytes ≢ [] → OwesSome before (take taken bytes) after
  pub none : after.owed.bytes ≡ [] → AnswersFor (length before.owed.bytes + taken) before.raw after.raw
  pub told : LaysTaken before bytes taken after

-- what a call may lay on the raw's bytes: a front of what was owed at its place, and then a front of what it gives at the stream's; none of
-- the latter before all that was owed
pub record LaysFrontOf (bytes : List ℕ) (owed : Owed) (place : ℕ) (own after : List ℕ) : Type 0 where
  pub passed : ℕ
  pub more : ℕ
  pub laid : after ≡ lay (lay bytes owed.place (take passed owed.bytes)) place (take more own)
  pub order : more ≢ 0 → length owed.bytes ≤ passed

-- the raw's bytes after a call: those before it, with a front laid on of what was owed and what the call gives
abbrev pub LaysFront : (before : Stream) → (own after : List ℕ) → Type 0
LaysFront before own after = LaysFrontOf before.raw.bytes before.owed before.place own after

-- the size that a truncation asks for: without one the place
abbrev pub size_asked : Stream → Option ℕ → ℕ
size_asked before size = unwrap_or size before.place

-- a call that cuts the file lays on a front of what is owed, and then may give the bytes their size
pub record LaysThenCuts (before : Stream) (size : ℕ) (after : List ℕ) : Type 0 where
  pub between : List ℕ
  pub lays : LaysFront before [] between
  pub cuts : (after ≡ between) ⊎ (after ≡ resized between size)

-- the raw's bytes after a call: a front laid on of what is owed and given; of a truncation, then cut to its size
abbrev pub LaysInOrder : Stream → FileCall → List ℕ → Type 0
LaysInOrder before (Truncate size) after = LaysThenCuts before (size_asked before size) after
LaysInOrder before call after = LaysFront before (payload call) after

-- nothing is owed any more; told, the raw holds the flat bytes
pub record PassedOn (before after : Stream) : Type 0 where
  pub none : after.owed.bytes ≡ []
  pub holds : WhereTold before.raw (after.raw.bytes ≡ (file_of before).bytes)

-- told, the raw has just those of the bytes that were owed which aren't any more
abbrev pub HasJust : (before after : Stream) → Type 0
HasJust before after = WhereTold before.raw (after.raw.bytes ≡ lay before.raw.bytes before.owed.place (take (length before.owed.bytes - length after.owed.bytes) before.owed.bytes))

-- nothing is owed, and nothing is held; the raw stands at the place, so that a reading goes on from there
pub record StandsBare (stream : Stream) : Type 0 where
  pub none : stream.owed.bytes ≡ []
  pub held : stream.held ≡ nothing_held stream.place
  pub stands : stream.raw_place ≡ stream.place

-- nothing is owed or held any more; told, the raw holds the flat bytes, cut or lengthened to a size
pub record CutTo (before : Stream) (size : ℕ) (after : Stream) : Type 0 where
  pub bare : StandsBare after
  pub holds : WhereTold before.raw (after.raw.bytes ≡ resized (file_of before).bytes size)

-- some end that the raw answered, or that of what is owed, where this is later; told its bytes, the end of the flat file
pub record IsEndOf (before : Stream) (end : ℕ) : Type 0 where
  pub within : end ≤ greatest_place
  pub owed : OwesWithin before.owed end
  pub told : WhereBytes before.raw (end ≡ length (file_of before).bytes)

-- where a seek goes, by where it counts from: the start, the place, or some end
abbrev pub SeekTargets : Stream → ℤ → ℤ → ℕ → Type 0
SeekTargets before offset (pos zero) target = moved_by 0 offset ≡ Some target
SeekTargets before offset (pos (suc zero)) target = moved_by before.place offset ≡ Some target
SeekTargets before offset (pos (suc (suc zero))) target = (end : ℕ) × IsEndOf before end × (moved_by end offset ≡ Some target)
SeekTargets before offset whence target = ⊥

-- a stream that is moved to a place leaves the bytes held: it doesn't read, or the place isn't among them, nor right after them
abbrev pub GoesAway : Stream → ℕ → Type 0
GoesAway stream place = (stream.can.readable ≡ false) ⊎ ((place < stream.held.from) ⊎ (stream.held.to < place))

-- a seek that a wait stopped goes to a place where the stream leaves the bytes held
pub record StopsAway (before : Stream) (offset whence : ℤ) : Type 0 where
  pub target : ℕ
  pub goes : SeekTargets before offset whence target
  pub away : GoesAway before target

-- what is done of a live stream leaves nothing owed; after a `flush` the raw stands at the place, and nothing is held; after a `detach`,
-- which has nothing unwritten, the raw stands there too. A `seek` that leaves the bytes held leaves nothing owed either; only such a one is
-- stopped by a wait. A `flush` that ran out of memory gave the raw just what isn't owed any more
abbrev pub PassesOn : Stream → FileCall → FileReply → Stream → Type 0
PassesOn before Flush Done after = PassedOn before after × (after.raw_place ≡ after.place) × (after.held ≡ nothing_held after.place)
PassesOn before Flush (Refused fault.NoMemory) after = HasJust before after
PassesOn before Close Done after = before.life ≡ life.Live → PassedOn before after
PassesOn before Detach (Unwritten bytes place) after = before.life ≡ life.Live → PassedOn before after × (bytes ≡ []) × WherePlace before.raw (after.raw.place ≡ after.place)
PassesOn before (Truncate size) (Place place) after = CutTo before (size_asked before size) after
PassesOn before (Seek offset whence) (Place place) after = GoesAway before place → after.owed.bytes ≡ []
PassesOn before (Seek offset whence) (Refused (fault.WouldBlock taken)) after = StopsAway before offset whence
PassesOn before call reply after = Unit {0}

-- a buffer of a size is full of owed bytes, which end at the place
pub record IsFull (owed : Owed) (place size : ℕ) : Type 0 where
  pub up_to : owed.place + size ≡ place
  pub owes : length owed.bytes ≡ size

-- a write that couldn't take all has filled the buffer; another call that would have blocked took nothing, and not all that was owed was
-- passed on: only that is made to wait
abbrev pub BlocksFull : FileCall → FileReply → Stream → Type 0
BlocksFull (Write bytes) (Refused (fault.WouldBlock taken)) after = IsFull after.owed after.place (size_of after)
BlocksFull (WriteLines lines) (Refused (fault.WouldBlock taken)) after = IsFull after.owed after.place (size_of after)
BlocksFull call (Refused (fault.WouldBlock taken)) after = (taken ≡ 0) × (after.owed.bytes ≢ [])
BlocksFull call reply after = Unit {0}

-- what is owed is left of what was owed. Once the place moved nothing is, and the place is where the raw had come to; so it is, with
-- nothing owed, where the raw stood where what was owed up to the place began
pub record OwesOld (before after : Stream) : Type 0 where
  pub rest : OwesRest before.owed after.owed
  pub stands : OwesBehind before → after.owed.bytes ≡ [] → after.raw_place ≡ after.place
  pub moved : after.place ≢ before.place → after.owed.bytes ≡ []
  pub came : after.place ≢ before.place → after.raw_place ≡ after.place

-- a `write` that failed the stream owes none of its own bytes: those that went straight to the raw aren't kept
abbrev pub OwesNoneOfIts : Stream → FileCall → FileReply → Stream → Type 0
OwesNoneOfIts before (Write bytes) (Refused fault.RawFault) after = OwesOld before after
OwesNoneOfIts before (Write bytes) (Refused fault.NoMemory) after = after.life ≡ life.Failed → OwesOld before after
OwesNoneOfIts before call reply after = Unit {0}

-- the raw took some bytes of a call's own: it stands further on than the call began, and answered for more than was owed
pub record TookOwn (before after : Stream) : Type 0 where
  pub further : before.place < after.raw_place
  pub stands : WherePlace before.raw (before.place < after.raw.place)
  pub answered : WhereTransfers before.raw (counted before.raw.written (length before.owed.bytes + 1) ≤ counted after.raw.written 0)

-- A write for which the buffer has room.

-- the place of the first byte that is owed; where none is, the stream's own
abbrev pub owed_from : Stream → ℕ
owed_from stream = first_place stream.owed [] stream.place

-- how many bytes have room at the place: as many as the buffer holds, but for those before the place that have to stay, from the first
-- owed one on
abbrev pub room_at : Stream → ℕ
room_at stream = size_of stream - (stream.place - owed_from stream)

-- a live stream has room in its buffer for bytes at its place, which they may have. Of one that reads too, and owes nothing, the raw
-- doesn't stand before the place: it does only once running out of memory kept it from being moved
pub record HasRoom (stream : Stream) (bytes : List ℕ) : Type 0 where
  pub lives : stream.life ≡ life.Live
  pub buffered : IsSome stream.buffer
  pub within : stream.place + length bytes ≤ greatest_place
  pub room : length bytes ≤ room_at stream
  pub stands : stream.can.readable ≡ true → stream.owed.bytes ≡ [] → stream.place ≤ stream.raw_place

-- what a write answers that took all of its bytes
abbrev pub answer_of_all : FileCall → FileReply
answer_of_all (Write bytes) = Count (length bytes)
answer_of_all call = Done

-- a write took all of its bytes, and called no raw: so that is as it was in all that it shows, and stands where it stood; all that was
-- owed, and all that the write gave, are owed; and the bytes that were held behind these are held still
pub record TakesAlone (before : Stream) (call : FileCall) (reply : FileReply) (after : Stream) : Type 0 where
  pub says : reply ≡ answer_of_all call
  pub whole : after.short ≡ false
  pub raw : after.raw ≡ before.raw
  pub raw_place : after.raw_place ≡ before.raw_place
  pub owes : OwesAll before.owed before.place (payload call) after.owed
  pub held : after.held.to ≡ max before.held.to after.place

-- One call of a stream that writes.
pub record Writes (before : Stream) (call : FileCall) (reply : FileReply) (after : Stream) : Type 0 where
  -- what is owed after a write, wherever it was made
  pub owes : IsTrue (is_writing call) → OwesBoth before (payload call) after
  -- where what was owed ended at the place, also how much a write passed on
  pub takes : IsTrue (is_writing call) → OwesUpTo before.owed before.place → Takes before (payload call) after
  -- a write for which the buffer has room takes all and calls no raw
  pub room : IsTrue (is_writing call) → HasRoom before (payload call) → TakesAlone before call reply after
  -- a call that gives no bytes owes what is left of what was owed, where it stood
  pub leaves : is_writing call ≡ false → PassesFront before after
  -- where the raw stood where what was owed up to the place begins, it stands where what is left of that begins; a reading may move it
  pub stands : OwesBehind before → is_reading call ≡ false → after.owed.bytes ≢ [] → after.raw_place ≡ after.owed.place
  -- what the raw's bytes are after a call
  pub lays : WhereTold before.raw (LaysInOrder before call after.raw.bytes)
  -- what is passed on of a live stream
  pub passes : PassesOn before call reply after
  -- what a call leaves that would have blocked
  pub full : BlocksFull call reply after
  -- running out of memory fails a write only once the raw took some of its own bytes
  pub starves : IsTrue (says_no_memory reply) → IsTrue (is_writing call) → after.life ≡ life.Failed → TookOwn before after
  -- what went straight to the raw isn't owed
  pub straight : OwesNoneOfIts before call reply after
  -- where nothing is owed, the place of the owed bytes stays the stream's
  pub settles : NoneAtPlace before → NoneAtPlace after
  -- a raw is closed only where nothing is owed
  pub unclosed : after.owed.bytes ≢ [] → after.raw.closed ≡ before.raw.closed
  -- a stream that isn't live calls no raw
  pub rests : before.life ≢ life.Live → after.raw ≡ before.raw
