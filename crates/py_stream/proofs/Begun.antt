-- What a call answers doesn't hang on whether the answer before was short; and how far a raw came by what its reads brought.
use Rattle.std.proofs.Common.{Bool, inl, inr, ⊎_elim, ◌≡◌, ℕ, zero, suc, ◌+◌, ◌-◌, ◌<◌, ◌≤◌, refl, ap, ◌∙◌, subst, arith, ℤ, pos, true, false, IsTrue, List, take, rules}
use Rattle.py_flat.specs.Calls.{FileCall, FileReply, Seek, Tell, Place, Done, Refused}
use Rattle.py_raw.specs.declared.reads.Reads.{Reads}
use Rattle.py_raw.specs.Reads.{BringInAll}
use Rattle.py_raw.specs.RawStream.{Raw, Keeps, WhereTransfers, ReadsBring, KeepsReads, WhereTold}
use Rattle.py_stream.specs.Stream.{Stream, nothing_owed}
use Rattle.py_stream.specs.Answers.{IsNear, IsAhead, CameByReads, EachBrings, ReadsOnce, AsksNoMore, ReadsFrom, ReadsUpTo, ReadsNoMore, Answers, AnswersWith, Leaves, SeeksFromEnd, EndMoves, SeeksByEnd, StaysAmong, WentTo, SeekStands, closes_again, StarvesReading, AsksNothing, IsIdle, InHand, StaysHeld, SparesBytes}
use Rattle.py_stream.specs.Reading.{OneTransfer}
use Rattle.py_flat.specs.declared.fault.IoFault.TheVariants as fault
use Rattle.py_flat.specs.declared.life.Life.TheVariants as life
use Rattle.py_flat.specs.BinaryStep.{payload}
use Rattle.py_raw.proofs.Telling.{keeps_same}
use Rattle.py_stream.specs.Kinds.{is_writing, has_room, says_no_memory, is_reading, reads_on, asks_none, calls_none, by_several}
use Rattle.py_stream.specs.Writing.{OwesUpTo, OwesBehind, Takes, PassesFront, LaysInOrder, OwesSome, OwesBoth, IsEndOf, SeekTargets, StopsAway, PassesOn, OwesNoneOfIts, Writes, HasRoom, TakesAlone, TookOwn}

-- reads that brought nothing, and none of which brought none, are none
pub none_brought : (reads : Reads) (empties : ℕ) → BringInAll 0 empties reads reads
none_brought reads empties = record { brought = refl; empty = omega arith }

-- reads in two steps
pub brought_then : (old mid new : Reads) (one two few many : ℕ) → BringInAll one few old mid → BringInAll two many mid new → BringInAll (one + two) (few + many) old new
brought_then old mid new one two few many before behind = record { brought = omega (arith, before.brought, behind.brought); empty = omega (arith, before.empty, behind.empty) }

-- reads of which more might have brought none
pub brought_more : (old new : Reads) (count less more : ℕ) → less ≤ more → BringInAll count less old new → BringInAll count more old new
brought_more old new count less more within is = record { brought = is.brought; empty = omega (arith, is.empty) }

-- a raw that was moved neither by reads nor otherwise
pub came_still : (before after : Stream) (empties : ℕ) → after.raw.reads ≡ before.raw.reads → after.raw_place ≡ before.raw_place → CameByReads empties before after
came_still before after empties same place = record { forth = omega (arith, place); reads = λ tells. rw (same, let none : after.raw_place - before.raw_place ≡ 0 = omega (arith, place) in none) (none_brought before.raw.reads empties) }

-- a raw that was asked for no read, or whose read would have blocked or failed
pub came_unread : (before after : Stream) → after.raw_place ≡ before.raw_place → KeepsReads before.raw after.raw → CameByReads 0 before after
came_unread before after place same = record { forth = omega (arith, place); reads = λ tells. rw (same tells, let none : after.raw_place - before.raw_place ≡ 0 = omega (arith, place) in none) (none_brought before.raw.reads 0) }

-- in two steps
pub came_then : (before mid after : Stream) (few many : ℕ) → Keeps before.raw mid.raw → CameByReads few before mid → CameByReads many mid after → CameByReads (few + many) before after
came_then before mid after few many kept one two = grind (arith, brought_then)

-- streams that differ in nothing that says how far their raws came
pub came_seen : (was before now after : Stream) (empties : ℕ) → was.raw ≡ before.raw → was.raw_place ≡ before.raw_place → now.raw ≡ after.raw → now.raw_place ≡ after.raw_place → CameByReads empties was now → CameByReads empties before after
came_seen was before now after empties raw place raw_now place_now came = grind (arith)

pub came_more : (before after : Stream) (less more : ℕ) → less ≤ more → CameByReads less before after → CameByReads more before after
came_more before after less more within came = record { forth = came.forth; reads = λ tells. brought_more before.raw.reads after.raw.reads (after.raw_place - before.raw_place) less more within (came.reads tells) }

-- where a stream's raw stands doesn't hang on whether its last answer was short
pub near_seen : (stream : Stream) (short : Bool) → IsNear stream → IsNear (record stream { short = short })
near_seen stream short near = record { after_first = near.after_first; before_end = near.before_end; fits = near.fits; owed_after_first = near.owed_after_first; owed_before_end = near.owed_before_end; owed_before_raw = near.owed_before_raw; read_ahead = near.read_ahead; ahead = near.ahead; behind = near.behind; stands = near.stands }

-- whether a reading goes on from the bytes held doesn't hang on whether the stream's last answer was short
pub ahead_seen : (stream : Stream) (short : Bool) → IsAhead stream → IsAhead (record stream { short = short })
ahead_seen stream short ahead = record { none = ahead.none; stands = ahead.stands }

-- Transfers that each brought a byte.

pub each_still : (before after : Stream) (others empties : ℕ) → after.raw ≡ before.raw → after.raw_place ≡ before.raw_place → EachBrings others empties before after
each_still before after others empties same place = grind (arith, came_still)

pub each_seen : (was before now after : Stream) (others empties : ℕ) → was.raw ≡ before.raw → was.raw_place ≡ before.raw_place → now.raw ≡ after.raw → now.raw_place ≡ after.raw_place → EachBrings others empties was now → EachBrings others empties before after
each_seen was before now after others empties raw place raw_now place_now each = grind (arith, came_seen)

pub each_more : (before after : Stream) (others most empties more : ℕ) → others ≤ most → empties ≤ more → EachBrings others empties before after → EachBrings most more before after
each_more before after others most empties more within as_many each = record { transfers = λ tells. omega (arith, each.transfers tells); came = came_more before after empties more as_many each.came }

-- transfers in two steps
pub each_then : (before mid after : Stream) (others empties : ℕ) → Keeps before.raw mid.raw → EachBrings 0 0 before mid → EachBrings others empties mid after → EachBrings others empties before after
each_then before mid after others empties kept first second = grind (arith, came_then)

-- one transfer that brought some bytes
pub each_brought : (before after : Stream) (count : ℕ) → 0 < count → after.raw_place ≡ before.raw_place + count → WhereTransfers before.raw (after.raw.transfers ≤ before.raw.transfers + 1) → ReadsBring count before.raw after.raw → EachBrings 0 0 before after
each_brought before after count some place transfers brings = grind arith

-- one read, whatever it brought
pub came_once : (before after : Stream) (count : ℕ) → after.raw_place ≡ before.raw_place + count → ReadsBring count before.raw after.raw → CameByReads 1 before after
came_once before after zero place brings = record { forth = omega (arith, place); reads = λ tells. rw (brings tells, let none : after.raw_place - before.raw_place ≡ 0 = omega (arith, place) in none) (record { brought = omega arith; empty = omega arith }) }
came_once before after (suc count) place brings = record { forth = omega (arith, place); reads = λ tells. rw (brings tells, let more : after.raw_place - before.raw_place ≡ suc count = omega (arith, place) in more) (record { brought = omega arith; empty = omega arith }) }

-- one read that brought none
pub came_none : (before after : Stream) → after.raw_place ≡ before.raw_place → ReadsBring 0 before.raw after.raw → CameByReads 1 before after
came_none before after place brings = came_once before after 0 (omega (arith, place)) brings

-- so one read at most was made
pub read_once : (before after : Stream) (count : ℕ) → ReadsBring count before.raw after.raw → ReadsOnce before after
read_once before after count brings tells = inr (count, brings tells)

-- where none was, too
pub read_never : (before after : Stream) → KeepsReads before.raw after.raw → ReadsOnce before after
read_never before after same tells = inl (same tells)

-- one transfer that was no read, or whose read would have blocked or failed
pub one_unread : (before after : Stream) → after.raw_place ≡ before.raw_place → WhereTransfers before.raw (after.raw.transfers ≤ before.raw.transfers + 1) → KeepsReads before.raw after.raw → OneTransfer before after
one_unread before after place transfers same = record { transfers = transfers; once = read_never before after same; came = came_more before after 0 1 (omega arith) (came_unread before after place same) }

-- a transfer more, which brought none or was no read
pub each_but_one : (before after : Stream) (empties : ℕ) → after.raw_place ≡ before.raw_place → WhereTransfers before.raw (after.raw.transfers ≤ before.raw.transfers + 1) → CameByReads empties before after → EachBrings 1 empties before after
each_but_one before after empties place transfers came = record { transfers = λ tells. omega (arith, transfers tells, place); came = came }

-- how many bytes the last read brought
pub last_brought : (old new : Raw) (count : ℕ) → ReadsBring count old new → WhereTransfers old (new.reads.last ≡ count)
last_brought old new count brings tells = ap (λ (reads : Reads). reads.last) (brings tells)

-- Readings that read no more than they answer with.

-- a reading that reads nothing
pub reads_none : (before : Stream) (call : FileCall) (reply : FileReply) (after : Stream) → KeepsReads before.raw after.raw → ReadsNoMore before call reply after
reads_none before call reply after none = record { whole = λ _. inl none; needed = λ _. inl none; last = inl none }

came_from : (before after : Stream) (empties : ℕ) → before.place ≤ before.raw_place → CameByReads empties before after → ReadsFrom empties before after
came_from before after empties behind came = record { from = before.raw_place; behind = behind; forth = came.forth; reads = came.reads }

-- one that asks for no more, of a stream whose raw doesn't stand before its place
pub reads_asked : (before : Stream) (call : FileCall) (reply : FileReply) (after : Stream) → before.place ≤ before.raw_place → AsksNoMore before call reply after → ReadsNoMore before call reply after
reads_asked before call reply after behind asks = record {
  whole = λ whole. inr (came_from before after 0 behind (asks.whole whole).came);
  needed = λ whole. ⊎_elim (λ same. inl (λ tells. ap (λ (raw : Raw). raw.reads) same)) inr (asks.needed whole);
  last = inr (came_from before after 1 behind asks.last.came);
}

-- one before which nothing was read, and the place stayed
module _ (before mid after : Stream) (kept : Keeps before.raw mid.raw) (same : KeepsReads before.raw mid.raw) (still : mid.place ≡ before.place) where
  unread_since : KeepsReads mid.raw after.raw → KeepsReads before.raw after.raw
  unread_since none tells = none (kept.tells_transfers ∙ tells) ∙ same tells

  up_to_since : (empties : ℕ) → ReadsUpTo empties mid after → ReadsUpTo empties before after
  up_to_since empties (inl none) = inl (unread_since none)
  up_to_since empties (inr is) = inr (record { from = is.from; behind = omega (arith, is.behind, still); forth = is.forth; reads = λ tells. subst (λ (reads : Reads). BringInAll (after.raw_place - is.from) empties reads after.raw.reads) (same tells) (is.reads (kept.tells_transfers ∙ tells)) })

  pub reads_since : (call : FileCall) (reply : FileReply) → ReadsNoMore mid call reply after → ReadsNoMore before call reply after
  reads_since call reply is = record {
    whole = λ whole. up_to_since 0 (is.whole whole);
    needed = λ whole. ⊎_elim (λ none. inl (unread_since none)) (λ needs. inr (λ tells. needs (kept.tells_transfers ∙ tells))) (is.needed whole);
    last = up_to_since 1 is.last;
  }

-- a stream whose last answer was short, or wasn't
abbrev pub seen : Bool → Stream → Stream
seen short stream = record stream { short = short }

-- a stream whose last answer wasn't short
abbrev pub whole : Stream → Stream
whole stream = seen false stream

module _ (short : Bool) where
  leaves : (before after : Stream) (expected reply : FileReply) → Leaves (seen short before) expected reply after → Leaves before expected reply after
  leaves before after expected reply left = record { says = left.says; same = left.same }

  end_of : (before : Stream) (end : ℕ) → IsEndOf (seen short before) end → IsEndOf before end
  end_of before end is = record { within = is.within; owed = is.owed; told = is.told }

  from_end : (before after : Stream) (offset : ℤ) (reply : FileReply) → SeeksFromEnd (seen short before) offset reply after → SeeksFromEnd before offset reply after
  from_end before after offset reply sought = grind (arith, end_of)

  end_moves : (before after : Stream) (offset : ℤ) (reply : FileReply) → EndMoves (seen short before) offset reply after → EndMoves before offset reply after
  end_moves before after offset (Refused fault.RawFault) moves = tt
  end_moves before after offset (Refused (fault.WouldBlock taken)) moves = tt
  end_moves before after offset (Refused fault.NoMemory) moves = tt
  end_moves before after offset reply moves = from_end before after offset reply moves

  by_end : (before after : Stream) (call : FileCall) (reply : FileReply) → SeeksByEnd (seen short before) call reply after → SeeksByEnd before call reply after
  by_end before after (Seek offset (pos (suc (suc zero)))) reply seeks = λ asks. end_moves before after offset reply (seeks asks)
  by_end before after call reply seeks = tt

  stays : (before after : Stream) → StaysAmong (seen short before) after → StaysAmong before after
  stays before after is = record { owed = is.owed; belongs = is.belongs; held = is.held; raw_place = is.raw_place; raw_bytes = is.raw_bytes; answered = is.answered }

  went : (before : Stream) (place : ℕ) (after : Stream) → WentTo (seen short before) place after → WentTo before place after
  went before place after is = record { among = λ among. stays before after (is.among (record { reads = among.reads; buffered = among.buffered; after_first = among.after_first; before_end = among.before_end })); away = is.away }

  stands_seen : (before after : Stream) (call : FileCall) (reply : FileReply) → SeekStands (seen short before) call reply after → SeekStands before call reply after
  stands_seen before after call (Refused why) stands = tt
  stands_seen before after (Seek offset whence) (Place place) stands = went before place after stands
  stands_seen before after Tell (Place place) stands = stands
  stands_seen before after call reply stands = tt

  again : (before after : Stream) (call : FileCall) (reply : FileReply) → (closes_again (seen short before) call ≡ true → Leaves (seen short before) Done reply after) → closes_again before call ≡ true → Leaves before Done reply after
  again before after call reply closed closes = grind arith

  ahead_as : (before : Stream) → IsAhead before → IsAhead (seen short before)
  ahead_as before is = record { none = is.none; stands = is.stands }

  owed_behind : (before : Stream) → OwesBehind before → OwesBehind (seen short before)
  owed_behind before behind = record { ends = behind.ends; stands = behind.stands }

  taken : (before after : Stream) (call : FileCall) → (IsTrue (is_writing call) → OwesUpTo before.owed before.place → Takes (seen short before) (payload call) after) → IsTrue (is_writing call) → OwesUpTo before.owed before.place → Takes before (payload call) after
  taken before after call takes writing up_to = let is = takes writing up_to in record { taken = is.taken; within = is.within; place = is.place; passed = is.passed; most = is.most; answered = is.answered; forth = λ behind. is.forth (owed_behind before behind); owed = is.owed; up_to = is.up_to; told = is.told; just = λ lives behind. is.just lives (owed_behind before behind) }

  owed_so : (before after : Stream) (new : List ℕ) → OwesSome (seen short before) new after → OwesSome before new after
  owed_so before after new (inl rest) = inl (record { passed = rest.passed; answered = rest.answered; leaves = rest.leaves })
  owed_so before after new (inr (inl alone)) = inr (inl (record { passed = alone.passed; answered = alone.answered; leaves = alone.leaves }))
  owed_so before after new (inr (inr fills)) = inr (inr (record { passed = fills.passed; answered = fills.answered; cut = fills.cut; leaves = fills.leaves }))

  owed_both : (before after : Stream) (bytes : List ℕ) → OwesBoth (seen short before) bytes after → OwesBoth before bytes after
  owed_both before after bytes is = record { taken = is.taken; within = is.within; place = is.place; owes = λ some. owed_so before after (take is.taken bytes) (is.owes some); none = is.none; told = is.told }

  front_passed : (before after : Stream) → PassesFront (seen short before) after → PassesFront before after
  front_passed before after is = record { passed = is.passed; most = is.most; answered = is.answered; bytes = is.bytes; place = is.place }

  laid : (before : Stream) (call : FileCall) (bytes : List ℕ) → WhereTold before.raw (LaysInOrder (seen short before) call bytes) → WhereTold before.raw (LaysInOrder before call bytes)
  laid before call bytes is tells = grind arith

  targets : (before : Stream) (offset whence : ℤ) (target : ℕ) → SeekTargets (seen short before) offset whence target → SeekTargets before offset whence target
  targets before offset (pos (suc (suc zero))) target goes = (goes.0, end_of before goes.0 goes.1, goes.2)
  targets before offset whence target goes = goes

  stops_away : (before : Stream) (offset whence : ℤ) → StopsAway (seen short before) offset whence → StopsAway before offset whence
  stops_away before offset whence is = record { target = is.target; goes = targets before offset whence is.target is.goes; away = is.away }

  passed : (before after : Stream) (call : FileCall) (reply : FileReply) → PassesOn (seen short before) call reply after → PassesOn before call reply after
  passed before after call reply is = grind (arith, stops_away)

  straight_whole : (before after : Stream) (call : FileCall) (reply : FileReply) → OwesNoneOfIts (seen short before) call reply after → OwesNoneOfIts before call reply after
  straight_whole before after call reply is = grind arith

  writes_seen : (before after : Stream) (call : FileCall) (reply : FileReply) → Writes (seen short before) call reply after → Writes before call reply after
  writes_seen before after call reply written =
      let room : IsTrue (is_writing call) → HasRoom before (payload call) → TakesAlone before call reply after = λ writing has. let is = written.room writing (record { lives = has.lives; buffered = has.buffered; within = has.within; room = has.room; stands = has.stands }) in record { says = is.says; whole = is.whole; raw = is.raw; raw_place = is.raw_place; owes = is.owes; held = is.held } in
      let starves : IsTrue (says_no_memory reply) → IsTrue (is_writing call) → after.life ≡ life.Failed → TookOwn before after = λ wants writing failed. let took = written.starves wants writing failed in record { further = took.further; stands = took.stands; answered = took.answered } in
      search (rules, owed_both, taken, front_passed, owed_behind, laid, passed, straight_whole, written.owes, written.takes, written.leaves, written.stands)

  -- a call of a stream, as of one whose last answer was short, or wasn't
  answers_as : (room : FileCall → Bool) (before after : Stream) (call : FileCall) (reply : FileReply) → AnswersWith room (seen short before) call reply after → AnswersWith room before call reply after
  answers_as room before after call reply answers =
      let goes_on : IsTrue (is_reading call) → IsAhead before → IsAhead after = λ reads ahead. answers.goes_on reads (ahead_as before ahead) in
      let starves : IsTrue (says_no_memory reply) → IsTrue (reads_on call) → StarvesReading before after = λ wanting reads. let starved = answers.starves wanting reads in record { ahead = λ was. let same = starved.ahead (ahead_as before was) in record { unmoved = same.unmoved; moved = same.moved; stands = same.stands }; left = starved.left; unread = starved.unread } in
      let nothing : IsTrue (asks_none before.buffer call) → AsksNothing before reply after = λ asks. let none = answers.nothing asks in record { raw = none.raw; fault = none.fault } in
      let idle : IsTrue (calls_none before.buffer before.can.writable call) → IsIdle before reply after = λ keeps. let still = answers.idle keeps in record { raw = still.raw; fault = still.fault; memory = still.memory } in
      let in_hand : InHand before call → AsksNothing before reply after = λ has. let none = answers.in_hand (record { lives = has.lives; buffered = has.buffered; of = has.of }) in record { raw = none.raw; fault = none.fault } in
      let owing : InHand before call → StaysHeld before after = λ has. let stays = answers.owing (record { lives = has.lives; buffered = has.buffered; of = has.of }) in record { owed = stays.owed; held = stays.held } in
      let brings : IsTrue (is_reading call) → IsAhead before → CameByReads 1 before after = λ reads ahead. came_seen (seen short before) before after after 1 refl refl refl refl (answers.brings reads (ahead_as before ahead)) in
      let needs : IsTrue (by_several before.buffer call) → IsAhead before → AsksNoMore before call reply after = λ reads ahead. let asks = answers.needs reads (ahead_as before ahead) in record { enough = λ whole within buffered. let idle = asks.enough whole within buffered in record { raw = idle.raw; fault = idle.fault }; whole = λ whole. each_seen (seen short before) before after after 0 0 refl refl refl refl (asks.whole whole); needed = asks.needed; last = each_seen (seen short before) before after after 1 1 refl refl refl refl asks.last } in
      let needs_reads : IsTrue (by_several before.buffer call) → ReadsNoMore before call reply after = λ reads. reads_since before (seen short before) after (keeps_same before.raw) (λ tells. refl) refl call reply (answers.needs_reads reads) in
      let spares : before.can.writable ≡ false → before.owed ≡ nothing_owed before.place → SparesBytes before call after = λ reads none. let spared = answers.spares reads none in record { bytes = spared.bytes; written = spared.written; owed = spared.owed; still = spared.still } in
      search (rules, leaves, again, by_end, stands_seen, writes_seen, answers.refused, answers.writes)

-- what a call does with the bytes of a stream doesn't hang on whether the last answer before it was short
pub writes_whole : (before after : Stream) (call : FileCall) (reply : FileReply) → Writes (whole before) call reply after → Writes before call reply after
writes_whole before after call reply written = writes_seen false before after call reply written

-- a call of a stream, as of one whose last answer wasn't short
pub answers_whole : (before after : Stream) (call : FileCall) (reply : FileReply) → Answers (whole before) call reply after → Answers before call reply after
answers_whole before after call reply answers = answers_as false has_room before after call reply answers

-- an answer of a stream is one also where fewer calls are said to have their room
pub answers_with : (room less : FileCall → Bool) (before after : Stream) (call : FileCall) (reply : FileReply) → (IsTrue (less call) → IsTrue (room call)) → AnswersWith room before call reply after → AnswersWith less before call reply after
answers_with room less before after call reply fewer answers = grind arith
