-- What an accepted reading answers, however it came out; and facts about the calls that read, each proved by going over the calls.
use Rattle.std.proofs.Common.{◌≡◌, ◌≢◌, ℕ, ◌≤◌, Bool, true, false, ◌||◌, IsTrue, List, [], ◌++◌, length, inl, inr, refl, subst, Option, Some, None, arith, ◌<◌, ◌&&◌, IsSome, Err, sym, ap, ◌∙◌, rules}
use Rattle.std.proofs.lemmas.List.{length-take}
use Rattle.py_flat.specs.declared.fault.IoFault.{IoFault}
use Rattle.py_flat.specs.declared.fault.IoFault.TheVariants as fault
use Rattle.py_flat.specs.declared.life.Life.{Life}
use Rattle.py_flat.specs.declared.life.Life.TheVariants as life
use Rattle.py_flat.specs.Lines.{Lf, line_after, first_line}
use Rattle.py_flat.specs.Calls.{FileCall, Read, ReadLine, ReadLines, ReadInto, FileReply, NotReady, Refused}
use Rattle.py_flat.specs.FlatFile.{FlatFile}
use Rattle.py_flat.specs.Refusals.{refusal, is_getter, is_other_getter, is_close, is_detach, lacks, is_buffered}
use Rattle.py_flat.specs.ExactStep.{rest, is_closed}
use Rattle.py_flat.specs.BinaryStep.{asks_end, is_tell, Fails, FaultedBy, StarvedBy, BinaryStep, does_work}
use Rattle.py_stream.specs.Stream.{Stream, size_of, buffering_of, file_of, nothing_owed}
use Rattle.py_stream.specs.Kinds.{is_reading, reads_on, goes_on, by_several, makes_one, is_writing, asks_none, calls_none, waits_unready, says_fault, says_no_memory, has_room}
use Rattle.py_stream.specs.Writing.{LaysInOrder, PassesOn, OwesNoneOfIts, Writes}
use Rattle.py_stream.specs.Answers.{IsReplyTo, IsShort, LifeMoves, PlaceMoves, PlaceFails, PlaceStarves, moves_most, StarvesTo, SeeksByEnd, SeekStands, HasAllHeld, ahead, InHandOf, IsWhole, closes_again, parts_at_close, Answers, CameByReads, GivesWithin, WantsMemory, Starves, BringsSome, StarvesReading, HasCauses, IsCounted, StarvesFirst, IsAhead, InHand, StaysHeld, AsksNoMore, ReadsNoMore, ReadsOnce, PassesFirst, refused_by}
use Rattle.py_stream.specs.Reading.{wanted_by, reply_by, ComesHeld, WantsHeld, KeepsReading, OneTransfer, Reaches}
use Rattle.py_flat.specs.Owed.{Owed}
use Rattle.py_raw.specs.RawStream.{StaysOpen, WhereTold}
use Rattle.py_stream.proofs.Begun.{answers_whole, near_seen, came_seen, reads_asked}
use Rattle.py_stream.proofs.Refused.{completes}
use Rattle.py_stream.proofs.Refusing.{IsPlaced, refused_alone, begins_in_vain}
use Rattle.py_stream.specs.Moving.{Begins}

-- What holds of every call that reads.

-- what a call that reads is, and what its refusals and its want of an answer say, whatever stream it is made of
pub record IsReadingCall (call : FileCall) : Type 0 where
  pub getter : is_getter call ≡ false
  pub tells : (is_getter call || is_tell call) ≡ false
  pub other : is_other_getter call ≡ false
  pub closes : is_close call ≡ false
  pub parts : (before : Stream) (reply : FileReply) (after : Stream) → parts_at_close before call reply after ≡ false
  pub detaches : is_detach call ≡ false
  pub writing : is_writing call ≡ false
  pub unready : (buffer : Option ℕ) → waits_unready buffer call ≡ true
  pub kept : (buffer : Option ℕ) (writes : Bool) → calls_none buffer writes call ≡ false
  pub unended : (file : FlatFile) → asks_end file call ≡ false
  pub ends : (before : Stream) (reply : FileReply) (after : Stream) → SeeksByEnd before call reply after
  pub seeks : (before : Stream) (reply : FileReply) (after : Stream) → SeekStands before call reply after
  pub again : (stream : Stream) → closes_again stream call ≡ false
  pub accepts : (file : FlatFile) → file.life ≡ life.Live → lacks file call ≡ false → refusal file call ≡ None
  pub lays : (before : Stream) (bytes : List ℕ) → bytes ≡ before.raw.bytes → LaysInOrder before call bytes
  pub passes : (before : Stream) (reply : FileReply) (after : Stream) → PassesOn before call reply after
  pub straight : (before : Stream) (reply : FileReply) (after : Stream) → OwesNoneOfIts before call reply after
  pub said : (part : List ℕ) → says_fault (reply_by call part) ≡ false
  pub gave : (part : List ℕ) → says_no_memory (reply_by call part) ≡ false
  pub part_lives : (buffer : Option ℕ) (part : List ℕ) (before after : Life) → after ≡ before → LifeMoves buffer call (reply_by call part) before after
  pub part_answers : (buffer : Option ℕ) (writes : Bool) (part : List ℕ) → IsReplyTo buffer writes call (reply_by call part)
  pub unready_short : IsShort call NotReady true
  pub unready_lives : (buffer : Option ℕ) (before after : Life) → after ≡ before → LifeMoves buffer call NotReady before after
  pub unready_stays : (buffer : Option ℕ) (current : Life) (before after : ℕ) → after ≡ before → PlaceMoves buffer call NotReady current before after
  pub unready_whole : IsWhole call NotReady → ⊥
  pub refused_whole : (why : IoFault) → IsWhole call (Refused why) → ⊥
  pub fault_short : IsShort call (Refused fault.RawFault) false
  pub fault_fails : (buffer : Option ℕ) (before after : Life) → after ≡ life.Failed → LifeMoves buffer call (Refused fault.RawFault) before after
  pub fault_moves : (buffer : Option ℕ) (current : Life) (before after : ℕ) → PlaceFails (goes_on buffer call) (moves_most call) before after → PlaceMoves buffer call (Refused fault.RawFault) current before after
  pub fault_answers : (buffer : Option ℕ) (writes : Bool) → IsReplyTo buffer writes call (Refused fault.RawFault)
  pub faulted_by : (file after : FlatFile) → Fails file life.Failed file.bytes after → FaultedBy file call after
  pub want_short : IsShort call (Refused fault.NoMemory) false
  pub want_lives : (buffer : Option ℕ) (before after : Life) → StarvesTo (goes_on buffer call) before after → LifeMoves buffer call (Refused fault.NoMemory) before after
  pub want_moves : (buffer : Option ℕ) (current : Life) (before after : ℕ) → PlaceStarves current (moves_most call) before after → PlaceMoves buffer call (Refused fault.NoMemory) current before after
  pub want_answers : (buffer : Option ℕ) (writes : Bool) → IsReplyTo buffer writes call (Refused fault.NoMemory)

-- what holds of every call that reads holds of each
pub reading_call : (call : FileCall) → is_reading call ≡ true → IsReadingCall call
reading_call call reads = grind arith

-- Readings that go on.

-- each reading that goes on is a call that reads
pub reading_on : (call : FileCall) → reads_on call ≡ true → is_reading call ≡ true
reading_on call on = grind arith

-- what a reading by several transfers is
pub record IsSeveral (buffer : Option ℕ) (call : FileCall) : Type 0 where
  pub on : reads_on call ≡ true
  pub goes : goes_on buffer call ≡ true
  pub many : makes_one buffer call ≡ false

-- without a buffer a reading of a size makes a single transfer
pub is_several : (buffer : Option ℕ) (call : FileCall) → by_several buffer call ≡ true → IsSeveral buffer call
is_several buffer call several = grind arith

-- a stream that reads has what a reading that goes on needs
pub on_suits : (file : FlatFile) (call : FileCall) → reads_on call ≡ true → file.can.readable ≡ true → lacks file call ≡ false
on_suits file call on reads = grind arith

asks_for_none : (buffer : Option ℕ) (call : FileCall) (left : List ℕ) → reads_on call ≡ true → IsTrue (asks_none buffer call) → (most : ℕ) → length (wanted_by call left) ≤ most
asks_for_none buffer call left on asks most = grind arith

-- a reading that asks for nothing wants no more than is held
pub nothing_held : (before : Stream) (call : FileCall) → reads_on call ≡ true → IsTrue (asks_none before.buffer call) → WantsHeld (wanted_by call) before
nothing_held before call on asks front more comes = asks_for_none before.buffer call (front ++ more) on asks (ahead before)

-- no more is wanted than the call says
pub wanted_within : (call : FileCall) (most : ℕ) → reads_on call ≡ true → moves_most call ≡ Some most → (bytes : List ℕ) → length (wanted_by call bytes) ≤ most
wanted_within (Read (Some size)) most on is bytes = let same : size ≡ most = cc in omega (arith, same, length-take size bytes)
wanted_within (ReadInto size) most on is bytes = let same : size ≡ most = cc in omega (arith, same, length-take size bytes)
wanted_within (ReadLine (Some limit)) most on is bytes = let same : limit ≡ most = cc in omega (arith, same, length-take limit (line_after Lf false bytes))
wanted_within call most on is bytes = absurd (cc)

-- the bytes held have all of what is wanted
held_whole : (before : Stream) (wanted : List ℕ → List ℕ) → HasAllHeld wanted before → (front more : List ℕ) → ComesHeld before front → length (wanted (front ++ more)) ≤ ahead before
held_whole before wanted has front more comes = subst (λ (held : List ℕ). length (wanted (held ++ more)) ≤ ahead before) (comes has.0) (has.1 more)

-- a reading that the bytes held answer by themselves wants no more than these
pub in_hand_held : (before : Stream) (call : FileCall) → reads_on call ≡ true → InHandOf before call → WantsHeld (wanted_by call) before
in_hand_held before (Read (Some size)) on has front more comes = omega (arith, has, length-take size (front ++ more))
in_hand_held before (ReadInto size) on has front more comes = omega (arith, has, length-take size (front ++ more))
in_hand_held before (ReadLine (Some limit)) on (inl many) front more comes = omega (arith, many, wanted_within (ReadLine (Some limit)) limit refl refl (front ++ more))
in_hand_held before (ReadLine (Some limit)) on (inr has) front more comes = held_whole before (first_line Lf (Some limit)) has front more comes
in_hand_held before (ReadLine None) on has front more comes = held_whole before (first_line Lf None) has front more comes
in_hand_held before (ReadLines hint) on has front more comes = held_whole before (wanted_by (ReadLines hint)) has front more comes
in_hand_held before (Read None) on has front more comes = absurd has
in_hand_held before call on has front more comes = absurd (cc)

-- running out of memory may fail a reading that goes on, where some bytes are wanted
pub starved_by_failing : (file : FlatFile) (call : FileCall) (after : FlatFile) → reads_on call ≡ true → wanted_by call (rest file) ≢ [] → Fails file life.Failed file.bytes after → StarvedBy file call after
starved_by_failing file call after on some fails = grind arith

-- How a reading begins.

-- what is known of a live stream with which a reading begins: it reads, owes nothing, and its raw stands after the bytes held
pub record Reads (before : Stream) : Type 0 where
  pub live : before.life ≡ life.Live
  pub whole : before.short ≡ false
  pub readable : before.can.readable ≡ true
  pub bare : before.owed ≡ nothing_owed before.place
  pub placed : IsPlaced before
  pub ahead : before.raw_place ≡ before.held.to

-- no reading that the stream has the abilities for is refused
pub accepted : (before : Stream) (call : FileCall) → is_reading call ≡ true → lacks (file_of before) call ≡ false → before.life ≡ life.Live → refusal (file_of before) call ≡ None
accepted before call reads has live = grind arith

-- the raw may be called for a reading that isn't refused
pub works : (before : Stream) (call : FileCall) → is_reading call ≡ true → lacks (file_of before) call ≡ false → before.life ≡ life.Live → IsTrue (does_work (file_of before) call)
works before call reads has live = grind arith

-- the stream that a reading came to, and that with which it begins: its last answer is forgotten
pub record ReadingBegins (first before : Stream) : Type 0 where
  pub reads : Reads before
  pub from : before ≡ record first { short = false }

-- what answers the stream with which a reading begins answers the one that the reading came to
pub answers_begun : (first before : Stream) (call : FileCall) (reply : FileReply) (after : Stream) → before ≡ record first { short = false } → Answers before call reply after → Answers first call reply after
answers_begun first before call reply after is answers = answers_whole first after call reply (subst (λ (stream : Stream). Answers stream call reply after) is answers)

-- the life refuses a reading
pub reading_refused : (before after : Stream) (call : FileCall) (why : IoFault) → is_reading call ≡ true → IsPlaced before → Begins before (Err why) after → Answers before call (Refused why) after
reading_refused before after call why reads placed begins =
    let is : IsReadingCall call = reading_call call reads in
    begins_in_vain before after call why placed is.getter is.other is.closes (ap (λ (detaches : Bool). detaches && is_buffered (buffering_of before.buffer)) is.detaches) begins

-- What a reading comes to.

-- a stream that writes passes nothing on in a reading, as it owes nothing
passes_nothing : (before mid : Stream) (short : Bool) (call : FileCall) (reply : FileReply) → is_reading call ≡ true → Reads before → KeepsReading before mid → IsReplyTo before.buffer before.can.writable call reply → Writes before call reply (record mid { short = short })
passes_nothing before mid short call reply reads begun kept answers = grind arith

-- a reading that was answered, and what it left, but for whether a wait cut it short
pub record Comes (before : Stream) (call : FileCall) (reply : FileReply) (short : Bool) (mid : Stream) : Type 0 where
  pub kept : KeepsReading before mid
  pub is_open : is_closed mid.life ≡ false
  pub causes : HasCauses before.raw reply mid.raw short
  pub counted : IsTrue before.raw.counts_exactly → IsCounted before.buffer before.raw call reply mid.raw short
  pub shorts : IsShort call reply short
  pub life_is : LifeMoves before.buffer call reply before.life mid.life
  pub place : PlaceMoves before.buffer call reply mid.life before.place mid.place
  pub within : GivesWithin (size_of before) call reply
  pub wants : WantsMemory (has_room call) reply before.raw
  pub starves : IsTrue (says_no_memory reply) → IsTrue (reads_on call) → Starves before (record mid { short = short })
  pub first : StarvesFirst before call reply (record mid { short = short })
  pub sound : IsTrue (asks_none before.buffer call) → says_fault reply ≡ false
  pub nothing : IsTrue (asks_none before.buffer call) → mid.raw ≡ before.raw
  pub one : IsTrue (makes_one before.buffer call) → OneTransfer before mid
  pub ready : IsSome before.buffer → InHandOf before call → says_fault reply ≡ false
  pub in_hand : IsSome before.buffer → InHandOf before call → mid.raw ≡ before.raw
  pub holds : IsSome before.buffer → InHandOf before call → mid.held ≡ before.held
  pub brings : CameByReads 1 before mid
  pub needs : IsTrue (by_several before.buffer call) → AsksNoMore before call reply (record mid { short = short })
  pub answers : IsReplyTo before.buffer before.can.writable call reply
  pub told : WhereTold before.raw (BinaryStep (file_of before) call reply short (says_fault reply) (file_of mid))
  pub reach : Reaches before mid
  pub hides : IsTrue short → mid.raw_place ≡ mid.place

-- where the raw came further, as the stream counts, its reads brought some bytes
brings_some : (before mid : Stream) → before.raw_place < mid.raw_place → CameByReads 1 before mid → BringsSome before mid
brings_some before mid further came tells = omega (arith, further, (came.reads tells).brought)

-- what a reading left answers the call
pub answers_coming : (before mid : Stream) (call : FileCall) (reply : FileReply) (short : Bool) → is_reading call ≡ true → lacks (file_of before) call ≡ false → Reads before → Comes before call reply short mid → Answers before call reply (record mid { short = short })
answers_coming before mid call reply short reads has begun comes =
    let is : IsReadingCall call = reading_call call reads in
    let unrefused : refused_by before call ≡ None = refused_alone before call (is.unended (file_of before)) ∙ accepted before call reads has begun.live in
    let after : Stream = record mid { short = short } in
    let kept : KeepsReading before mid = comes.kept in
    let goes_on : IsAhead after = record { none = ap (λ (owed : Owed). owed.bytes) kept.owed; stands = λ _. kept.ahead } in
    let none : mid.owed.bytes ≡ before.owed.bytes = ap (λ (owed : Owed). owed.bytes) kept.owed ∙ sym (ap (λ (owed : Owed). owed.bytes) begun.bare) in
    let owing : InHand before call → StaysHeld before after = λ has. record { owed = none; held = comes.holds has.buffered has.of } in
    let starves : IsTrue (says_no_memory reply) → IsTrue (reads_on call) → StarvesReading before after = λ wanting on. record {
      ahead = λ _. comes.starves wanting on;
      left = λ failed. brings_some before mid ((comes.starves wanting on).moved failed) comes.brings;
      unread = λ lives tells. ap (λ (stream : Stream). stream.raw.reads) ((comes.starves wanting on).unmoved lives);
    } in
    let once : IsTrue (makes_one before.buffer call) → ReadsOnce before after = λ single. (comes.one single).once in
    let behind : before.place ≤ before.raw_place = let near = begun.placed.near begun.live in omega (arith, near.before_end, begun.ahead) in
    let needs_reads : IsTrue (by_several before.buffer call) → ReadsNoMore before call reply after = λ several. reads_asked before call reply after behind (comes.needs several) in
    let passes_first : PassesFirst before call reply after = λ _ _ _ _ _. goes_on.none in
    let parted : parts_at_close before call reply after ≡ true → StaysOpen before.raw after.raw = λ parts. absurd (cc (parts, is.parts before reply after)) in
    search (rules, passes_nothing, completes, near_seen, came_seen)
