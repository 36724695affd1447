-- A call that gives or takes bytes, before which all that was owed was passed on: its answer is one of the stream as it was before.
use Rattle.std.proofs.Common.{◌≡◌, ◌≢◌, ℕ, suc, ◌+◌, ◌-◌, ◌≤◌, ◌⊎◌, inl, inr, max, Bool, true, false, ◌||◌, IsTrue, List, [], ◌∷◌, ◌++◌, length, take, drop, Option, None, IsSome, Ok, refl, sym, ap, ◌∙◌, subst, arith, length-drop, rules}
use Rattle.std.proofs.Math.Seq.{take-nil, drop-nil, drop-append-add}
use Rattle.std.proofs.lemmas.List.{take_all, drop_all, length-take-le}
use Rattle.py_flat.specs.declared.life.Life.TheVariants as life
use Rattle.py_flat.specs.Bytes.{lay}
use Rattle.py_flat.specs.Calls.{FileCall, Detach, FileReply, Done, Unwritten}
use Rattle.py_flat.specs.FlatFile.{Abilities, FlatFile}
use Rattle.py_flat.specs.Owed.{Owed}
use Rattle.py_flat.specs.BinaryStep.{BinaryStep, payload}
use Rattle.py_flat.specs.Causes.{Rose, rose}
use Rattle.py_flat.proofs.Laying.{lay_behind}
use Rattle.py_raw.specs.declared.reads.Reads.{Reads}
use Rattle.py_raw.specs.Reads.{after_read}
use Rattle.py_raw.specs.RawStream.{Keeps, StaysOpen, KeepsReads, WhereTold, WhereTransfers, AnswersFor}
use Rattle.py_raw.proofs.Telling.{tells_still}
use Rattle.py_raw.proofs.ReadingOn.{Keeps-then}
use Rattle.py_stream.specs.Stream.{Stream, file_of, nothing_owed}
use Rattle.py_stream.specs.Kinds.{is_reading, is_writing, reads_on, takes_space_first, makes_one, asks_none, by_several, calls_none, has_room, says_fault, says_no_memory, says_given}
use Rattle.py_stream.specs.Writing.{HasRoom, OwesBehind, LaysTaken, Takes, PassesFront, OwesBoth, LaysFront, LaysInOrder, OwesOld, OwesNoneOfIts, TookOwn, Writes, NoneAtPlace, TakesAlone}
use Rattle.py_stream.specs.Keeping.{KeepsOn}
use Rattle.py_stream.specs.Answers.{Answers, Leaves, AsksNothing, IsIdle, StaysHeld, SparesBytes, IsAnswerTo, KeepsStream, ClosedWith, WantsMemory, IsCounted, IsReplyTo, HasCauses, IsAhead, GoesPast, InHand, AsksNoMore, ReadsNoMore, AtMostOne, ReadsOnce, PassesFirst, CameByReads, StarvesReading, StarvesFirst, SeeksByEnd, SeekStands, refused_by, closes_again, parts_at_close}
use Rattle.py_stream.specs.Settling.{PassesSome, LivesOn, SettleOutcome}
use Rattle.py_stream.proofs.Taking.{waited_then, faulted_then, answers_then, answers_still}
use Rattle.py_stream.proofs.Flat.{flat_of}
use Rattle.py_stream.proofs.Refused.{gives_none, completes}
use Rattle.py_stream.proofs.Begun.{reads_since}
use Rattle.py_stream.proofs.Giving.{IsGiving, is_giving}
use Rattle.py_stream.proofs.Showing.{not_refused}
use Rattle.py_stream.proofs.ReadingAnswers.{IsReadingCall, reading_call}
use Rattle.py_stream.proofs.PassingOn.{passed_all}
use Rattle.py_stream.proofs.Owing.{ends_at}

-- The situation.

-- all that a live stream owed was passed on, for a call that isn't refused: the stream has a buffer, and writes
pub record SettledFor (before : Stream) (call : FileCall) (mid : Stream) : Type 0 where
  pub live : before.life ≡ life.Live
  pub writes : before.can.writable ≡ true
  pub buffered : IsSome before.buffer
  pub accepted : refused_by before call ≡ None
  pub settled_by : SettleOutcome before (Ok tt) mid

-- a reading, for which all that was owed was passed on, as the bytes held don't answer it: some was owed, or the raw didn't stand after
-- them. Where nothing was owed, no transfer was made for that; the call asks for some byte; where memory ran out for the space that
-- it takes first, the raw takes some; and it goes on from the bytes held then
pub record SettledReading (before : Stream) (call : FileCall) (reply : FileReply) (mid : Stream) : Type 0 where
  pub settled : SettledFor before call mid
  pub apart : IsAhead before → ⊥
  pub hand : InHand before call → ⊥
  pub asks : asks_none before.buffer call ≡ false
  pub takes : IsTrue (says_no_memory reply) → IsTrue (takes_space_first call) → IsTrue before.raw.takes_memory
  pub calm : before.owed.bytes ≡ [] → WhereTransfers before.raw (mid.raw.transfers ≤ before.raw.transfers)
  pub ahead : IsAhead mid

-- a call that writes, for which all that was owed was passed on, as the buffer had no room: nothing is owed any more, and the raw stands at
-- the place
pub record SettledWriting (before : Stream) (call : FileCall) (mid : Stream) : Type 0 where
  pub settled : SettledFor before call mid
  pub roomless : HasRoom before (payload call) → ⊥
  pub none : mid.owed ≡ nothing_owed mid.place
  pub stands : mid.raw_place ≡ mid.place

-- The stream in between.

-- a stream, with the raw of another, its place there, and what that owes and holds
abbrev pub settled_as : Stream → Stream → Stream
settled_as before mid = record before { raw = mid.raw; raw_place = mid.raw_place; owed = mid.owed; held = mid.held }

-- passing on leaves all else as it was
same_else : (before mid : Stream) → before.life ≡ life.Live → LivesOn before mid → mid ≡ settled_as before mid
same_else before mid live goes = grind arith

-- passing on all leaves the flat bytes
same_bytes : (before mid : Stream) → PassesSome before mid → mid.owed.bytes ≡ [] → WhereTold before.raw (flat_of mid ≡ flat_of before)
same_bytes before mid passes none tells = ap (lay mid.raw.bytes mid.owed.place) none ∙ passed_all before mid passes none tells

-- so it leaves the flat file as it was
same_file : (before mid : Stream) → PassesSome before mid → mid.owed.bytes ≡ [] → WhereTold before.raw (file_of (settled_as before mid) ≡ file_of before)
same_file before mid passes none tells = ap (λ (all : List ℕ). record (file_of before) { bytes = all }) (same_bytes before mid passes none tells)

-- all that was owed was passed on, where nothing is owed any more
all_passed : (before mid : Stream) (passes : PassesSome before mid) → mid.owed.bytes ≡ [] → passes.passed ≡ length before.owed.bytes
all_passed before mid passes none = omega (arith, passes.within, length-drop passes.passed before.owed.bytes, ap length passes.owed, ap length none)

-- so the raw answered for as many bytes as were owed
all_answered : (before mid : Stream) → PassesSome before mid → mid.owed.bytes ≡ [] → AnswersFor (length before.owed.bytes) before.raw mid.raw
all_answered before mid passes none = subst (λ (count : ℕ). AnswersFor count before.raw mid.raw) (all_passed before mid passes none) passes.answered

-- The calls.

-- what is alike of all calls that give or take bytes
pub record MovesBytes (call : FileCall) : Type 0 where
  pub closes : (stream : Stream) → closes_again stream call ≡ false
  pub parts : (before : Stream) (reply : FileReply) (after : Stream) → parts_at_close before call reply after ≡ false
  pub calls : (buffer : Option ℕ) (writes : Bool) → calls_none buffer writes call ≡ false
  pub ends : (before : Stream) (reply : FileReply) (after : Stream) → SeeksByEnd before call reply after
  pub seeks : (before : Stream) (reply : FileReply) (after : Stream) → SeekStands before call reply after
  pub accepts : (before mid : Stream) → refused_by before call ≡ None → refused_by (settled_as before mid) call ≡ None

-- what is alike of these calls holds of each
pub moves_bytes : (call : FileCall) → (is_reading call || is_writing call) ≡ true → MovesBytes call
moves_bytes call moves = grind arith

-- a call that writes is one of them
writes_moves : (call : FileCall) → is_writing call ≡ true → (is_reading call || is_writing call) ≡ true
writes_moves call writing = grind arith

-- a stream with a buffer takes bytes by several transfers
takes_by_several : (buffer : Option ℕ) (call : FileCall) → IsSome buffer → is_writing call ≡ true → makes_one buffer call ≡ false
takes_by_several buffer call some writing = grind arith

-- What such an answer has of its own.

-- what an answer after a passing on has to say of the bytes that were held, of memory and of transfers, and of what is owed
pub record AfterSettling (before : Stream) (call : FileCall) (reply : FileReply) (after : Stream) : Type 0 where
  pub goes_on : IsTrue (is_reading call) → IsAhead before → IsAhead after
  pub goes_past : IsTrue (is_reading call) → IsTrue (says_given reply) → GoesPast before after → IsAhead after
  pub starves : IsTrue (says_no_memory reply) → IsTrue (reads_on call) → StarvesReading before after
  pub first : StarvesFirst before call reply after
  pub nothing : asks_none before.buffer call ≡ false
  pub single : IsTrue (makes_one before.buffer call) → before.owed.bytes ≡ [] → AtMostOne before after
  pub once : IsTrue (makes_one before.buffer call) → ReadsOnce before after
  pub passes_first : PassesFirst before call reply after
  pub brings : IsTrue (is_reading call) → IsAhead before → CameByReads 1 before after
  pub unread : is_reading call ≡ false → KeepsReads before.raw after.raw
  pub in_hand : InHand before call → ⊥
  pub needs : IsTrue (by_several before.buffer call) → IsAhead before → AsksNoMore before call reply after
  pub needs_reads : IsTrue (by_several before.buffer call) → ReadsNoMore before call reply after
  pub writes : Writes before call reply after

-- what an answer has in common with that of the stream in between
then_answers : (before mid after : Stream) (call : FileCall) (reply : FileReply) → (is_reading call || is_writing call) ≡ true → SettledFor before call mid → Answers (settled_as before mid) call reply after → AfterSettling before call reply after → Answers before call reply after
then_answers before mid after call reply moves settled answers own =
    let is : MovesBytes call = moves_bytes call moves in
    let goes : LivesOn before mid = settled.settled_by.0 in
    let passes : PassesSome before mid = goes.passes in
    let kept : Keeps before.raw mid.raw = passes.kept.raw in
    let causes : HasCauses before.raw reply after.raw after.short = record { waits = λ short. waited_then before.raw mid.raw after.raw kept (answers.causes.waits short); faults = λ says. faulted_then before.raw mid.raw after.raw kept (answers.causes.faults says) } in
    let keeps : KeepsStream before after = record { buffer = answers.keeps.buffer; can = answers.keeps.can; raw = Keeps-then before.raw mid.raw after.raw kept answers.keeps.raw; bare = λ bare _. answers.keeps.bare bare (passes.kept.sound.bare (passes.kept.buffer ∙ bare) ∙ ap nothing_owed passes.still) } in
    let shut : parts_at_close before call reply after ≡ false → after.owed.bytes ≡ [] → ClosedWith before.life before.raw → ClosedWith after.life after.raw = λ _ none closed. answers.shut (is.parts (settled_as before mid) reply after) none (passes.kept.stays ∙ closed) in
    let parted : parts_at_close before call reply after ≡ true → StaysOpen before.raw after.raw = λ parts. absurd (cc (parts, is.parts before reply after)) in
    let counted : IsTrue before.raw.counts_exactly → IsCounted before.buffer before.raw call reply after.raw after.short = λ exact. let counts = answers.counted (kept.counts_exactly ∙ exact) in record { faults = λ none. counts.faults none ∙ goes.no_fault exact; waits = λ whole ends. counts.waits whole ends ∙ settled.settled_by.1 exact; once = λ short ends. cc (counts.once short ends, settled.settled_by.1 exact) } in
    let wants : WantsMemory (has_room call) reply before.raw = λ wanting room. sym kept.takes_memory ∙ answers.wants wanting room in
    let answer : IsReplyTo before.buffer before.can.writable call reply = answers.answer (is.accepts before mid settled.accepted) in
    let told : WhereTold before.raw (BinaryStep (file_of before) call reply after.short (says_fault reply) (file_of after)) = λ tells. subst (λ (file : FlatFile). BinaryStep file call reply after.short (says_fault reply) (file_of after)) (same_file before mid passes settled.settled_by.2 tells) (answers.told (tells_still before.raw mid.raw kept ∙ tells)) in
    let reach : IsTrue (is_reading call) → WhereTold before.raw (after.place ≤ max before.place (length (file_of before).bytes)) = λ reads tells. subst (λ (file : FlatFile). after.place ≤ max before.place (length file.bytes)) (same_file before mid passes settled.settled_by.2 tells) (answers.reach reads (tells_still before.raw mid.raw kept ∙ tells)) in
    let again : closes_again before call ≡ true → Leaves before Done reply after = λ closes. absurd (cc (closes, is.closes before)) in
    let nothing : IsTrue (asks_none before.buffer call) → AsksNothing before reply after = λ asks. absurd (cc (own.nothing)) in
    let idle : IsTrue (calls_none before.buffer before.can.writable call) → IsIdle before reply after = λ keeps. absurd (cc (is.calls before.buffer before.can.writable)) in
    let in_hand : InHand before call → AsksNothing before reply after = λ has. absurd (own.in_hand has) in
    let owing : InHand before call → StaysHeld before after = λ has. absurd (own.in_hand has) in
    let spares : before.can.writable ≡ false → before.owed ≡ nothing_owed before.place → SparesBytes before call after = λ reads. absurd (cc (settled.writes)) in
    let complete : refused_by before call ≡ None → rose before.raw.waits after.raw.waits ≡ false → rose before.raw.faults after.raw.faults ≡ false → IsAnswerTo call reply × (after.short ≡ false) = λ _ calm sound. completes before.raw after.raw before.buffer before.can.writable call reply after.short causes answers.shorts answer calm sound in
    let at_once : before.life ≡ life.Failed → call ≡ Detach → refused_by before call ≡ None → (bytes : List ℕ) × (place : Option ℕ) × (reply ≡ Unwritten bytes place) = λ failed. absurd (let wrong : life.Live ≡ life.Failed = sym settled.live ∙ failed in cc) in
    search (rules, is.ends before reply after, is.seeks before reply after, not_refused)

-- an answer of the stream in between is one of that stream, as it is seen from the first
as_settled : (before mid after : Stream) (call : FileCall) (reply : FileReply) → SettledFor before call mid → Answers mid call reply after → Answers (settled_as before mid) call reply after
as_settled before mid after call reply settled answers = subst (λ (stream : Stream). Answers stream call reply after) (same_else before mid settled.live settled.settled_by.0) answers

-- Readings.

-- a front of nothing, laid on, is nothing
lays_none : (bytes own : List ℕ) (first second passed more : ℕ) (after : List ℕ) → own ≡ [] → after ≡ lay (lay bytes first (take passed own)) second (take more []) → after ≡ bytes
lays_none bytes own first second passed more after none is = is ∙ ap (λ (t : List ℕ). lay (lay bytes first (take passed own)) second t) (take-nil more) ∙ ap (λ (t : List ℕ). lay bytes first (take passed t)) none ∙ ap (lay bytes first) (take-nil passed)

-- what a reading lays on is a front of what is owed, and all of these are allowed
record LaysOwed (call : FileCall) : Type 0 where
  of_front : (before : Stream) (bytes : List ℕ) → LaysFront before [] bytes → LaysInOrder before call bytes
  to_front : (before : Stream) (bytes : List ℕ) → LaysInOrder before call bytes → LaysFront before [] bytes

-- this holds of each reading
lays_owed : (call : FileCall) → is_reading call ≡ true → LaysOwed call
lays_owed call reads = grind arith

-- a reading after a passing on lays nothing more on
reading_lays : (before mid after : Stream) → PassesSome before mid → mid.owed.bytes ≡ [] → WhereTold mid.raw (LaysFront (settled_as before mid) [] after.raw.bytes) → WhereTold before.raw (LaysFront before [] after.raw.bytes)
reading_lays before mid after passes none more tells =
    let laid = more (tells_still before.raw mid.raw passes.kept.raw ∙ tells) in
    subst (λ (bytes : List ℕ). LaysFront before [] bytes) (sym (lays_none mid.raw.bytes mid.owed.bytes mid.owed.place before.place laid.passed laid.more after.raw.bytes none laid.laid)) (passes.lays tells)

-- what a reading after a passing on does with the bytes that were owed
reading_writes : (before mid after : Stream) (call : FileCall) (reply : FileReply) → is_reading call ≡ true → SettledFor before call mid → Writes (settled_as before mid) call reply after → Writes before call reply after
reading_writes before mid after call reply reads settled writes =
    let is : IsReadingCall call = reading_call call reads in
    let lays : LaysOwed call = lays_owed call reads in
    let passes : PassesSome before mid = settled.settled_by.0.passes in
    let none : mid.owed.bytes ≡ [] = settled.settled_by.2 in
    let leaves : is_writing call ≡ false → PassesFront before after = λ _. grind (arith, drop-nil, answers_still, writes.leaves is.writing) in
    let laid : WhereTold before.raw (LaysInOrder before call after.raw.bytes) = λ tells. lays.of_front before after.raw.bytes (reading_lays before mid after passes none (λ told. lays.to_front (settled_as before mid) after.raw.bytes (writes.lays told)) tells) in
    let settles : NoneAtPlace before → NoneAtPlace after = λ at. writes.settles (λ nothing. passes.at at nothing ∙ passes.still) in
    let unclosed : after.owed.bytes ≢ [] → after.raw.closed ≡ before.raw.closed = λ some. writes.unclosed some ∙ passes.kept.stays in
    let rests : before.life ≢ life.Live → after.raw ≡ before.raw = λ dead. absurd (dead settled.live) in
    search (rules)

-- a stream that goes on from the bytes held does so as it is seen from the first
ahead_settled : (before mid : Stream) (call : FileCall) → SettledFor before call mid → IsAhead mid → IsAhead (settled_as before mid)
ahead_settled before mid call settled ahead = record { none = ahead.none; stands = λ can. ahead.stands (ap (λ (able : Abilities). able.writable) settled.settled_by.0.passes.kept.can ∙ can) }

-- a passing on reads nothing
once_then : (before mid after : Stream) → KeepsOn before mid → ReadsOnce (settled_as before mid) after → ReadsOnce before after
once_then before mid after kept once tells = subst (λ (reads : Reads). (after.raw.reads ≡ reads) ⊎ ((count : ℕ) × (after.raw.reads ≡ after_read reads count))) (kept.reads tells) (once (kept.raw.tells_transfers ∙ tells))

-- what the answer of a reading after a passing on has of its own
reading_own : (before mid after : Stream) (call : FileCall) (reply : FileReply) → is_reading call ≡ true → SettledReading before call reply mid → Answers (settled_as before mid) call reply after → AfterSettling before call reply after
reading_own before mid after call reply reads is answers =
    let ahead : IsAhead after = answers.goes_on reads (ahead_settled before mid call is.settled is.ahead) in
    let kept : KeepsOn before mid = is.settled.settled_by.0.passes.kept in
    let starves : IsTrue (says_no_memory reply) → IsTrue (reads_on call) → StarvesReading before after = λ wanting on. record {
      ahead = λ was. absurd (is.apart was);
      unread = λ lives tells. (answers.starves wanting on).unread lives (kept.raw.tells_transfers ∙ tells) ∙ kept.reads tells;
      left = λ failed tells. subst (λ (reads : Reads). Rose reads.brought after.raw.reads.brought) (kept.reads tells) ((answers.starves wanting on).left failed (kept.raw.tells_transfers ∙ tells));
    } in
    let once : IsTrue (makes_one before.buffer call) → ReadsOnce before after = λ one. once_then before mid after kept (answers.once one) in
    let needs_reads : IsTrue (by_several before.buffer call) → ReadsNoMore before call reply after = λ several. reads_since before (settled_as before mid) after kept.raw kept.reads refl call reply (answers.needs_reads several) in
    search (rules, reading_writes)

-- an answer of a reading, after all that was owed was passed on
pub settled_reads : (before mid after : Stream) (call : FileCall) (reply : FileReply) → is_reading call ≡ true → SettledReading before call reply mid → Answers mid call reply after → Answers before call reply after
settled_reads before mid after call reply reads is answers =
    let seen : Answers (settled_as before mid) call reply after = as_settled before mid after call reply is.settled answers in
    then_answers before mid after call reply (ap (λ (gives : Bool). gives || is_writing call) reads) is.settled seen (reading_own before mid after call reply reads is seen)

-- Writing.

-- a stream that owes nothing, and whose raw stands at its place, owes what lies right before that
writing_behind : (before mid : Stream) → PassesSome before mid → mid.owed ≡ nothing_owed mid.place → mid.raw_place ≡ mid.place → OwesBehind (settled_as before mid)
writing_behind before mid passes none stands = grind arith

-- a write after a passing on: the raw answered for all that was owed, and then for what the write passed on
writing_answers : (before mid : Stream) (after : Stream) (count : ℕ) → PassesSome before mid → mid.owed.bytes ≡ [] → AnswersFor count mid.raw after.raw → AnswersFor (length before.owed.bytes + count) before.raw after.raw
writing_answers before mid after count passes none more = answers_then before.raw mid.raw after.raw (length before.owed.bytes) count passes.kept.raw (all_answered before mid passes none) more

-- told, the flat file has what such a write took
writing_lays_taken : (before mid after : Stream) (bytes : List ℕ) → PassesSome before mid → mid.owed.bytes ≡ [] → (takes : Takes (settled_as before mid) bytes after) → LaysTaken before bytes takes.taken after
writing_lays_taken before mid after bytes passes none takes tells = subst (λ (all : List ℕ). (count : ℕ) × (takes.taken ≤ count) × (count ≤ length bytes) × ((file_of after).bytes ≡ lay all before.place (take count bytes))) (same_bytes before mid passes none tells) (takes.told (tells_still before.raw mid.raw passes.kept.raw ∙ tells))

-- a front that reaches past the first of two lists
take_past : (first second : List ℕ) (count : ℕ) → take (length first + count) (first ++ second) ≡ first ++ take count second
take_past [] second count = let same : 0 + count ≡ count = omega arith in ap (λ (n : ℕ). take n second) same
take_past (byte ∷ more) second count = let same : suc (length more) + count ≡ suc (length more + count) = omega arith in ap (λ (n : ℕ). take n (byte ∷ (more ++ second))) same ∙ ap (λ (rest : List ℕ). byte ∷ rest) (take_past more second count)

-- told, the raw has just all that was owed, and what it answered for of what such a write took
writing_just : (before mid after : Stream) (bytes : List ℕ) → PassesSome before mid → mid.owed ≡ nothing_owed mid.place → mid.raw_place ≡ mid.place → (takes : Takes (settled_as before mid) bytes after) → after.life ≡ life.Live → OwesBehind before → WhereTold before.raw (after.raw.bytes ≡ lay before.raw.bytes before.owed.place (take (length before.owed.bytes + takes.passed) (before.owed.bytes ++ take takes.taken bytes)))
writing_just before mid after bytes passes none stands takes lives behind tells =
    let owed : List ℕ = before.owed.bytes in
    let new : List ℕ = take takes.taken bytes in
    let from : ℕ = before.owed.place in
    let nothing : mid.owed.bytes ≡ [] = ap (λ (own : Owed). own.bytes) none in
    let at : mid.owed.place ≡ from + length owed = omega (arith, ap (λ (own : Owed). own.place) none, passes.still, behind.ends) in
    takes.just lives (writing_behind before mid passes none stands) (tells_still before.raw mid.raw passes.kept.raw ∙ tells)
    ∙ (ap (λ (own : List ℕ). lay mid.raw.bytes mid.owed.place (take takes.passed (own ++ new))) nothing
    ∙ (ap (λ (place : ℕ). lay mid.raw.bytes place (take takes.passed new)) at
    ∙ (ap (λ (all : List ℕ). lay all (from + length owed) (take takes.passed new)) (passed_all before mid passes nothing tells)
    ∙ (lay_behind before.raw.bytes from owed (take takes.passed new)
    ∙ ap (lay before.raw.bytes from) (sym (take_past owed new takes.passed))))))

-- what a write after a passing on took, and passed on with all that was owed
writing_takes : (before mid after : Stream) (bytes : List ℕ) → PassesSome before mid → mid.owed ≡ nothing_owed mid.place → mid.raw_place ≡ mid.place → Takes (settled_as before mid) bytes after → Takes before bytes after
writing_takes before mid after bytes passes none stands takes =
    let nothing : mid.owed.bytes ≡ [] = ap (λ (owed : Owed). owed.bytes) none in
    record {
      taken = takes.taken;
      within = takes.within;
      place = takes.place;
      passed = length before.owed.bytes + takes.passed;
      most = omega (arith, takes.most, ap length nothing);
      answered = writing_answers before mid after takes.passed passes nothing takes.answered;
      forth = λ behind. omega (arith, takes.forth (writing_behind before mid passes none stands), behind.ends, behind.stands, stands, passes.still);
      owed = takes.owed ∙ ap (λ (owed : List ℕ). drop takes.passed (owed ++ take takes.taken bytes)) nothing ∙ sym (drop-append-add before.owed.bytes (take takes.taken bytes) takes.passed);
      up_to = takes.up_to;
      told = writing_lays_taken before mid after bytes passes nothing takes;
      just = λ lives behind tells. writing_just before mid after bytes passes none stands takes lives behind tells;
    }

-- what is owed after it is what it took and didn't pass on
writing_owes : (before mid after : Stream) (bytes : List ℕ) → PassesSome before mid → mid.owed.bytes ≡ [] → Takes (settled_as before mid) bytes after → OwesBoth before bytes after
writing_owes before mid after bytes passes none takes =
    let new : List ℕ = take takes.taken bytes in
    let as_many : length new ≡ takes.taken = length-take-le takes.taken bytes takes.within in
    let owed : after.owed.bytes ≡ drop takes.passed new = takes.owed ∙ ap (λ (owed : List ℕ). drop takes.passed (owed ++ new)) none in
    let many : length after.owed.bytes ≡ takes.taken - takes.passed = ap length owed ∙ length-drop takes.passed new ∙ ap (λ (n : ℕ). n - takes.passed) as_many in
    let most : takes.passed ≤ takes.taken = omega (arith, takes.most, ap length none) in
    let answered = writing_answers before mid after takes.passed passes none takes.answered in
    record {
      taken = takes.taken;
      within = takes.within;
      place = takes.place;
      owes = λ some. inr (inl (record {
        passed = takes.passed;
        answered = answered;
        leaves = record { most = omega (arith, most, as_many); bytes = owed; at = omega (arith, ends_at after.owed after.place some takes.up_to, takes.place, many, most) };
      }));
      none = λ nothing. subst (λ (count : ℕ). AnswersFor (length before.owed.bytes + count) before.raw after.raw) (omega (arith, most, many, ap length nothing)) answered;
      told = writing_lays_taken before mid after bytes passes none takes;
    }

-- the raw has all that was owed, and then what it was given of a call's own bytes
writing_lays : (before mid after : Stream) (own : List ℕ) → PassesSome before mid → mid.owed.bytes ≡ [] → WhereTold mid.raw (LaysFront (settled_as before mid) own after.raw.bytes) → WhereTold before.raw (LaysFront before own after.raw.bytes)
writing_lays before mid after own passes none more tells =
    let laid = more (tells_still before.raw mid.raw passes.kept.raw ∙ tells) in
    let owed : List ℕ = before.owed.bytes in
    let all : mid.raw.bytes ≡ flat_of before = passed_all before mid passes none tells in
    record { passed = length owed; more = laid.more; laid = grind (arith, take-nil, take_all); order = λ some. omega arith }

-- the raw took some of the call's own bytes after all that was owed
writing_took : (before mid after : Stream) → PassesSome before mid → mid.owed.bytes ≡ [] → TookOwn (settled_as before mid) after → TookOwn before after
writing_took before mid after passes none took = record {
  further = took.further;
  stands = λ tells. took.stands (passes.kept.raw.tells_place ∙ tells);
  answered = λ tells. omega (arith, all_answered before mid passes none tells, took.answered (passes.kept.raw.tells_transfers ∙ tells), ap length none);
}

-- what is owed is none of a call's own bytes, and all that was owed before was passed on
writing_old : (before mid after : Stream) → PassesSome before mid → mid.owed ≡ nothing_owed mid.place → mid.raw_place ≡ mid.place → OwesOld (settled_as before mid) after → OwesOld before after
writing_old before mid after passes none stands old = grind (arith, writing_behind, drop_all, drop-nil)

-- what is alike of both calls that write: what they may lay on, and what they owe once they were stopped
record GivesOwn (call : FileCall) : Type 0 where
  to_front : (before : Stream) (bytes : List ℕ) → LaysInOrder before call bytes → LaysFront before (payload call) bytes
  straight : (before mid after : Stream) (reply : FileReply) → (OwesOld mid after → OwesOld before after) → OwesNoneOfIts mid call reply after → OwesNoneOfIts before call reply after

-- this holds of each call that writes
gives_own : (call : FileCall) → is_writing call ≡ true → GivesOwn call
gives_own call writing = grind arith

-- what a write after a passing on does with the bytes that were owed, and with its own
writing_writes : (before mid after : Stream) (call : FileCall) (reply : FileReply) → is_writing call ≡ true → SettledWriting before call mid → Writes (settled_as before mid) call reply after → Writes before call reply after
writing_writes before mid after call reply writing is writes =
    let giving : IsGiving call = is_giving call writing in
    let lays : GivesOwn call = gives_own call writing in
    let passes : PassesSome before mid = is.settled.settled_by.0.passes in
    let none : mid.owed.bytes ≡ [] = is.settled.settled_by.2 in
    let takes : Takes (settled_as before mid) (payload call) after = writes.takes writing (inl none) in
    let room : IsTrue (is_writing call) → HasRoom before (payload call) → TakesAlone before call reply after = λ _ has. absurd (is.roomless has) in
    let leaves : is_writing call ≡ false → PassesFront before after = λ other. absurd (cc (writing)) in
    let laid : WhereTold before.raw (LaysInOrder before call after.raw.bytes) = λ tells. giving.lays before after.raw.bytes (writing_lays before mid after (payload call) passes none (λ told. lays.to_front (settled_as before mid) after.raw.bytes (writes.lays told)) tells) in
    let starves : IsTrue (says_no_memory reply) → IsTrue (is_writing call) → after.life ≡ life.Failed → TookOwn before after = λ wants gives failed. writing_took before mid after passes none (writes.starves wants gives failed) in
    let straight : OwesNoneOfIts before call reply after = lays.straight before (settled_as before mid) after reply (writing_old before mid after passes is.none is.stands) writes.straight in
    let settles : NoneAtPlace before → NoneAtPlace after = λ at. writes.settles (λ nothing. passes.at at nothing ∙ passes.still) in
    let unclosed : after.owed.bytes ≢ [] → after.raw.closed ≡ before.raw.closed = λ some. writes.unclosed some ∙ passes.kept.stays in
    let rests : before.life ≢ life.Live → after.raw ≡ before.raw = λ dead. absurd (dead is.settled.live) in
    search (rules, writing_owes, writing_takes, writing_behind, writes.stands, giving.passes)

-- an answer of a call that writes, after all that was owed was passed on
pub settled_writes : (before mid after : Stream) (call : FileCall) (reply : FileReply) → is_writing call ≡ true → SettledWriting before call mid → Answers mid call reply after → Answers before call reply after
settled_writes before mid after call reply writing is answers =
    let seen : Answers (settled_as before mid) call reply after = as_settled before mid after call reply is.settled answers in
    then_answers before mid after call reply (writes_moves call writing) is.settled seen (grind (arith, takes_by_several, is_giving, gives_none, writing_writes))
