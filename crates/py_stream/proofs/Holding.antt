-- Readings of a stream with a buffer that may owe bytes, which don't go on to the raw: what stops the passing on before them, and what
-- the bytes held answer by themselves.
use Rattle.std.proofs.Common.{IsTrue, ◌≡◌, ◌≢◌, ℕ, ◌+◌, ◌-◌, ◌<◌, ◌≤◌, Bool, true, false, List, [], ◌∷◌, ◌++◌, length, take, drop, Option, Some, None, Err, max, inl, inr, refl, sym, ap, ◌∙◌, subst, arith, add-zero, length-drop, rules}
use Rattle.std.proofs.Math.Seq.{take-add}
use Rattle.std.proofs.lemmas.List.{take-append-drop}
use Rattle.py_flat.specs.declared.fault.IoFault.{IoFault}
use Rattle.py_flat.specs.declared.fault.IoFault.TheVariants as fault
use Rattle.py_flat.specs.declared.life.Life.TheVariants as life
use Rattle.py_flat.specs.Limits.{greatest_place}
use Rattle.py_flat.specs.Bytes.{lay}
use Rattle.py_flat.specs.Owed.{Owed}
use Rattle.py_flat.specs.Calls.{FileCall, Peek, FileReply, Bytes, NotReady, Refused}
use Rattle.py_flat.specs.FlatFile.{FlatFile}
use Rattle.py_flat.specs.Refusals.{lacks}
use Rattle.py_flat.specs.ExactStep.{is_closed, rest}
use Rattle.py_flat.specs.AllowedStep.{settled, waited_for, raw_faulted, out_of_memory}
use Rattle.py_flat.specs.BinaryStep.{IsFrontOf, BinaryStep, SettledBy, Accepted, WaitedBy, StarvedBy, does_work}
use Rattle.py_raw.specs.RawStream.{StaysOpen, WhereTold, WhereTransfers}
use Rattle.py_raw.proofs.Telling.{keeps_same}
use Rattle.py_stream.specs.Stream.{Stream, size_of, file_of, nothing_owed}
use Rattle.py_stream.specs.Kinds.{is_reading, is_single, asks_nothing, reads_on, by_several, makes_one, asks_none, has_room, says_fault, says_no_memory, says_given}
use Rattle.py_stream.specs.Writing.{NoneAtPlace, BlocksFull, Writes}
use Rattle.py_stream.specs.Answers.{Answers, KeepsStream, ClosedWith, parts_at_close, HasCauses, IsCounted, IsShort, LifeMoves, PlaceMoves, GivesWithin, WantsMemory, Starves, StarvesReading, StarvesFirst, AsksNothing, AtMostOne, ReadsOnce, FlushesFirst, PassesFirst, CameByReads, InHand, StaysHeld, IsAhead, GoesPast, AsksNoMore, ReadsNoMore, SparesBytes, IsReplyTo, IsNear, refused_by, ahead}
use Rattle.py_stream.specs.Keeping.{IsSound}
use Rattle.py_stream.specs.Settling.{PassesSome, LivesOn, SettleOutcome}
use Rattle.py_stream.specs.Reading.{Reaches, ComesNext, wanted_by, reply_by}
use Rattle.py_stream.specs.Held.{GivesHeld}
use Rattle.py_stream.specs.Moving.{owed_at}
use Rattle.py_stream.proofs.Refused.{completes, fails_there, starves_alive, starves_there, work_reaches, nothing_blocked}
use Rattle.py_stream.proofs.Refusing.{gives_nothing, refused_alone}
use Rattle.py_stream.proofs.ReadingAnswers.{IsReadingCall, reading_call, reading_on, accepted, works}
use Rattle.py_stream.proofs.ReadingStops.{within_end, reads_once, asks_for, moves_by, moves_within, IsSingleCall, single_call, once_carried, short_part, part_moves, part_within, carried}
use Rattle.py_stream.proofs.Begun.{near_seen, came_still, each_still, read_never, reads_none}
use Rattle.py_stream.proofs.Flat.{flat_of, failed_file}
use Rattle.py_stream.proofs.PassingOn.{passing_front, passing_keeps, passing_file, passing_keeps_bytes, stays_open}

-- What makes the answer of a reading, whatever its stream owes.

-- what is known of a live stream with a buffer with which a reading begins: it reads, whatever it owes
pub record ReadsHeld (before : Stream) : Type 0 where
  pub sound : IsSound before
  pub live : before.life ≡ life.Live
  pub whole : before.short ≡ false
  pub readable : before.can.readable ≡ true
  pub size : ℕ
  pub buffered : before.buffer ≡ Some size

-- a stream with a buffer that reads has what every reading needs
pub reading_suits : (before : Stream) (call : FileCall) → is_reading call ≡ true → ReadsHeld before → lacks (file_of before) call ≡ false
reading_suits before call reads held = grind arith

-- what an answer of a reading has of its own
pub record ShowsReading (before : Stream) (call : FileCall) (reply : FileReply) (after : Stream) : Type 0 where
  pub keeps : KeepsStream before after
  pub shut : ClosedWith before.life before.raw → ClosedWith after.life after.raw
  pub causes : HasCauses before.raw reply after.raw after.short
  pub counted : IsTrue before.raw.counts_exactly → IsCounted before.buffer before.raw call reply after.raw after.short
  pub shorts : IsShort call reply after.short
  pub life_is : LifeMoves before.buffer call reply before.life after.life
  pub place : PlaceMoves before.buffer call reply after.life before.place after.place
  pub far : after.place ≤ greatest_place
  pub within : GivesWithin (size_of before) call reply
  pub wants : WantsMemory (has_room call) reply before.raw
  pub goes_on : IsAhead before → IsAhead after
  pub goes_past : IsTrue (says_given reply) → GoesPast before after → IsAhead after
  pub starves : IsTrue (says_no_memory reply) → IsTrue (reads_on call) → StarvesReading before after
  pub first : StarvesFirst before call reply after
  pub nothing : IsTrue (asks_none before.buffer call) → AsksNothing before reply after
  pub single : IsTrue (makes_one before.buffer call) → before.owed.bytes ≡ [] → AtMostOne before after
  pub once : IsTrue (makes_one before.buffer call) → ReadsOnce before after
  pub passes_first : PassesFirst before call reply after
  pub brings : IsAhead before → CameByReads 1 before after
  pub in_hand : InHand before call → AsksNothing before reply after
  pub owing : InHand before call → StaysHeld before after
  pub needs : IsTrue (by_several before.buffer call) → IsAhead before → AsksNoMore before call reply after
  pub needs_reads : IsTrue (by_several before.buffer call) → ReadsNoMore before call reply after
  pub spares : before.can.writable ≡ false → before.owed ≡ nothing_owed before.place → SparesBytes before call after
  pub writes : before.can.writable ≡ true → Writes before call reply after
  pub answer : IsReplyTo before.buffer before.can.writable call reply
  pub told : WhereTold before.raw (BinaryStep (file_of before) call reply after.short (says_fault reply) (file_of after))
  pub reach : Reaches before after
  pub near : after.life ≡ life.Live → IsNear after
  pub hides : IsTrue after.short → after.owed.bytes ≡ [] → after.raw_place ≡ after.place

-- what a reading has of its own answers it
pub shows_reading : (before after : Stream) (call : FileCall) (reply : FileReply) → is_reading call ≡ true → ReadsHeld before → ShowsReading before call reply after → Answers before call reply after
shows_reading before after call reply reads held shows =
    let is : IsReadingCall call = reading_call call reads in
    let unrefused : refused_by before call ≡ None = refused_alone before call (is.unended (file_of before)) ∙ accepted before call reads (reading_suits before call reads held) held.live in
    let parted : parts_at_close before call reply after ≡ true → StaysOpen before.raw after.raw = λ parts. absurd (cc (parts, is.parts before reply after)) in
    search (rules, completes)

-- What stops a passing on before a reading.

-- what a reading does with what is owed, of which it passed on a front
passing_reads : (before mid : Stream) (call : FileCall) (reply : FileReply) (short : Bool) → is_reading call ≡ true → before.life ≡ life.Live → PassesSome before mid → BlocksFull call reply (record mid { short = short }) → Writes before call reply (record mid { short = short })
passing_reads before mid call reply short reads live passes full = grind (arith, reading_call, passing_front)

-- a live stream with a buffer that writes comes to a reading of some bytes, which the bytes held don't answer
pub record HasToPass (before : Stream) (call : FileCall) : Type 0 where
  pub held : ReadsHeld before
  pub writes : before.can.writable ≡ true
  pub reads : is_reading call ≡ true
  pub some : asks_none before.buffer call ≡ false
  pub apart : InHand before call → ⊥

-- what a stop of the passing on has of its own
record Stops (before mid : Stream) (call : FileCall) (reply : FileReply) (short : Bool) : Type 0 where
  passes : PassesSome before mid
  behind : IsAhead before → ⊥
  alive : is_closed mid.life ≡ false
  causes : HasCauses before.raw reply mid.raw short
  counted : IsTrue before.raw.counts_exactly → IsCounted before.buffer before.raw call reply mid.raw short
  shorts : IsShort call reply short
  life_is : LifeMoves before.buffer call reply before.life mid.life
  place : PlaceMoves before.buffer call reply mid.life before.place before.place
  within : GivesWithin (size_of before) call reply
  wants : IsTrue (says_no_memory reply) → IsTrue before.raw.takes_memory
  unfailed : IsTrue (says_no_memory reply) → mid.life ≡ life.Failed → ⊥
  ungiven : says_given reply ≡ false
  single : before.owed.bytes ≡ [] → AtMostOne before mid
  full : BlocksFull call reply (record mid { short = short })
  answer : IsReplyTo before.buffer before.can.writable call reply
  told : WhereTold before.raw (BinaryStep (file_of before) call reply short (says_fault reply) (file_of mid))
  hides : IsTrue short → mid.owed.bytes ≡ [] → mid.raw_place ≡ mid.place

-- what stops the passing on answers the reading
stops_reading : (before mid : Stream) (call : FileCall) (reply : FileReply) (short : Bool) → HasToPass before call → Stops before mid call reply short → Answers before call reply (record mid { short = short })
stops_reading before mid call reply short may stops =
    let passes : PassesSome before mid = stops.passes in
    let after : Stream = record mid { short = short } in
    shows_reading before after call reply may.reads may.held (record {
      keeps = passing_keeps before mid mid.life short passes;
      shut = λ closed. passes.kept.stays ∙ stays_open before mid.life may.held.live stops.alive closed;
      causes = stops.causes;
      counted = stops.counted;
      shorts = stops.shorts;
      life_is = stops.life_is;
      place = subst (PlaceMoves before.buffer call reply mid.life before.place) (sym passes.still) stops.place;
      far = passes.kept.sound.far;
      within = stops.within;
      wants = λ wanting _. stops.wants wanting;
      goes_on = λ ahead. absurd (stops.behind ahead);
      goes_past = λ given. absurd (cc (stops.ungiven));
      starves = λ wanting _. record { ahead = λ was. absurd (stops.behind was); left = λ failed. absurd (stops.unfailed wanting failed); unread = λ _. passes.kept.reads };
      first = λ wanting _ takes_none. absurd (let takes = stops.wants wanting in cc);
      nothing = λ asks. absurd (cc (may.some));
      single = λ _ none. stops.single none;
      once = λ _. read_never before after passes.kept.reads;
      passes_first = λ _ _ _ given. absurd (cc (stops.ungiven));
      brings = λ ahead. absurd (stops.behind ahead);
      in_hand = λ has. absurd (may.apart has);
      owing = λ has. absurd (may.apart has);
      needs = λ _ ahead. absurd (stops.behind ahead);
      needs_reads = λ _. reads_none before call reply after passes.kept.reads;
      spares = λ reads. absurd (cc (may.writes));
      writes = λ _. passing_reads before mid call reply short may.reads may.held.live passes stops.full;
      answer = stops.answer;
      told = stops.told;
      reach = λ tells. omega (arith, passes.still);
      near = λ lives. near_seen mid short (passes.kept.sound.near lives);
      hides = stops.hides;
    })

-- a reading that isn't ready gives no bytes
unready_gives : (size : ℕ) (call : FileCall) → GivesWithin size call NotReady
unready_gives size call = grind arith

-- a reading that isn't ready fills no buffer
unready_fills : (call : FileCall) (after : Stream) → BlocksFull call NotReady after
unready_fills call after = grind arith

-- a wait allows a reading to be not ready
unready_waited : (file : FlatFile) (call : FileCall) → is_reading call ≡ true → WaitedBy file call NotReady file
unready_waited file call reads = grind arith

-- running out of memory may leave the file
starved_same : (file : FlatFile) (call : FileCall) → is_reading call ≡ true → StarvedBy file call file
starved_same file call reads = grind arith

-- where some is owed still, some was owed
was_owed : (before mid : Stream) → PassesSome before mid → 0 < length mid.owed.bytes → before.owed.bytes ≢ []
was_owed before mid passes some none = omega (arith, some, ap length passes.owed, length-drop passes.passed before.owed.bytes, ap length none)

-- the raw may be called for a reading
reading_works : (before : Stream) (call : FileCall) → HasToPass before call → IsTrue (does_work (file_of before) call)
reading_works before call may = works before call may.reads (reading_suits before call may.reads may.held) may.held.live

-- the raw would have blocked before all was passed on: the reading isn't ready
pub reading_blocked : (before after : Stream) (call : FileCall) (taken : ℕ) → HasToPass before call → SettleOutcome before (Err (fault.WouldBlock taken)) after → Answers before call NotReady after
reading_blocked before after call taken may waits =
    let is : IsReadingCall call = reading_call call may.reads in
    let mid : Stream = record after { short = before.short } in
    let goes : LivesOn before mid = waits.1 in
    let passes : PassesSome before mid = goes.passes in
    let owing : before.owed.bytes ≢ [] = was_owed before mid passes waits.5 in
    let same : after.life ≡ before.life = goes.live ∙ sym may.held.live in
    let unfailed : IsTrue (says_no_memory NotReady) → after.life ≡ life.Failed → ⊥ = λ wanting failed. absurd (cc) in
    let told : WhereTold before.raw (BinaryStep (file_of before) call NotReady true false (file_of mid)) = λ tells. waited_for refl (reading_works before call may, subst (λ (file : FlatFile). WaitedBy (file_of before) call NotReady file) (sym (passing_file before mid passes same tells)) (unready_waited (file_of before) call may.reads)) in
    subst (λ (cut : Bool). Answers before call NotReady (record after { short = cut })) (sym waits.2)
    (stops_reading before mid call NotReady true may (search (rules, unready_gives, unready_fills)))

-- where nothing was owed the raw wasn't asked for a transfer
abbrev pub IsCalm : Stream → Stream → Type 0
IsCalm before after = before.owed.bytes ≡ [] → WhereTransfers before.raw (after.raw.transfers ≤ before.raw.transfers)

-- so at most one was made
calm_once : (before after : Stream) → IsCalm before after → before.owed.bytes ≡ [] → AtMostOne before after
calm_once before after calm none tells = omega (arith, calm none tells)

-- a stop of the passing on that isn't a wait
stops_whole : (before after : Stream) (call : FileCall) (reply : FileReply) → HasToPass before call → Stops before after call reply false → Answers before call reply after
stops_whole before after call reply may stops = subst (λ (cut : Bool). Answers before call reply (record after { short = cut })) (sym (stops.passes.kept.short ∙ may.held.whole)) (stops_reading before after call reply false may stops)

-- the raw failed before the reading: it fails the stream
pub reading_failed : (before after : Stream) (call : FileCall) → HasToPass before call → (IsAhead before → ⊥) → IsCalm before after → SettleOutcome before (Err fault.RawFault) after → Answers before call (Refused fault.RawFault) after
reading_failed before after call may behind calm fails =
    let is : IsReadingCall call = reading_call call may.reads in
    let passes : PassesSome before after = fails.0 in
    let unfailed : IsTrue (says_no_memory (Refused fault.RawFault)) → after.life ≡ life.Failed → ⊥ = λ wanting failed. absurd (cc) in
    let told : WhereTold before.raw (BinaryStep (file_of before) call (Refused fault.RawFault) false true (file_of after)) = λ tells. raw_faulted refl refl (work_reaches (file_of before) call (reading_works before call may), is.faulted_by (file_of before) (file_of after) (failed_file before after life.Failed (flat_of before) passes.kept fails.1 (passing_keeps_bytes before after passes tells))) in
    stops_whole before after call (Refused fault.RawFault) may (search (rules, fails_there, gives_nothing, calm_once, nothing_blocked))

-- memory ran out before the reading: it is refused
pub reading_starved : (before after : Stream) (call : FileCall) → HasToPass before call → (IsAhead before → ⊥) → IsCalm before after → SettleOutcome before (Err fault.NoMemory) after → Answers before call (Refused fault.NoMemory) after
reading_starved before after call may behind calm lacks =
    let is : IsReadingCall call = reading_call call may.reads in
    let goes : LivesOn before after = lacks.1 in
    let passes : PassesSome before after = goes.passes in
    let same : after.life ≡ before.life = goes.live ∙ sym may.held.live in
    let told : WhereTold before.raw (BinaryStep (file_of before) call (Refused fault.NoMemory) false false (file_of after)) = λ tells. out_of_memory refl (work_reaches (file_of before) call (reading_works before call may), subst (λ (file : FlatFile). StarvedBy (file_of before) call file) (sym (passing_file before after passes same tells)) (starved_same (file_of before) call may.reads)) in
    let unfailed : IsTrue (says_no_memory (Refused fault.NoMemory)) → after.life ≡ life.Failed → ⊥ = λ wanting failed. let wrong : life.Live ≡ life.Failed = sym goes.live ∙ failed in absurd (cc) in
    let life_is : LifeMoves before.buffer call (Refused fault.NoMemory) before.life after.life = subst (LifeMoves before.buffer call (Refused fault.NoMemory) before.life) (sym same) (starves_alive before.buffer call before.life) in
    stops_whole before after call (Refused fault.NoMemory) may (search (rules, starves_there, gives_nothing, calm_once, nothing_blocked))

-- What the bytes held answer by themselves.

-- a stream that was moved to a place, and owes what it owed: no raw was called
record Moved (before : Stream) (place : ℕ) (owed : Owed) : Type 0 where
  sound : IsSound (record before { place = place; owed = owed })
  bytes : owed.bytes ≡ before.owed.bytes
  at : owed.bytes ≢ [] → owed.place ≡ before.owed.place
  none : NoneAtPlace before → owed.bytes ≡ [] → owed.place ≡ place
  flat : lay before.raw.bytes owed.place owed.bytes ≡ lay before.raw.bytes before.owed.place before.owed.bytes

-- what an answer by the bytes held has of its own
record IsHeldAnswer (before : Stream) (call : FileCall) (reply : FileReply) (place : ℕ) : Type 0 where
  shorts : IsShort call reply false
  life_is : LifeMoves before.buffer call reply before.life before.life
  moves : PlaceMoves before.buffer call reply before.life before.place place
  within : GivesWithin (size_of before) call reply
  said : says_fault reply ≡ false
  fed : says_no_memory reply ≡ false
  answers : IsReplyTo before.buffer before.can.writable call reply
  passed : IsTrue (is_single call) → asks_nothing call ≡ false → FlushesFirst before call → before.owed.bytes ≡ []
  told : WhereTold before.raw (Accepted (file_of before) call reply (record (file_of before) { place = place }))
  reach : WhereTold before.raw (place ≤ max before.place (length (file_of before).bytes))

-- what a reading does with what is owed that calls no raw
held_writes : (before : Stream) (call : FileCall) (reply : FileReply) (place : ℕ) (owed : Owed) → is_reading call ≡ true → BlocksFull call reply (record before { place = place; owed = owed }) → Moved before place owed → Writes before call reply (record before { place = place; owed = owed })
held_writes before call reply place owed reads full moved = grind (arith, reading_call)

-- the flat file is as it was, but for the place
moved_file : (before : Stream) (place : ℕ) (owed : Owed) → Moved before place owed → file_of (record before { place = place; owed = owed }) ≡ record (file_of before) { place = place }
moved_file before place owed moved = grind arith

-- a reading that gave bytes fills no buffer
reading_fills : (call : FileCall) (reply : FileReply) (after : Stream) (buffer : Option ℕ) (writes : Bool) → is_reading call ≡ true → says_fault reply ≡ false → IsReplyTo buffer writes call reply → BlocksFull call reply after
reading_fills call reply after buffer writes reads said answers = grind arith

-- a stream that was moved among the bytes held, and called no raw, didn't go past them
stays_within : (before : Stream) (place : ℕ) (owed : Owed) → place ≤ before.held.to → GoesPast before (record before { place = place; owed = owed }) → ⊥
stays_within before place owed within (inl changed) = changed refl
stays_within before place owed within (inr past) = omega (arith, within, past)

-- a reading that is answered by the bytes held
held_reading : (before : Stream) (call : FileCall) (reply : FileReply) (place : ℕ) (owed : Owed) → is_reading call ≡ true → ReadsHeld before → Moved before place owed → IsHeldAnswer before call reply place → Answers before call reply (record before { place = place; owed = owed })
held_reading before call reply place owed reads held moved is =
    let after : Stream = record before { place = place; owed = owed } in
    let whole : before.short ≡ false = held.whole in
    let fed : IsTrue (says_no_memory reply) → ⊥ = λ wanting. absurd (cc (is.fed)) in
    let idle : AsksNothing before reply after = record { raw = refl; fault = is.said } in
    let told : WhereTold before.raw (BinaryStep (file_of before) call reply before.short (says_fault reply) (file_of after)) = λ tells. settled (subst (λ (refused : Option IoFault). SettledBy (file_of before) call refused reply (file_of after)) (sym (accepted before call reads (reading_suits before call reads held) held.live))
    (subst (λ (file : FlatFile). Accepted (file_of before) call reply file) (sym (moved_file before place owed moved)) (is.told tells))) in
    let goes_past : GoesPast before after → ⊥ = λ past. stays_within before place owed (moved.sound.near held.live).before_end past in
    let writes : Writes before call reply after = held_writes before call reply place owed reads (reading_fills call reply after before.buffer before.can.writable reads is.said is.answers) moved in
    let passes_first : PassesFirst before call reply after = λ _ single some _ first. moved.bytes ∙ is.passed single some first in
    shows_reading before after call reply reads held (grind (arith, keeps_same, came_still, each_still, reads_none before call reply after (λ tells. refl)))

-- a stream that gave some of the bytes held was moved past them
held_moved : (before : Stream) (part : List ℕ) (after : Stream) → GivesHeld before part after → Moved before (before.place + length part) (owed_at (before.place + length part) before.owed)
held_moved before part after gives = grind arith

-- what is wanted of all that is left, where that is all of a part, whatever comes after it
wanted_next : (wanted : List ℕ → List ℕ) (left part : List ℕ) → take (length part) left ≡ part → ((more : List ℕ) → wanted (part ++ more) ≡ part) → wanted left ≡ part
wanted_next wanted left part next all = ap wanted (sym (take-append-drop (length part) left) ∙ ap (λ (front : List ℕ). front ++ drop (length part) left) next) ∙ all (drop (length part) left)

-- a reading that goes on makes several transfers, of a stream with a buffer
held_several : (before : Stream) (call : FileCall) → ReadsHeld before → reads_on call ≡ true → by_several before.buffer call ≡ true
held_several before call held on = grind arith

-- and more than one transfer
several_transfers : (call : FileCall) → reads_on call ≡ true → is_single call ≡ false
several_transfers call on = grind arith

-- a reading that goes on, which a part of the bytes held answers: told, it is all that is wanted of what is left
pub held_answers_told : (before after : Stream) (call : FileCall) (part : List ℕ) → ReadsHeld before → reads_on call ≡ true → wanted_by call part ≡ part → WhereTold before.raw (wanted_by call (rest (file_of before)) ≡ part) → GivesHeld before part after → Answers before call (reply_by call part) after
held_answers_told before after call part held on alone wanted gives =
    let reads : is_reading call ≡ true = reading_on call on in
    let is : IsReadingCall call = reading_call call reads in
    let file : FlatFile = file_of before in
    let several : by_several before.buffer call ≡ true = held_several before call held on in
    subst (Answers before call (reply_by call part)) (sym gives.same)
    (held_reading before call (reply_by call part) (before.place + length part) (owed_at (before.place + length part) before.owed) reads held (held_moved before part after gives) (record {
      shorts = short_part call part false on (λ waited. absurd (cc));
      life_is = is.part_lives before.buffer part before.life before.life refl;
      moves = part_moves before.buffer call part before.life before.place (before.place + length part) on refl;
      within = part_within (size_of before) call part on alone;
      said = is.said part;
      fed = is.gave part;
      answers = is.part_answers before.buffer before.can.writable part;
      passed = λ single. absurd (cc (several_transfers call on));
      told = λ tells. carried before.buffer file call part (record file { place = before.place + length part }) refl several (wanted tells) refl;
      reach = λ tells. within_end file.bytes part before.place (length part) (gives.told tells) refl;
    }))

-- a reading that goes on, which a part of the bytes held answers: it is all that is wanted, whatever comes after it
pub held_answers : (before after : Stream) (call : FileCall) (part : List ℕ) → ReadsHeld before → reads_on call ≡ true → wanted_by call part ≡ part → ((more : List ℕ) → wanted_by call (part ++ more) ≡ part) → GivesHeld before part after → Answers before call (reply_by call part) after
held_answers before after call part held on alone all gives = held_answers_told before after call part held on alone (λ tells. wanted_next (wanted_by call) (rest (file_of before)) part (gives.told tells) all) gives

-- no more is held from the place on than the buffer holds
ahead_fits : (before : Stream) → ReadsHeld before → ahead before ≤ size_of before
ahead_fits before held = let near = held.sound.near held.live in omega (arith, near.after_first, near.fits)

-- bytes that come next are a front of as many as are asked for
front_of : (count : ℕ) (left part : List ℕ) → length part ≤ count → take (length part) left ≡ part → IsFrontOf part (take count left)
front_of count left part within next = (take (count - length part) (drop (length part) left), ap (λ (front : List ℕ). front ++ take (count - length part) (drop (length part) left)) (sym next) ∙ sym (take-add (length part) (count - length part) left) ∙ ap (λ (n : ℕ). take n left) (omega arith))

-- a buffer that has room for some bytes has a size
sized_by : (before : Stream) (size : ℕ) (part : List ℕ) → before.buffer ≡ Some size → part ≢ [] → length part ≤ size_of before → 0 < size
sized_by before size [] buffered some fits = absurd (some refl)
sized_by before size (byte ∷ more) buffered some fits = grind arith

-- a `read1`, `readinto1` or `peek` reads
pub single_reads : (call : FileCall) → is_single call ≡ true → is_reading call ≡ true
single_reads call single = grind arith

-- of a stream with a buffer it makes one transfer
held_once : (before : Stream) (call : FileCall) → ReadsHeld before → is_single call ≡ true → reads_once before.buffer call ≡ true
held_once before call held single = grind arith

-- what an answer of one transfer says that some of the bytes held make
once_answer : (before : Stream) (call : FileCall) (part : List ℕ) → ReadsHeld before → (FlushesFirst before call → before.owed.bytes ≡ []) → is_single call ≡ true → part ≢ [] → length part ≤ asks_for (size_of before) call → length part ≤ ahead before → WhereTold before.raw (ComesNext before part) → IsHeldAnswer before call (Bytes part) (before.place + moves_by call (length part))
once_answer before call part held passed single some most within next =
    let file : FlatFile = file_of before in
    let once : reads_once before.buffer call ≡ true = held_once before call held single in
    let is : IsSingleCall before.buffer call = single_call before.buffer call once in
    let sized : (size : ℕ) → before.buffer ≡ Some size → 0 < size = λ size buffered. sized_by before size part buffered some (omega (arith, within, ahead_fits before held)) in
    let place : ℕ = before.place + moves_by call (length part) in
    record {
      shorts = is.short part;
      life_is = is.lives part before.life before.life refl;
      moves = is.moves part before.life before.place place refl;
      within = is.within part most;
      said = refl;
      fed = refl;
      answers = is.answers before.can.writable part;
      passed = λ _ _ first. passed first;
      told = λ tells. once_carried before.buffer file call part (record file { place = place }) once sized (record { front = front_of (asks_for (size_of before) call) (rest file) part most (next tells); some = λ none. absurd (some none) }) refl;
      reach = λ tells. omega (arith, moves_within call (length part), within_end file.bytes part before.place (length part) (next tells) refl);
    }

-- a `read1` or `readinto1`, which some of the bytes held answer
pub held_answers_once : (before after : Stream) (call : FileCall) (part : List ℕ) → ReadsHeld before → (FlushesFirst before call → before.owed.bytes ≡ []) → is_single call ≡ true → moves_by call (length part) ≡ length part → part ≢ [] → length part ≤ asks_for (size_of before) call → GivesHeld before part after → Answers before call (Bytes part) after
held_answers_once before after call part held passed single moves some most gives =
    let place : before.place + moves_by call (length part) ≡ before.place + length part = ap (λ (n : ℕ). before.place + n) moves in
    let is : IsHeldAnswer before call (Bytes part) (before.place + length part) = subst (IsHeldAnswer before call (Bytes part)) place (once_answer before call part held passed single some most gives.within gives.told) in
    subst (Answers before call (Bytes part)) (sym gives.same)
    (held_reading before call (Bytes part) (before.place + length part) (owed_at (before.place + length part) before.owed) (single_reads call single) held (held_moved before part after gives) is)

-- a stream that stays where it is
held_still : (before : Stream) → ReadsHeld before → Moved before before.place before.owed
held_still before held = grind arith

empty_of : (part : List ℕ) → length part ≡ 0 → part ≡ []
empty_of [] none = refl
empty_of (byte ∷ more) none = absurd (omega (arith, none))

-- a `peek`, which some of the bytes held answer: all is as it was
pub held_peek : (before : Stream) (part : List ℕ) → ReadsHeld before → part ≢ [] → length part ≤ ahead before → WhereTold before.raw (ComesNext before part) → Answers before Peek (Bytes part) before
held_peek before part held some within next =
    let is : IsHeldAnswer before Peek (Bytes part) before.place = subst (IsHeldAnswer before Peek (Bytes part)) (add-zero before.place) (once_answer before Peek part held (λ none. absurd (some (empty_of part (omega (arith, within, none))))) refl some (omega (arith, within, ahead_fits before held)) within next) in
    held_reading before Peek (Bytes part) before.place before.owed refl held (held_still before held) is

-- Readings that ask for nothing.

-- a reading that asks for nothing is answered with nothing, by a stream as it was
pub asks_nothing_answers : (before : Stream) (call : FileCall) → ReadsHeld before → asks_none before.buffer call ≡ true → Answers before call (Bytes []) before
asks_nothing_answers before call held asks = held_reading before call (Bytes []) before.place before.owed (grind arith) held (held_still before held) (grind arith)

-- Readings for which there is no memory.

-- running out of memory gives back a stream that is as it was
starves_same : (before : Stream) → ReadsHeld before → Starves before before
starves_same before held = record { unmoved = λ lives. ap (λ (cut : Bool). let stream : Stream = record before { short = cut } in stream) held.whole; moved = λ failed. absurd (let live = held.live in cc); stands = λ failed. absurd (let live = held.live in cc) }

-- a reading whose memory runs out before anything else, whatever is owed: all is as it was
pub reading_lacks : (before : Stream) (call : FileCall) → is_reading call ≡ true → has_room call ≡ false → ReadsHeld before → Answers before call (Refused fault.NoMemory) before
reading_lacks before call reads room held =
    let reply : FileReply = Refused fault.NoMemory in
    let is : IsReadingCall call = reading_call call reads in
    let moved : Moved before before.place before.owed = held_still before held in
    let told : WhereTold before.raw (BinaryStep (file_of before) call reply before.short false (file_of before)) = λ tells. subst (λ (cut : Bool). BinaryStep (file_of before) call reply cut false (file_of before)) (sym held.whole) (out_of_memory refl (work_reaches (file_of before) call (works before call reads (reading_suits before call reads held) held.live), starved_same (file_of before) call reads)) in
    shows_reading before before call reply reads held (grind (arith, keeps_same, starves_alive, starves_there, gives_nothing, starves_same, came_still, each_still, reads_none before call reply before (λ tells. refl), held_writes, nothing_blocked))
