-- A call that passes on what is owed, and what stops it.
use Rattle.py_stream.specs.Moving.{StandsAsBefore}
use Rattle.std.proofs.Common.{IsTrue, ◌≡◌, ◌≢◌, ℕ, ◌+◌, ◌-◌, ◌<◌, ◌≤◌, Bool, true, false, List, [], ◌∷◌, length, take, drop, Option, Some, Result, Ok, Err, refl, sym, ap, ◌∙◌, subst, arith, length-drop, rules}
use Rattle.std.proofs.Math.Seq.{take-add, take-nil, drop-nil}
use Rattle.std.proofs.lemmas.List.{append-nil, drop-drop, length-take-le}
use Rattle.py_flat.specs.declared.fault.IoFault.{IoFault}
use Rattle.py_flat.specs.declared.fault.IoFault.TheVariants as fault
use Rattle.py_flat.specs.declared.life.Life.{Life}
use Rattle.py_flat.specs.declared.life.Life.TheVariants as life
use Rattle.py_flat.specs.Bytes.{lay}
use Rattle.py_flat.specs.Owed.{Owed}
use Rattle.py_flat.specs.Causes.{Rose}
use Rattle.py_flat.specs.Calls.{FileCall, Refused, FileReply}
use Rattle.py_flat.specs.FlatFile.{FlatFile}
use Rattle.py_flat.specs.ExactStep.{is_closed}
use Rattle.py_flat.specs.AllowedStep.{waited_for, raw_faulted, out_of_memory}
use Rattle.py_flat.specs.BinaryStep.{is_live, Fails, WaitedBy, FaultedBy, StarvedBy, BinaryStep}
use Rattle.py_flat.proofs.Laying.{lay_behind, lay_resumes}
use Rattle.py_raw.proofs.Telling.{keeps_same, tells_still, tells_its_bytes}
use Rattle.py_raw.proofs.ReadingOn.{no_fault_then, no_wait_then}
use Rattle.py_raw.specs.RawStream.{WhereTold, KeepsBytes, LeavesCounts, AnswersFor, NoWait, WaitsOnce}
use Rattle.py_stream.specs.Stream.{Stream, buffering_of, file_of}
use Rattle.py_stream.specs.Keeping.{IsSound, KeepsOn}
use Rattle.py_stream.specs.Writing.{OwesBehind, NoneAtPlace, PassesFront, LaysFront, HasJust, Writes, PassesOn}
use Rattle.py_stream.specs.Answers.{moves_back, parts_at_close, Answers, KeepsStream, ClosedWith, InHand, IsShort, LifeMoves, PlaceMoves, IsReplyTo, IsCounted}
use Rattle.py_stream.specs.Taking.{Took, FailsTaking}
use Rattle.py_stream.specs.Settling.{PassesSome, PassesJust, LivesOn, FailsBack, SettleOutcome}
use Rattle.py_stream.proofs.Refused.{nothing_passed, lacking_passed, nothing_blocked, says_short, needs_no_end, waits_alive, waits_there, waits_with_none, waits_answer, fails_there, fault_answers, starves_alive, starves_there, starve_answers}
use Rattle.py_stream.proofs.Taking.{keeps_then, answers_then, calm_of, waited_then, waits_once_then, faulted_then}
use Rattle.py_stream.proofs.Flat.{flat_of, file_now}
use Rattle.py_stream.proofs.Showing.{Asked, Accepts, Beside, beside_writing, shows_answers, passing_writes}

-- a stream of which a call was begun
abbrev pub begun : Stream → Stream
begun stream = record stream { short = false }

-- a stream that stands as it stood passed nothing on
pub passes_nothing : (old new : Stream) → StandsAsBefore old new → PassesSome old new
passes_nothing old new stands = record {
  kept = stands.kept;
  passed = 0;
  within = omega arith;
  answered = stands.answered;
  place = grind arith;
  owed = ap (λ (owed : Owed). owed.bytes) stands.owed;
  still = stands.place;
  at = grind arith;
  stands = grind arith;
  lays = grind arith;
  told = grind arith;
}

-- told, its raw has just none of what it owes
pub just_nothing : (old new : Stream) → StandsAsBefore old new → HasJust old new
just_nothing old new stands tells =
    let none : 0 ≡ length old.owed.bytes - length new.owed.bytes = omega (arith, ap (λ (owed : Owed). length owed.bytes) stands.owed) in
    stands.bytes (tells_its_bytes old.raw tells) ∙ ap (λ (count : ℕ). lay old.raw.bytes old.owed.place (take count old.owed.bytes)) none

-- told, it has just those that were passed on, as many as aren't owed any more
pub just_passed : (old new : Stream) (passed : ℕ) → passed ≤ length old.owed.bytes → new.owed.bytes ≡ drop passed old.owed.bytes → WhereTold old.raw (new.raw.bytes ≡ lay old.raw.bytes old.owed.place (take passed old.owed.bytes)) → HasJust old new
just_passed old new passed within owed told tells =
    let many : passed ≡ length old.owed.bytes - length new.owed.bytes = omega (arith, within, ap length owed, length-drop passed old.owed.bytes) in
    told tells ∙ ap (λ (count : ℕ). lay old.raw.bytes old.owed.place (take count old.owed.bytes)) many

-- A stream that owes what lies right before its place.

-- where what is owed ends at the place, and is nothing, its place is the stream's
pub none_owed_at : (new : Stream) → new.owed.place + length new.owed.bytes ≡ new.place → NoneAtPlace new
none_owed_at new ends none = omega (arith, ends, ap length none)

-- some front that was laid on is laid on in order
pub lays_some : (old new : Stream) → WhereTold old.raw ((laid : ℕ) × (new.raw.bytes ≡ lay old.raw.bytes old.owed.place (take laid old.owed.bytes))) → WhereTold old.raw (LaysFront old [] new.raw.bytes)
lays_some old new laid tells = record { passed = (laid tells).0; more = 0; order = λ some. absurd (some refl); laid = (laid tells).1 }

-- Passing on just what the raw answered for, transfer by transfer.

-- bytes that are laid on somewhere, as far as there are some
pub laid_there : (bytes : List ℕ) (place other : ℕ) (some : List ℕ) → (some ≢ [] → place ≡ other) → lay bytes place some ≡ lay bytes other some
laid_there bytes place other [] there = refl
laid_there bytes place other (byte ∷ more) there = ap (λ (at : ℕ). lay bytes at (byte ∷ more)) (there (λ none. absurd (cc)))

-- once nothing is left, all was passed on
passed_length : (bytes : List ℕ) (passed : ℕ) → passed ≤ length bytes → drop passed bytes ≡ [] → passed ≡ length bytes
passed_length bytes passed within none = omega (arith, within, ap length none, length-drop passed bytes)

-- nothing was passed on yet
pub just_none : (old : Stream) → IsSound old → old.life ≡ life.Live → NoneAtPlace old → PassesJust old old
just_none old sound live at = grind (arith, keeps_same)

-- some was passed on, and then more
laid_then : (raw : List ℕ) (place there first more : ℕ) (owed : List ℕ) → first ≤ length owed → (drop first owed ≢ [] → there ≡ place + first) → lay (lay raw place (take first owed)) there (take more (drop first owed)) ≡ lay raw place (take (first + more) owed)
laid_then raw place there first more owed within at =
    let long : length (take first owed) ≡ first = length-take-le first owed within in
    laid_there (lay raw place (take first owed)) there (place + length (take first owed)) (take more (drop first owed)) (λ some. at (λ none. some (ap (take more) none ∙ take-nil more)) ∙ ap (λ (n : ℕ). place + n) (sym long))
    ∙ lay_behind raw place (take first owed) (take more (drop first owed))
    ∙ ap (lay raw place) (sym (take-add first more owed))

-- told, n bytes more of what is left are laid on after those that were passed on
told_then : (old mid : Stream) (more : ℕ) (one : PassesJust old mid) → WhereTold old.raw (lay mid.raw.bytes mid.owed.place (take more mid.owed.bytes) ≡ lay old.raw.bytes old.owed.place (take (one.passed + more) old.owed.bytes))
told_then old mid more one tells =
    ap (λ (raw : List ℕ). lay raw mid.owed.place (take more mid.owed.bytes)) (one.told tells)
    ∙ (ap (λ (owed : List ℕ). lay (lay old.raw.bytes old.owed.place (take one.passed old.owed.bytes)) mid.owed.place (take more owed)) one.owed
    ∙ laid_then old.raw.bytes old.owed.place mid.owed.place one.passed more old.owed.bytes one.within (λ some. one.place (λ none. some (sym one.owed ∙ none))))

pub just_then : (old mid new : Stream) → PassesJust old mid → PassesJust mid new → PassesJust old new
just_then old mid new one two = record {
  kept = keeps_then old mid new one.kept two.kept;
  live = two.live;
  no_fault = no_fault_then old.raw mid.raw new.raw one.kept.raw one.no_fault two.no_fault;
  passed = one.passed + two.passed;
  within = omega (arith, one.within, two.within, ap length one.owed, length-drop one.passed old.owed.bytes);
  answered = answers_then old.raw mid.raw new.raw one.passed two.passed one.kept.raw one.answered two.answered;
  place = λ some. omega (arith, two.place some, one.place (λ none. some (two.owed ∙ (ap (drop two.passed) none ∙ drop-nil two.passed))));
  owed = two.owed ∙ (ap (drop two.passed) one.owed ∙ drop-drop two.passed one.passed old.owed.bytes);
  still = two.still ∙ one.still;
  at = two.at;
  raw_place = omega (arith, one.raw_place, two.raw_place);
  told = λ tells. two.told (subst IsTrue (sym (tells_still old.raw mid.raw one.kept.raw)) tells) ∙ told_then old mid two.passed one tells;
}

-- what was passed on of a stream whose raw stood where what it owes up to its place begins
just_stands : (old new : Stream) → PassesJust old new → OwesBehind old → new.raw_place ≡ new.owed.place
just_stands old new just behind = grind (arith, passed_length)

-- it owes what lies right before its place still
just_behind : (old new : Stream) → PassesJust old new → OwesBehind old → OwesBehind new
just_behind old new just behind = grind (arith, just_stands, passed_length, length-drop)

-- more was passed on, and maybe more yet laid on
pub just_some : (old mid new : Stream) → PassesJust old mid → PassesSome mid new → PassesSome old new
just_some old mid new one two =
    let told : WhereTold old.raw ((laid : ℕ) × (one.passed + two.passed ≤ laid) × (laid ≤ length old.owed.bytes) × (new.raw.bytes ≡ lay old.raw.bytes old.owed.place (take laid old.owed.bytes))) = λ tells.
    let more = two.told (subst IsTrue (sym (tells_still old.raw mid.raw one.kept.raw)) tells) in
    (one.passed + more.0, omega (arith, more.1), omega (arith, more.2, one.within, ap length one.owed, length-drop one.passed old.owed.bytes), more.3 ∙ told_then old mid more.0 one tells) in
    record {
      kept = keeps_then old mid new one.kept two.kept;
      passed = one.passed + two.passed;
      within = omega (arith, one.within, two.within, ap length one.owed, length-drop one.passed old.owed.bytes);
      answered = answers_then old.raw mid.raw new.raw one.passed two.passed one.kept.raw one.answered two.answered;
      place = λ some. omega (arith, two.place some, one.place (λ none. some (two.owed ∙ (ap (drop two.passed) none ∙ drop-nil two.passed))));
      owed = two.owed ∙ (ap (drop two.passed) one.owed ∙ drop-drop two.passed one.passed old.owed.bytes);
      still = two.still ∙ one.still;
      at = λ _. two.at one.at;
      stands = λ behind. two.stands (just_behind old mid one behind);
      lays = lays_some old new (λ tells. ((told tells).0, (told tells).3));
      told = told;
    }

-- just what the raw answered for is some
pub just_passes : (old new : Stream) → PassesJust old new → PassesSome old new
just_passes old new just = record {
  kept = just.kept;
  passed = just.passed;
  within = just.within;
  answered = just.answered;
  place = just.place;
  owed = just.owed;
  still = just.still;
  at = λ was. just.at;
  stands = just_stands old new just;
  lays = lays_some old new (λ tells. (just.passed, just.told tells));
  told = λ tells. (just.passed, omega arith, just.within, just.told tells);
}

-- and is what a stream takes nothing by that owes what lies right before its place
pub just_took : (old new : Stream) → OwesBehind old → PassesJust old new → Took old [] new
just_took old new behind just = grind (arith, append-nil, just_stands, passed_length, length-drop)

-- what a raw left that failed, of such a stream
pub some_fails : (old new : Stream) → OwesBehind old → PassesSome old new → new.life ≡ life.Failed → Rose old.raw.faults new.raw.faults → NoWait old.raw new.raw → 0 < length new.owed.bytes → FailsTaking old [] new
some_fails old new behind passes failed cause no_wait some = grind (arith, append-nil, length-drop, calm_of)

-- What passing on leaves.

-- the flat file's bytes are as they were
pub passing_keeps_bytes : (old new : Stream) → PassesSome old new → WhereTold old.raw (flat_of new ≡ flat_of old)
passing_keeps_bytes old new passes tells = laid_there new.raw.bytes new.owed.place (old.owed.place + passes.passed) new.owed.bytes passes.place ∙ grind (arith, lay_resumes)

-- told, the raw has all flat bytes once nothing is owed
pub passed_all : (old new : Stream) → PassesSome old new → new.owed.bytes ≡ [] → WhereTold old.raw (new.raw.bytes ≡ flat_of old)
passed_all old new passes none tells = ap (lay new.raw.bytes new.owed.place) (sym none) ∙ passing_keeps_bytes old new passes tells

-- whatever became of the stream, it passed on a front
pub passing_front : (old new : Stream) (left : Life) (short : Bool) → PassesSome old new → PassesFront old (record new { life = left; short = short })
passing_front old new left short passes = record { passed = passes.passed; most = passes.within; answered = passes.answered; bytes = passes.owed; place = passes.place }

-- what a call keeps, it keeps where a front was passed on
pub passing_keeps : (old new : Stream) (left : Life) (short : Bool) → PassesSome old new → KeepsStream old (record new { life = left; short = short })
passing_keeps old new left short passes = record { buffer = passes.kept.buffer; can = passes.kept.can; raw = passes.kept.raw; bare = λ bare _. passes.kept.sound.bare (passes.kept.buffer ∙ bare) }

-- the flat file is as it was, where a front was passed on
pub passing_file : (old new : Stream) → PassesSome old new → new.life ≡ old.life → WhereTold old.raw (file_of new ≡ file_of old)
passing_file old new passes same tells = grind (arith, file_now, passing_keeps_bytes)

-- What stops a call that passes on.

-- a raw that was open with a live stream is open still
pub stays_open : (old : Stream) (left : Life) → old.life ≡ life.Live → is_closed left ≡ false → ClosedWith old.life old.raw → old.raw.closed ≡ is_closed left
stays_open old left live alive closed = closed ∙ ap is_closed live ∙ sym alive

-- the raw would have blocked
pub waiting_answers : (old new : Stream) (call : FileCall) (size : ℕ) → Accepts old call → old.buffer ≡ Some size → old.can.writable ≡ true → (InHand old call → ⊥) → PassesOn old call (Refused (fault.WouldBlock 0)) new → LivesOn old (record new { short = old.short }) → new.short ≡ true → Rose old.raw.waits new.raw.waits → WaitsOnce old.raw new.raw → 0 < length new.owed.bytes → Answers old call (Refused (fault.WouldBlock 0)) new
waiting_answers old new call size accepts buffered can apart away goes short rose once some =
    let asked : Asked old call = accepts.asked in
    let left : Stream = record new { short = old.short } in
    let passes : PassesSome old left = goes.passes in
    let same : new.life ≡ old.life = goes.live ∙ sym asked.live in
    let reply : FileReply = Refused (fault.WouldBlock 0) in
    let counted : IsTrue old.raw.counts_exactly → IsCounted old.buffer old.raw call reply new.raw new.short = λ exact. record { faults = λ _. goes.no_fault exact; waits = λ whole. absurd (cc); once = λ _ _. once exact } in
    let shorts : IsShort call reply new.short = subst (IsShort call reply) (sym short) (says_short call (fault.WouldBlock 0)) in
    let life_is : LifeMoves old.buffer call reply old.life new.life = subst (LifeMoves old.buffer call reply old.life) (sym same) (waits_alive old.buffer call old.life) in
    let place : PlaceMoves old.buffer call reply new.life old.place new.place = subst (PlaceMoves old.buffer call reply new.life old.place) (sym passes.still) (waits_there old.buffer call new.life old.place asked.none.writing) in
    let owing : new.owed.bytes ≢ [] = λ none. omega (arith, some, ap length none) in
    let writes : Writes old call reply new = passing_writes old call reply new asked.none (search (rules, passing_front, waits_with_none)) in
    let answer : IsReplyTo old.buffer old.can.writable call reply = subst (λ (does : Bool). IsReplyTo old.buffer does call reply) (sym can) (subst (λ (buffer : Option ℕ). IsReplyTo buffer true call reply) (sym buffered) (waits_answer size call asked.none.reading asked.none.telling)) in
    let told : WhereTold old.raw (BinaryStep (file_of old) call reply new.short false (file_of new)) = λ tells. waited_for short (accepts.works tells, subst (λ (file : FlatFile). WaitedBy (file_of old) call reply file) (sym (passing_file old left passes same tells)) (asked.none.waits (file_of old))) in
    shows_answers old call reply new asked.none (search (rules, passing_keeps, stays_open, needs_no_end))

-- memory ran out, after some was passed on, or none
pub lacking_answers : (old new : Stream) (call : FileCall) → Asked old call → Beside old call (Refused fault.NoMemory) new → IsTrue old.raw.takes_memory → LivesOn old new → NoWait old.raw new.raw → Answers old call (Refused fault.NoMemory) new
lacking_answers old new call asked beside takes goes no_wait =
    let passes : PassesSome old new = goes.passes in
    let same : new.life ≡ old.life = goes.live ∙ sym asked.live in
    let short : new.short ≡ false = passes.kept.short ∙ asked.whole in
    let reply : FileReply = Refused fault.NoMemory in
    let counted : IsTrue old.raw.counts_exactly → IsCounted old.buffer old.raw call reply new.raw new.short = λ exact. record { faults = λ _. goes.no_fault exact; waits = λ _ _. no_wait exact; once = λ waited. absurd (cc) } in
    let shorts : IsShort call reply new.short = subst (IsShort call reply) (sym short) (says_short call fault.NoMemory) in
    let life_is : LifeMoves old.buffer call reply old.life new.life = subst (LifeMoves old.buffer call reply old.life) (sym same) (starves_alive old.buffer call old.life) in
    let place : PlaceMoves old.buffer call reply new.life old.place new.place = subst (PlaceMoves old.buffer call reply new.life old.place) (sym passes.still) (starves_there old.buffer call new.life old.place) in
    let justly : PassesOn old call reply new = lacking_passed old new call goes.just in
    let writes : Writes old call reply new = passing_writes old call reply new asked.none (search (rules, passing_front, nothing_blocked)) in
    let told : WhereTold old.raw (BinaryStep (file_of old) call reply new.short false (file_of new)) = λ tells. out_of_memory refl (asked.reaches, subst (λ (file : FlatFile). StarvedBy (file_of old) call file) (sym (passing_file old new passes same tells)) (asked.none.starves (file_of old))) in
    shows_answers old call reply new asked.none (search (rules, passing_keeps, stays_open, needs_no_end, starve_answers))

-- the life in which a fault leaves the stream
pub record FaultLeaves (call : FileCall) (left : Life) : Type 0 where
  pub dead : is_live left ≡ false
  pub life_is : (buffer : Option ℕ) (current : Life) → LifeMoves buffer call (Refused fault.RawFault) current left
  pub step : (file after : FlatFile) → Fails file left file.bytes after → FaultedBy file call after

-- the raw failed
pub failing_answers : (old failed : Stream) (call : FileCall) (left : Life) → Asked old call → Beside old call (Refused fault.RawFault) (record failed { life = left }) → FaultLeaves call left → PassesSome old failed → Rose old.raw.faults failed.raw.faults → NoWait old.raw failed.raw → (parts_at_close old call (Refused fault.RawFault) (record failed { life = left }) ≡ false → failed.owed.bytes ≡ [] → is_closed left ≡ false) → Answers old call (Refused fault.RawFault) (record failed { life = left })
failing_answers old failed call left asked beside leaves passes cause no_wait alive =
    let new : Stream = record failed { life = left } in
    let reply : FileReply = Refused fault.RawFault in
    let short : failed.short ≡ false = passes.kept.short ∙ asked.whole in
    let counted : IsTrue old.raw.counts_exactly → IsCounted old.buffer old.raw call reply failed.raw failed.short = λ exact. record { faults = λ sound. absurd (cc); waits = λ _ _. no_wait exact; once = λ waited. absurd (cc) } in
    let shorts : IsShort call reply failed.short = subst (IsShort call reply) (sym short) (says_short call fault.RawFault) in
    let place : PlaceMoves old.buffer call reply left old.place failed.place = subst (PlaceMoves old.buffer call reply left old.place) (sym passes.still) (fails_there old.buffer call left old.place) in
    let writes : Writes old call reply new = passing_writes old call reply new asked.none (search (rules, passing_front, nothing_passed, nothing_blocked)) in
    let fails : WhereTold old.raw (Fails (file_of old) left (flat_of old) (file_of new)) = λ tells. record { life_is = refl; bytes_are = passing_keeps_bytes old failed passes tells; can = passes.kept.can; buffering = ap buffering_of passes.kept.buffer } in
    let told : WhereTold old.raw (BinaryStep (file_of old) call reply failed.short true (file_of new)) = λ tells. raw_faulted refl refl (asked.reaches, leaves.step (file_of old) (file_of new) (fails tells)) in
    let dead : new.life ≡ life.Live → ⊥ = λ live. absurd (cc (leaves.dead)) in
    shows_answers old call reply new asked.none (search (rules, leaves, alive, passing_keeps, stays_open, needs_no_end, fault_answers))

-- What stops a passing on of all stops the call.

failed_itself : (failed : Stream) → failed.life ≡ life.Failed → failed ≡ record failed { life = life.Failed }
failed_itself failed is = ap (λ (current : Life). record failed { life = current }) is

-- a raw that failed fails the stream
pub fault_fails : (old failed : Stream) (call : FileCall) → Asked old call → Beside old call (Refused fault.RawFault) (record failed { life = life.Failed }) → FaultLeaves call life.Failed → PassesSome old failed → failed.life ≡ life.Failed → Rose old.raw.faults failed.raw.faults → NoWait old.raw failed.raw → Answers old call (Refused fault.RawFault) failed
fault_fails old failed call asked beside leaves passes is cause no_wait =
    subst (λ (new : Stream). Answers old call (Refused fault.RawFault) new) (sym (failed_itself failed is))
    (failing_answers old failed call life.Failed asked beside leaves passes cause no_wait (λ _ _. refl))

-- a wait refuses the call, of a stream with a buffer that writes
pub waits_refuse : (old new : Stream) (call : FileCall) (size taken : ℕ) → Accepts old call → old.buffer ≡ Some size → old.can.writable ≡ true → (InHand old call → ⊥) → PassesOn old call (Refused (fault.WouldBlock 0)) new → SettleOutcome old (Err (fault.WouldBlock taken)) new → Answers old call (Refused (fault.WouldBlock taken)) new
waits_refuse old new call size taken accepts buffered can apart away waits =
    subst (λ (count : ℕ). Answers old call (Refused (fault.WouldBlock count)) new) (sym waits.0)
    (waiting_answers old new call size accepts buffered can apart away waits.1 waits.2 waits.3 waits.4 waits.5)

-- running out of memory refuses a call that passes on, after a step of its stream
pub lacks_refuse : (old new : Stream) (call : FileCall) → Asked old call → old.can.writable ≡ true → (InHand old call → ⊥) → SettleOutcome old (Err fault.NoMemory) new → Answers old call (Refused fault.NoMemory) new
lacks_refuse old new call asked can apart lacks = lacking_answers old new call asked (beside_writing old call (Refused fault.NoMemory) new can apart) lacks.0 lacks.1 lacks.2

-- whatever stops the passing on refuses the call
pub settling_refuses : (old new : Stream) (call : FileCall) (size : ℕ) (why : IoFault) → Accepts old call → old.buffer ≡ Some size → old.can.writable ≡ true → (InHand old call → ⊥) → PassesOn old call (Refused (fault.WouldBlock 0)) new → FaultLeaves call life.Failed → SettleOutcome old (Err why) new → Answers old call (Refused why) new
settling_refuses old new call size (fault.WouldBlock taken) accepts buffered can apart away leaves waits = waits_refuse old new call size taken accepts buffered can apart away waits
settling_refuses old new call size fault.RawFault accepts buffered can apart away leaves fails = search (rules, fault_fails, beside_writing)
settling_refuses old new call size fault.NoMemory accepts buffered can apart away leaves lacks = lacks_refuse old new call accepts.asked can apart lacks
settling_refuses old new call size why accepts buffered can apart away leaves never = absurd never

-- What came before a passing on.

-- a step that left what is owed, and where it belongs
pub record LeavesOwed (old mid : Stream) : Type 0 where
  pub kept : KeepsOn old mid
  pub counts : LeavesCounts old.raw mid.raw
  pub bytes : KeepsBytes old.raw mid.raw
  pub answered : AnswersFor 0 old.raw mid.raw
  pub place : mid.place ≡ old.place
  pub owed : mid.owed ≡ old.owed
  pub behind : OwesBehind old → OwesBehind mid

-- some was passed on after nothing was
passes_then : (old mid new : Stream) → LeavesOwed old mid → PassesSome mid new → PassesSome old new
passes_then old mid new left passes = record {
  kept = keeps_then old mid new left.kept passes.kept;
  passed = passes.passed;
  within = subst (λ (owed : Owed). passes.passed ≤ length owed.bytes) left.owed passes.within;
  answered = subst (λ (count : ℕ). AnswersFor count old.raw new.raw) (let same : 0 + passes.passed ≡ passes.passed = omega arith in same) (answers_then old.raw mid.raw new.raw 0 passes.passed left.kept.raw left.answered passes.answered);
  place = λ some. passes.place some ∙ ap (λ (owed : Owed). owed.place + passes.passed) left.owed;
  owed = passes.owed ∙ ap (λ (owed : Owed). drop passes.passed owed.bytes) left.owed;
  still = passes.still ∙ left.place;
  at = λ none. passes.at (λ nothing. ap (λ (owed : Owed). owed.place) left.owed ∙ none (sym (ap (λ (owed : Owed). owed.bytes) left.owed) ∙ nothing) ∙ sym left.place);
  stands = λ behind. passes.stands (left.behind behind);
  lays = grind arith;
  told = grind arith;
}

-- told, the raw has just that still
just_then_so : (old mid new : Stream) → LeavesOwed old mid → LivesOn mid new → HasJust old new
just_then_so old mid new left goes tells =
    goes.just (tells_still old.raw mid.raw left.kept.raw ∙ tells)
    ∙ (ap (λ (owed : Owed). lay mid.raw.bytes owed.place (take (length owed.bytes - length new.owed.bytes) owed.bytes)) left.owed
    ∙ ap (λ (bytes : List ℕ). lay bytes old.owed.place (take (length old.owed.bytes - length new.owed.bytes) old.owed.bytes)) (left.bytes (tells_its_bytes old.raw tells)))

lives_then : (old mid new : Stream) → LeavesOwed old mid → LivesOn mid new → LivesOn old new
lives_then old mid new left goes = record { passes = passes_then old mid new left goes.passes; live = goes.live; just = just_then_so old mid new left goes; no_fault = no_fault_then old.raw mid.raw new.raw left.kept.raw left.counts.no_fault goes.no_fault }

-- a step leaves whether the stream has to move its raw back
pub moves_still : (old mid : Stream) → KeepsOn old mid → moves_back mid ≡ true → moves_back old ≡ true
moves_still old mid kept moves = grind arith

-- so where that failed, it did so from before the step
pub fails_back : (old mid new : Stream) → KeepsOn old mid → FailsBack mid new → FailsBack old new
fails_back old mid new kept back = record { moves = moves_still old mid kept back.moves; elsewhere = back.elsewhere }

-- all was passed on after such a step
pub settles_then : (old mid new : Stream) (result : Result (Unit {0}) IoFault) → LeavesOwed old mid → SettleOutcome mid result new → SettleOutcome old result new
settles_then old mid new (Ok done) left passed = (lives_then old mid new left passed.0, no_wait_then old.raw mid.raw new.raw left.kept.raw left.counts.no_wait passed.1, passed.2)
settles_then old mid new (Err (fault.WouldBlock taken)) left waits = (
  waits.0,
  subst (λ (short : Bool). LivesOn old (record new { short = short })) left.kept.short (lives_then old mid (record new { short = mid.short }) left waits.1),
  waits.2,
  waited_then old.raw mid.raw new.raw left.kept.raw waits.3,
  waits_once_then old.raw mid.raw new.raw left.kept.raw left.counts.no_wait waits.4,
  waits.5,
)
settles_then old mid new (Err fault.RawFault) left fails = (passes_then old mid new left fails.0, fails.1, faulted_then old.raw mid.raw new.raw left.kept.raw fails.2, no_wait_then old.raw mid.raw new.raw left.kept.raw left.counts.no_wait fails.3, λ none. fails_back old mid new left.kept (fails.4 none))
settles_then old mid new (Err fault.NoMemory) left lacks = (sym left.kept.raw.takes_memory ∙ lacks.0, lives_then old mid new left lacks.1, no_wait_then old.raw mid.raw new.raw left.kept.raw left.counts.no_wait lacks.2)
settles_then old mid new (Err why) left never = absurd never
