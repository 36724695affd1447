-- The answers of `write` and `writelines` of a stream without a buffer, and what one transfer to the raw is to it.
use Rattle.std.proofs.Common.{[], ◌≡◌, ℕ, ◌+◌, ◌-◌, ◌<◌, ◌≤◌, inr, Bool, true, false, nat_lt, IsTrue, List, length, take, drop, Option, Some, None, unwrap_or, Ok, Err, refl, sym, ap, ◌∙◌, add-zero, arith, not, is_some, subst}
use Rattle.std.proofs.Math.Seq.{take-nil}
use Rattle.std.proofs.lemmas.Bool.{cases_lt, true≢false, ltb-true, lt-ltb}
use Rattle.std.proofs.lemmas.List.{length-take-le, length-drop, take_all, drop_all}
use Rattle.py_flat.specs.declared.fault.IoFault.{IoFault}
use Rattle.py_flat.specs.declared.fault.IoFault.TheVariants as fault
use Rattle.py_flat.specs.declared.life.Life.TheVariants as life
use Rattle.py_flat.specs.Limits.{greatest_place}
use Rattle.py_raw.specs.RawStream.{Raw, Keeps, StaysOpen, WherePlace}
use Rattle.py_raw.proofs.Telling.{tells_its_bytes}
use Rattle.py_stream.specs.LiveRaw.{GiveOutcome}
use Rattle.py_stream.specs.Keeping.{IsSound}
use Rattle.py_stream.specs.Taking.{Took, TookAll, FailsTaking, StarvesTaking, FillsUp, PutsOutcome, BeginsWriting}
use Rattle.py_stream.proofs.Giving.{takes_nothing, MayWrite}
use Rattle.py_unbuffered.specs.Engine.{EngineView, stream_of, IsEngine, KeepsEngine, Waits, StarvesWith, Puts, FailsPutting, PutOutcome}
use Rattle.py_unbuffered.proofs.Begun.{keeps_on, owes_behind, able_stays, bufferless}
use Rattle.py_flat.specs.Calls.{Write, Refused}
use Rattle.py_stream.specs.Writing.{OwesOld}
use Rattle.py_stream.specs.Answers.{Answers}
use Rattle.py_stream.specs.Replies.{taken_reply}
use Rattle.py_stream.proofs.Given.{writing_begins, from_first, as_left, takes_answers, waits_answers, faults_answers, wants_answers}

-- the raw took some of the bytes
pub puts_took : (old : EngineView) (bytes : List ℕ) (count : ℕ) (new : EngineView) → Puts old bytes count new → TookAll (stream_of old) (take count bytes) (stream_of new)
puts_took old bytes count new puts = grind (arith, length-take-le, keeps_on, owes_behind, drop_all, take_all)

-- the raw would have blocked
pub waits_took : (old new : EngineView) → Waits old new → Took (stream_of old) [] (stream_of new)
waits_took old new waits = grind (arith, keeps_on, owes_behind, tells_its_bytes)

-- a wait leaves some of the bytes over
pub waits_full : (old new : EngineView) (bytes : List ℕ) → 0 < length bytes → Waits old new → FillsUp (stream_of old) bytes (stream_of new)
waits_full old new bytes some waits = record { taken = 0; less = some; took = waits_took old new waits; full = refl; waited = waits.cause; once = waits.once }

-- the raw failed, and took none of the bytes
pub fails_taking : (old new : EngineView) (bytes : List ℕ) → FailsPutting old bytes new → FailsTaking (stream_of old) bytes (stream_of new)
fails_taking old new bytes fails = record {
  kept = keeps_on old new fails.kept fails.reads;
  was = owes_behind old;
  behind = owes_behind new;
  failed = fails.failed;
  cause = fails.cause;
  calm = fails.no_wait;
  taken = 0;
  fits = omega arith;
  passed = 0;
  within = omega arith;
  answered = fails.answered;
  place = omega (arith, fails.place);
  owed = refl;
  told = λ tells. let laid = fails.told tells in record { laid = laid.0; least_is = omega arith; most = laid.1; owes = λ some. absurd (omega (arith, some)); bytes = laid.2 };
}

-- a failing took none of the bytes
pub fails_with_none : (old new : EngineView) (bytes : List ℕ) (fails : FailsPutting old bytes new) → (fails_taking old new bytes fails).taken ≡ 0
unfolding fails_taking
fails_with_none old new bytes fails = refl

-- memory ran out, which fails the stream where the call had moved bytes
starves : (old : EngineView) (bytes : List ℕ) (start : ℕ) (moved : Bool) (new : EngineView) → moved ≡ nat_lt start old.place → IsSound (stream_of old) → old.life ≡ life.Live → IsTrue old.raw.takes_memory → StarvesWith moved old new → StarvesTaking (stream_of old) bytes start (stream_of new)
starves old bytes start true new by is live takes left =
    let none = takes_nothing (stream_of old) is (owes_behind old) live in
    record { taken = 0; fits = omega arith; between = stream_of old; lacks = record { takes = takes; took = none.took }; calm = none.calm; starved = inr (ltb-true start old.place (sym by), ap stream_of left) }
starves old bytes start false new by is live takes left =
    let none = takes_nothing (stream_of old) is (owes_behind old) live in
    let still : nat_lt start old.place ≡ true → ⊥ = λ past. absurd (true≢false (sym past ∙ sym by)) in
    grind (arith, cases_lt, lt-ltb, owes_behind, take-nil)

-- a transfer that is refused is a writing that is
pub put_refused : (old new : EngineView) (bytes : List ℕ) (start : ℕ) (moved : Bool) (why : IoFault) → moved ≡ nat_lt start old.place → IsSound (stream_of old) → old.life ≡ life.Live → PutOutcome old moved bytes (Err why) new → PutsOutcome (stream_of old) bytes start (Err why) (stream_of new)
put_refused old new bytes start moved fault.RawFault by is live fails = fails_taking old new bytes fails
put_refused old new bytes start moved fault.NoMemory by is live outcome = starves old bytes start moved new by is live outcome.0 outcome.1
put_refused old new bytes start moved why by is live outcome = absurd outcome

-- what is handed on of a line is all that is left
pub piece_is : (line : List ℕ) (taken : ℕ) → take (length line - taken) (drop taken line) ≡ drop taken line
piece_is line taken = take_all (length line - taken) (drop taken line) (omega (arith, length-drop taken line))

-- One transfer of bytes, as the raw answered it.

-- an engine after a step of its raw, at a place where that stands
stands_on : (old : EngineView) (raw : Raw) (place : ℕ) → IsEngine old.raw old.place old.access old.life → Keeps old.raw raw → StaysOpen old.raw raw → place ≤ greatest_place → WherePlace old.raw (old.life ≡ life.Live → raw.place ≡ place) → KeepsEngine old (record old { raw = raw; place = place })
stands_on old raw place is keeps stays far stands = grind (arith, able_stays)

pub put_answers : (old : EngineView) (raw : Raw) (bytes : List ℕ) (moved : Bool) (count : Option ℕ) → IsEngine old.raw old.place old.access old.life → old.life ≡ life.Live → old.place + length bytes ≤ greatest_place → Keeps old.raw raw → StaysOpen old.raw raw → GiveOutcome old.raw bytes (Ok count) raw → PutOutcome old moved bytes (Ok count) (record old { raw = raw; place = old.place + unwrap_or count 0 })
put_answers old raw bytes moved (Some count) is live within keeps stays gives = grind (arith, stands_on)
put_answers old raw bytes moved None is live within keeps stays waits = grind (arith, stands_on, add-zero)

-- a write that was begun
abbrev pub Writing : EngineView → EngineView → Type 0
Writing old started = BeginsWriting (stream_of old) (Ok tt) (stream_of started)

-- bytes that fit may be written
may_write : (old started : EngineView) (bytes : List ℕ) → Writing old started → started.place + length bytes ≤ greatest_place → MayWrite (stream_of started) (Write bytes)
may_write old started bytes began fits = record { gives = record { writing = refl; sound = began.0.sound; live = began.0.live; can = began.0.writes; within = fits }; behind = began.0.behind }

-- Writing by one transfer.

-- nothing was owed, and nothing is
owes_old : (old now : EngineView) (short : Bool) → OwesOld (stream_of old) (stream_of (record now { short = short }))
owes_old old now short = record { rest = record { passed = 0; bytes = refl; place = λ some. absurd (some refl) }; stands = λ _ _. refl; moved = λ _. refl; came = λ _. refl }

-- the raw took some, or would have blocked
pub write_answers : (old started now : EngineView) (bytes : List ℕ) (result : Option ℕ) (waits : Bool) → Writing old started → started.place + length bytes ≤ greatest_place → PutOutcome started false bytes (Ok result) now → is_some result ≡ not waits → Answers (stream_of old) (Write bytes) (taken_reply (Ok result)) (stream_of (record now { short = waits }))
write_answers old started now bytes (Some count) false writing fits puts is =
    let took = puts_took started bytes count now puts in
    from_first (stream_of old) (stream_of started) (Write bytes) _ _ (writing_begins (stream_of old) (stream_of started) writing)
    (takes_answers (stream_of started) (stream_of now) (Write bytes) count (may_write old started bytes writing fits) puts.fits puts.some took.took took.calm (λ _. puts.transfers) (λ has. absurd (bufferless None refl has.buffered)))
write_answers old started now bytes None true writing fits waits is =
    from_first (stream_of old) (stream_of started) (Write bytes) _ _ (writing_begins (stream_of old) (stream_of started) writing)
    (waits_answers (stream_of started) (stream_of now) (Write bytes) 0 (may_write old started bytes writing fits) (omega arith) refl (waits_took started now waits) refl waits.cause waits.once (λ _. waits.transfers) (λ has. absurd (bufferless None refl has.buffered)))
write_answers old started now bytes (Some count) true writing fits puts is = absurd (cc)
write_answers old started now bytes None false writing fits waits is = absurd (cc)

-- a write by one transfer failed, or memory ran out
pub write_fails : (old started now : EngineView) (bytes : List ℕ) (why : IoFault) → Writing old started → started.place + length bytes ≤ greatest_place → PutOutcome started false bytes (Err why) now → Answers (stream_of old) (Write bytes) (Refused why) (stream_of now)
write_fails old started now bytes fault.RawFault writing fits fails =
    as_left (stream_of old) (stream_of started) (stream_of now) (Write bytes) (Refused fault.RawFault) (writing_begins (stream_of old) (stream_of started) writing) (keeps_on started now fails.kept fails.reads)
    (faults_answers (stream_of started) (stream_of now) (Write bytes) (may_write old started bytes writing fits) (fails_taking started now bytes fails) (fails_with_none started now bytes fails) (λ _. fails.transfers) (owes_old started now false) (λ has. absurd (bufferless None refl has.buffered)))
write_fails old started now bytes fault.NoMemory writing fits wants =
    let none = takes_nothing (stream_of started) writing.0.sound writing.0.behind writing.0.live in
    subst (λ (engine : EngineView). Answers (stream_of old) (Write bytes) (Refused fault.NoMemory) (stream_of engine)) (sym wants.1)
    (as_left (stream_of old) (stream_of started) (stream_of started) (Write bytes) (Refused fault.NoMemory) (writing_begins (stream_of old) (stream_of started) writing) none.took.kept
    (wants_answers (stream_of started) (stream_of started) (Write bytes) (may_write old started bytes writing fits) wants.0 none.took none.calm (λ _ _. omega arith) (λ failed. owes_old started started false) (λ has. absurd (bufferless None refl has.buffered))))
write_fails old started now bytes why writing fits never = absurd never
