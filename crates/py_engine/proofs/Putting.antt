-- Taking the bytes of a call: into the buffer, or straight to the raw.
use Rattle.std.proofs.Common.{[], ◌≡◌, ℕ, ◌+◌, ◌≤◌, Bool, true, false, List, ◌++◌, length, take, drop, Option, None, Some, Result, Ok, Err, sym, ap, ◌∙◌, subst, arith, length-append}
use Rattle.std.proofs.Math.Seq.{take-nil}
use Rattle.std.proofs.lemmas.List.{take-append-le, take_all, drop_all, drop-drop, append-nil}
use Rattle.py_flat.specs.declared.fault.IoFault.{IoFault}
use Rattle.py_flat.specs.declared.fault.IoFault.TheVariants as fault
use Rattle.py_flat.specs.Causes.{Rose}
use Rattle.py_stream.specs.Stream.{Stream}
use Rattle.py_stream.specs.Writing.{OwesBehind, OwesRest, OwesOld}
use Rattle.py_stream.specs.Taking.{Calm, WaitsAsOne, Took, TookAll, FailsTaking, Lacks, PutOutcome}
use Rattle.py_stream.proofs.Taking.{take_behind, took_then, took_on, fails_then, fails_more, starves_then, waited_then, waited_before}
use Rattle.py_stream.proofs.Giving.{put_then}
use Rattle.py_stream.proofs.Flat.{fails_ends, took_none_ends}
use Rattle.py_engine.specs.Passing.{FlushOutcome, HandOnOutcome, FitOutcome, StopOutcome, room_behind}
use Rattle.py_engine.proofs.Draining.{flush_lacks, flush_fails}

-- a buffer's own waits end no call
pub all_taken : (size : ℕ) (old new : Stream) (bytes : List ℕ) → old.buffer ≡ Some size → Took old bytes new → TookAll old bytes new
all_taken size old new bytes buffered took = record { took = took; calm = subst (λ (buffer : Option ℕ). Calm buffer old.raw new.raw) (sym buffered) tt }

-- What is left of the bytes that were owed before.

-- nothing is left of the bytes that were owed
owes_nothing : (old new : Stream) → OwesBehind new → new.owed.bytes ≡ [] → OwesOld old new
owes_nothing old new behind none = record {
  rest = record {
    passed = length old.owed.bytes;
    bytes = none ∙ sym (drop_all (length old.owed.bytes) old.owed.bytes (omega arith));
    place = λ some. absurd (some none);
  };
  stands = λ was left. omega (arith, behind.stands, behind.ends, ap length left);
  moved = λ elsewhere. none;
  came = λ elsewhere. omega (arith, behind.stands, behind.ends, ap length none);
}

rest_of : (old new : Stream) → OwesBehind new → new.place ≡ old.place → OwesRest old.owed new.owed → OwesOld old new
rest_of old new behind same rest = record { rest = rest; stands = λ was left. omega (arith, behind.stands, behind.ends, ap length left); moved = λ elsewhere. absurd (elsewhere same); came = λ elsewhere. absurd (elsewhere same) }

-- some of the bytes that were owed were passed on
pub owes_passing : (old new : Stream) → Took old [] new → OwesOld old new
owes_passing old new took = rest_of old new took.behind (took_none_ends old new took) (record { passed = took.passed; bytes = took.owed ∙ ap (drop took.passed) (append-nil old.owed.bytes); place = λ some. took.place })

-- the raw failed while it was given only the bytes that it was owed
owes_failing : (old new : Stream) → FailsTaking old [] new → OwesOld old new
owes_failing old new fails =
    rest_of old new fails.behind (omega (arith, fails_ends old new [] fails, fails.fits)) (grind (arith, take-nil, append-nil))

-- what is left after some of the bytes that were owed were passed on
owes_then : (old mid new : Stream) → Took old [] mid → OwesOld mid new → OwesOld old new
owes_then old mid new first owes = record {
  rest = record {
    passed = first.passed + owes.rest.passed;
    bytes = owes.rest.bytes ∙ (ap (drop owes.rest.passed) (first.owed ∙ ap (drop first.passed) (append-nil old.owed.bytes)) ∙ drop-drop owes.rest.passed first.passed old.owed.bytes);
    place = λ some. omega (arith, owes.rest.place some, first.place);
  };
  stands = λ was left. owes.stands first.behind left;
  moved = λ elsewhere. owes.moved (λ same. elsewhere (same ∙ took_none_ends old mid first));
  came = λ elsewhere. owes.came (λ same. elsewhere (same ∙ took_none_ends old mid first));
}

-- Putting one piece.

-- a piece is put after a passing on of what was owed before
pub put_behind : (old mid new : Stream) (bytes : List ℕ) (start : ℕ) (result : Result Bool IoFault) → TookAll old [] mid → PutOutcome mid bytes start result new → PutOutcome old bytes start result new
put_behind old mid new bytes start (Err fault.RawFault) first put = (fails_then old mid new [] bytes first put.0, owes_then old mid new first.took put.1)
put_behind old mid new bytes start (Err fault.NoMemory) first put = (starves_then old mid new [] bytes start first put.0, λ failed. owes_then old mid new first.took (put.1 failed))
put_behind old mid new bytes start result first put = put_then old mid new [] bytes start result first put

-- after a wait what fits was taken
pub fits_then : (size : ℕ) (old mid new : Stream) (front more : List ℕ) (start : ℕ) (all : Bool) → old.buffer ≡ Some size → Took old front mid → Rose old.raw.waits mid.raw.waits → FitOutcome mid more all new → PutOutcome old (front ++ more) start (Ok all) new
fits_then size old mid new front more start true buffered first waited fit = all_taken size old new (front ++ more) buffered (took_then old mid new front more first fit.0)
fits_then size old mid new front more start false buffered first waited fit =
    let room : ℕ = room_behind mid in
    record {
      taken = length front + room;
      less = omega (arith, fit.1, length-append front more);
      took = subst (λ (some : List ℕ). Took old some new) (sym (take_behind front more room)) (took_then old mid new front (take room more) first fit.0);
      full = fit.2;
      waited = waited_before old.raw mid.raw new.raw fit.0.kept.raw waited;
      once = subst (λ (buffer : Option ℕ). WaitsAsOne buffer old.raw new.raw) (sym buffered) tt;
    }

-- Where the raw refused.

-- what was taken by the time that the raw refused, and that none of it is owed
abbrev pub StopsAt : Stream → List ℕ → IoFault → Stream → Type 0
StopsAt old bytes fault.RawFault mid = FailsTaking old bytes mid × OwesOld old mid
StopsAt old bytes fault.NoMemory mid = (taken : ℕ) × (taken ≤ length bytes) × Lacks old (take taken bytes) mid × OwesOld old mid
StopsAt old bytes other mid = ⊥

-- the answer of a call whose raw refused
pub stopped : (size : ℕ) (old mid new : Stream) (bytes : List ℕ) (start : ℕ) (why : IoFault) → old.buffer ≡ Some size → StopsAt old bytes why mid → StopOutcome why start mid new → PutOutcome old bytes start (Err why) new
stopped size old mid new bytes start why buffered stops left = grind arith

-- a passing on of what was owed before
pub flush_stops : (old mid : Stream) (bytes : List ℕ) (why : IoFault) → OwesBehind old → FlushOutcome old (Err why) mid → StopsAt old bytes why mid
flush_stops old mid bytes fault.RawFault behind flush = (fails_more old mid [] bytes (flush_fails old mid behind flush), owes_failing old mid (flush_fails old mid behind flush))
flush_stops old mid bytes fault.NoMemory behind flush = (0, omega arith, flush_lacks old mid behind flush, owes_passing old mid (flush_lacks old mid behind flush).took)
flush_stops old mid bytes why behind flush = absurd flush

-- a giving of the caller's bytes, after some were taken, while nothing is owed
pub hand_on_stops : (old now mid : Stream) (front more : List ℕ) (why : IoFault) → TookAll old front now → now.owed.bytes ≡ [] → HandOnOutcome now more (Err why) mid → StopsAt old (front ++ more) why mid
hand_on_stops old now mid front more fault.RawFault first none give = (fails_then old now mid front more first give.0, owes_nothing old mid give.0.behind give.1)
hand_on_stops old now mid front more fault.NoMemory first none give = (
  length front,
  omega (arith, length-append front more),
  (grind (arith, take-append-le, take_all)),
  subst (OwesOld old) (sym give.1) (owes_nothing old now first.took.behind none),
)
hand_on_stops old now mid front more why first none give = absurd give

-- the raw would have blocked
pub waits_handing_on : (old now mid : Stream) (bytes : List ℕ) (taken : ℕ) → Took old (take taken bytes) now → HandOnOutcome now (drop taken bytes) (Ok None) mid → Took old (take taken bytes) mid × Rose old.raw.waits mid.raw.waits
waits_handing_on old now mid bytes taken first give = (took_on old now mid (take taken bytes) first give.0, waited_then old.raw now.raw mid.raw first.kept.raw give.1)
