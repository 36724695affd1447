-- What one step of a call that gives bytes after another takes and passes on.
use Rattle.std.proofs.Common.{◌≡◌, ℕ, ◌+◌, ◌≤◌, Option, Some, None, List, [], ◌++◌, length, take, drop, refl, sym, ap, ◌∙◌, subst, arith, add-zero, append_assoc, length-append, length-drop}
use Rattle.std.proofs.Math.Seq.{take-append-add, take-add}
use Rattle.std.proofs.lemmas.List.{length-take-le, take-append-le, drop-append-le, drop-drop, append-nil}
use Rattle.py_flat.specs.declared.life.Life.TheVariants as life
use Rattle.py_flat.specs.Bytes.{lay}
use Rattle.py_flat.specs.Causes.{Rose, counted}
use Rattle.py_flat.proofs.Laying.{lay_behind}
use Rattle.py_raw.specs.RawStream.{Raw, Keeps, NoWait, WaitsOnce, AnswersFor}
use Rattle.py_raw.proofs.Telling.{keeps_same, tells_still}
use Rattle.py_raw.proofs.ReadingOn.{no_fault_then, no_wait_then}
use Rattle.py_stream.specs.Stream.{Stream}
use Rattle.py_stream.specs.Writing.{OwesBehind}
use Rattle.py_stream.specs.Keeping.{IsSound, KeepsOn}
use Rattle.py_stream.specs.Taking.{Took, LaysFurther, FailsTaking, Lacks, Calm, WaitsAsOne, StarvesTaking, FillsUp, TookAll}

-- Lists.

-- a front of one list after another
pub take_behind : (front more : List ℕ) (count : ℕ) → take (length front + count) (front ++ more) ≡ front ++ take count more
take_behind front more count = take-append-add front more count

-- what is left of bytes after a first count of them, with more after, and a second count of these
pub drop_twice : (bytes more : List ℕ) (first second : ℕ) → first ≤ length bytes → drop second (drop first bytes ++ more) ≡ drop (first + second) (bytes ++ more)
drop_twice bytes more first second within = ap (drop second) (sym (drop-append-le first bytes more within)) ∙ drop-drop second first (bytes ++ more)

-- the first count of bytes laid, and then the next ones, right after
pub lay_twice : (raw : List ℕ) (place : ℕ) (bytes more : List ℕ) (first second : ℕ) → first ≤ length bytes → lay (lay raw place (take first bytes)) (place + first) (take second (drop first bytes ++ more)) ≡ lay raw place (take (first + second) (bytes ++ more))
lay_twice raw place bytes more first second within =
    let all : List ℕ = bytes ++ more in
    let front : List ℕ = take first bytes in
    let size : length front ≡ first = length-take-le first bytes within in
    let same : front ≡ take first all = sym (take-append-le first bytes more within) in
    grind (arith, drop-append-le, lay_behind, take-add)

-- Streams.

-- a step that leaves all as it is
pub keeps_itself : (stream : Stream) → IsSound stream → KeepsOn stream stream
keeps_itself stream sound = record { raw = keeps_same stream.raw; stays = refl; reads = λ tells. refl; buffer = refl; can = refl; short = refl; sound = sound }

-- two steps, one after the other, keep what each keeps
pub keeps_then : (old mid new : Stream) → KeepsOn old mid → KeepsOn mid new → KeepsOn old new
keeps_then old mid new first second = grind arith

-- a stream that fails after a step
pub fails_sound : (stream : Stream) → IsSound stream → IsSound (record stream { life = life.Failed })
fails_sound stream sound = record { far = sound.far; near = λ live. absurd (let wrong : life.Failed ≡ life.Live = live in cc); is_open = λ live. absurd (let wrong : life.Failed ≡ life.Live = live in cc); bare = sound.bare }

-- Counts.

-- a step that waits once after one that doesn't wait
pub waits_once_then : (old mid new : Raw) → Keeps old mid → NoWait old mid → WaitsOnce mid new → WaitsOnce old new
waits_once_then old mid new kept first second exact = second (kept.counts_exactly ∙ exact) ∙ ap (λ (waits : ℕ). counted waits 1) (first exact)

-- a count that rose in the second step rose in both
pub waited_then : (old mid new : Raw) → Keeps old mid → Rose mid.waits new.waits → Rose old.waits new.waits
waited_then old mid new kept rose = omega (arith, kept.waits, rose)

-- a fault that the second step counted rose in both
pub faulted_then : (old mid new : Raw) → Keeps old mid → Rose mid.faults new.faults → Rose old.faults new.faults
faulted_then old mid new kept rose = omega (arith, kept.faults, rose)

-- a count that rose in the first step rose in both
pub waited_before : (old mid new : Raw) → Keeps mid new → Rose old.waits mid.waits → Rose old.waits new.waits
waited_before old mid new kept rose = omega (arith, kept.waits, rose)

-- a raw that never waits counts no wait without a buffer
pub calm_of : (buffer : Option ℕ) (old new : Raw) → NoWait old new → Calm buffer old new
calm_of None old new calm = calm
calm_of (Some size) old new calm = tt

-- two steps that never wait without a buffer
pub calm_then : (buffer next : Option ℕ) (old mid new : Raw) → next ≡ buffer → Keeps old mid → Calm buffer old mid → Calm next mid new → Calm buffer old new
calm_then buffer next old mid new same kept first second = grind (arith, no_wait_then)

-- one wait after a step that never waits without a buffer
pub one_wait_then : (buffer next : Option ℕ) (old mid new : Raw) → next ≡ buffer → Keeps old mid → Calm buffer old mid → WaitsAsOne next mid new → WaitsAsOne buffer old new
one_wait_then buffer next old mid new same kept first second = grind (arith, waits_once_then)

-- What the raw answered for.

-- a raw answers in two steps for what it did in each
pub answers_then : (old mid new : Raw) (first second : ℕ) → Keeps old mid → AnswersFor first old mid → AnswersFor second mid new → AnswersFor (first + second) old new
answers_then old mid new first second kept one two tells = omega (arith, one tells, two (kept.tells_transfers ∙ tells))

-- a raw answers for nothing more in the second of two steps
pub answers_still : (old mid new : Raw) (count : ℕ) → Keeps old mid → AnswersFor count old mid → AnswersFor 0 mid new → AnswersFor count old new
answers_still old mid new count kept one two = grind arith

-- Taking.

-- a step that takes nothing and passes nothing on
pub took_none : (stream : Stream) → IsSound stream → OwesBehind stream → stream.life ≡ life.Live → Took stream [] stream
took_none stream sound behind live = grind (arith, keeps_itself, add-zero, append-nil)

-- what two steps leave owed
owed_then : (owed mid new front more : List ℕ) (first second : ℕ) → first ≤ length owed + length front → mid ≡ drop first (owed ++ front) → new ≡ drop second (mid ++ more) → new ≡ drop (first + second) (owed ++ (front ++ more))
owed_then owed mid new front more first second within one two = grind (arith, drop_twice, length-append, append_assoc)

-- how much two steps can pass on
within_then : (owed mid front more : List ℕ) (first second : ℕ) → first ≤ length owed + length front → mid ≡ drop first (owed ++ front) → second ≤ length mid + length more → first + second ≤ length owed + length (front ++ more)
within_then owed mid front more first second within one two = omega (arith, ap length one, length-drop first (owed ++ front), length-append owed front, length-append front more)

-- what two steps lay
told_then : (raw after new : List ℕ) (place between : ℕ) (owed mid front more : List ℕ) (first second : ℕ) → first ≤ length owed + length front → mid ≡ drop first (owed ++ front) → between ≡ place + first → after ≡ lay raw place (take first (owed ++ front)) → new ≡ lay after between (take second (mid ++ more)) → new ≡ lay raw place (take (first + second) (owed ++ (front ++ more)))
told_then raw after new place between owed mid front more first second within one moved laid two = grind (arith, lay_twice, length-append, append_assoc)

-- two steps, one after the other, take the bytes of both
pub took_then : (old mid new : Stream) (front more : List ℕ) → Took old front mid → Took mid more new → Took old (front ++ more) new
took_then old mid new front more first second = record {
  kept = keeps_then old mid new first.kept second.kept;
  live = second.live;
  no_fault = no_fault_then old.raw mid.raw new.raw first.kept.raw first.no_fault second.no_fault;
  was = first.was;
  behind = second.behind;
  passed = first.passed + second.passed;
  within = within_then old.owed.bytes mid.owed.bytes front more first.passed second.passed first.within first.owed second.within;
  answered = answers_then old.raw mid.raw new.raw first.passed second.passed first.kept.raw first.answered second.answered;
  place = omega (arith, first.place, second.place);
  owed = owed_then old.owed.bytes mid.owed.bytes new.owed.bytes front more first.passed second.passed first.within first.owed second.owed;
  told = λ tells. told_then old.raw.bytes mid.raw.bytes new.raw.bytes old.owed.place mid.owed.place old.owed.bytes mid.owed.bytes front more first.passed second.passed first.within first.owed first.place (first.told tells) (second.told (tells_still old.raw mid.raw first.kept.raw ∙ tells));
}

-- a step that takes nothing after another
pub took_on : (old mid new : Stream) (bytes : List ℕ) → Took old bytes mid → Took mid [] new → Took old bytes new
took_on old mid new bytes first second = subst (λ (xs : List ℕ). Took old xs new) (append-nil bytes) (took_then old mid new bytes [] first second)

-- Failing.

-- what a failing lays after what a step laid
lays_then : (raw after new : List ℕ) (place between : ℕ) (owed mid front more : List ℕ) (first least taken : ℕ) → first ≤ length owed + length front → mid ≡ drop first (owed ++ front) → between ≡ place + first → after ≡ lay raw place (take first (owed ++ front)) → LaysFurther after between least (mid ++ more) (mid ++ take taken more) new → LaysFurther raw place (first + least) (owed ++ (front ++ more)) (owed ++ take (length front + taken) (front ++ more)) new
lays_then raw after new place between owed mid front more first least taken within one moved laid lays =
    let kept : List ℕ = take taken more in
    let size : length (owed ++ take (length front + taken) (front ++ more)) ≡ length owed + (length front + length kept) = omega (arith, length-append owed (take (length front + taken) (front ++ more)), ap length (take_behind front more taken), length-append front kept) in
    let middle : length (mid ++ kept) + first ≡ length owed + (length front + length kept) = omega (arith, within, length-append mid kept, ap length one, length-drop first (owed ++ front), length-append owed front) in
    record {
      laid = first + lays.laid;
      least_is = omega (arith, lays.least_is);
      most = omega (arith, within, lays.most, length-append mid more, ap length one, length-drop first (owed ++ front), length-append owed front, length-append owed (front ++ more), length-append front more);
      owes = λ some. omega (arith, size, middle, lays.owes (omega (arith, size, middle, some)));
      bytes = told_then raw after new place between owed mid front more first lays.laid within one moved laid lays.bytes;
    }

-- a failing after a step
pub fails_then : (old mid new : Stream) (front more : List ℕ) → TookAll old front mid → FailsTaking mid more new → FailsTaking old (front ++ more) new
fails_then old mid new front more so second = record {
  kept = keeps_then old mid new so.took.kept second.kept;
  was = so.took.was;
  behind = second.behind;
  failed = second.failed;
  cause = faulted_then old.raw mid.raw new.raw so.took.kept.raw second.cause;
  calm = calm_then old.buffer mid.buffer old.raw mid.raw new.raw so.took.kept.buffer so.took.kept.raw so.calm second.calm;
  taken = length front + second.taken;
  fits = omega (arith, second.fits, length-append front more);
  passed = so.took.passed + second.passed;
  within = omega (arith, so.took.within, second.within, ap length so.took.owed, length-drop so.took.passed (old.owed.bytes ++ front), length-append old.owed.bytes front);
  answered = answers_then old.raw mid.raw new.raw so.took.passed second.passed so.took.kept.raw so.took.answered second.answered;
  place = omega (arith, so.took.place, second.place);
  owed = owed_then old.owed.bytes mid.owed.bytes new.owed.bytes front (take second.taken more) so.took.passed second.passed so.took.within so.took.owed second.owed
      ∙ ap (λ (xs : List ℕ). drop (so.took.passed + second.passed) (old.owed.bytes ++ xs)) (sym (take_behind front more second.taken));
  told = λ tells. lays_then old.raw.bytes mid.raw.bytes new.raw.bytes old.owed.place mid.owed.place old.owed.bytes mid.owed.bytes front more so.took.passed second.passed second.taken so.took.within so.took.owed so.took.place (so.took.told tells) (second.told (tells_still old.raw mid.raw so.took.kept.raw ∙ tells));
}

-- a failing with more bytes after, that were never reached
pub fails_more : (old new : Stream) (bytes more : List ℕ) → FailsTaking old bytes new → FailsTaking old (bytes ++ more) new
fails_more old new bytes more fails = grind (arith, take-append-le, length-append, append_assoc)

-- Running out of memory, and a buffer that is full.

-- memory that runs out in a step after another
pub lacks_then : (old mid new : Stream) (front more : List ℕ) → Took old front mid → Lacks mid more new → Lacks old (front ++ more) new
lacks_then old mid new front more first second = grind (arith, took_then)

-- a call that runs out of memory in a step after another
pub starves_then : (old mid new : Stream) (front more : List ℕ) (start : ℕ) → TookAll old front mid → StarvesTaking mid more start new → StarvesTaking old (front ++ more) start new
starves_then old mid new front more start so second = record {
  taken = length front + second.taken;
  fits = omega (arith, second.fits, length-append front more);
  between = second.between;
  lacks = subst (λ (xs : List ℕ). Lacks old xs second.between) (sym (take_behind front more second.taken)) (lacks_then old mid second.between front (take second.taken more) so.took second.lacks);
  calm = calm_then old.buffer mid.buffer old.raw mid.raw second.between.raw so.took.kept.buffer so.took.kept.raw so.calm second.calm;
  starved = second.starved;
}

-- memory that ran out for some bytes ran out for more bytes too, that were never reached
pub starves_more : (old new : Stream) (bytes more : List ℕ) (start : ℕ) → StarvesTaking old bytes start new → StarvesTaking old (bytes ++ more) start new
starves_more old new bytes more start starves = grind (arith, length-append, take-append-le)

-- a wait in a step after another
pub fills_then : (old mid new : Stream) (front more : List ℕ) → TookAll old front mid → FillsUp mid more new → FillsUp old (front ++ more) new
fills_then old mid new front more so second = record {
  taken = length front + second.taken;
  less = omega (arith, second.less, length-append front more);
  took = subst (λ (xs : List ℕ). Took old xs new) (sym (take_behind front more second.taken)) (took_then old mid new front (take second.taken more) so.took second.took);
  full = second.full;
  waited = waited_then old.raw mid.raw new.raw so.took.kept.raw second.waited;
  once = one_wait_then old.buffer mid.buffer old.raw mid.raw new.raw so.took.kept.buffer so.took.kept.raw so.calm second.once;
}

-- a wait that stopped some bytes stopped more bytes too, that were never reached
pub fills_more : (old new : Stream) (bytes more : List ℕ) → FillsUp old bytes new → FillsUp old (bytes ++ more) new
fills_more old new bytes more fills = grind (arith, length-append, take-append-le)
