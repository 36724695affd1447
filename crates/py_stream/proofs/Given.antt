-- The answers of the calls that give bytes to a stream, by what their steps came to.
use Rattle.std.proofs.Common.{◌≡◌, ℕ, ◌+◌, ◌-◌, ◌<◌, ◌≤◌, inl, inr, Bool, true, false, IsTrue, List, [], ◌∷◌, ◌++◌, length, length-append, take, drop, Option, is_some, Result, Ok, Err, refl, sym, ap, ◌∙◌, subst, arith, None, rules}
use Rattle.std.proofs.Math.Seq.{take-append_seam}
use Rattle.std.proofs.lemmas.List.{length-take-le, take_all, take-append-le, append-nil, drop-take}
use Rattle.py_flat.specs.declared.fault.IoFault.{IoFault}
use Rattle.py_flat.specs.declared.fault.IoFault.TheVariants as fault
use Rattle.py_flat.specs.declared.life.Life.{Life}
use Rattle.py_flat.specs.declared.life.Life.TheVariants as life
use Rattle.py_flat.specs.Bytes.{lay}
use Rattle.py_flat.specs.Causes.{Rose}
use Rattle.py_flat.specs.Limits.{greatest_place}
use Rattle.py_flat.specs.Calls.{FileCall, FileReply, Write, WriteLines, Refused}
use Rattle.py_flat.specs.AllowedStep.{settled, waited_for, raw_faulted, out_of_memory}
use Rattle.py_flat.specs.BinaryStep.{payload, SettledBy, BinaryStep, does_work}
use Rattle.py_raw.specs.RawStream.{WhereTransfers, WhereTold}
use Rattle.py_stream.specs.Stream.{Stream, size_of, file_of}
use Rattle.py_stream.specs.Kinds.{is_writing, goes_on, makes_one, says_fault, says_no_memory}
use Rattle.py_stream.specs.Writing.{OwesBehind, Takes, first_of_both, OwesNoneOfIts, TookOwn, BlocksFull, HasRoom, TakesAlone}
use Rattle.py_stream.specs.Answers.{Answers, LifeMoves, PlaceMoves, HasCauses, IsCounted, IsNear}
use Rattle.py_stream.specs.Keeping.{IsSound, KeepsOn}
use Rattle.py_stream.specs.Taking.{Took, TookAll, FailsTaking, Calm, WaitsAsOne, CutsBack, Starved, StarvesTaking, FillsUp, MayTake, BeginsWriting, FitsBehind, KeepsBehind, KeepsWhatFits, PutOutcome, PutsOutcome}
use Rattle.py_stream.proofs.Begun.{answers_whole}
use Rattle.py_flat.specs.Lines.{joined}
use Rattle.py_stream.specs.Moving.{EndsWithin, Begins}
use Rattle.py_stream.proofs.Refused.{nothing_blocked, says_short, fault_answers, starves_alive, starves_there, starve_answers, work_reaches}
use Rattle.py_stream.proofs.Taking.{fails_sound}
use Rattle.py_stream.proofs.Flat.{took_ends, fails_ends, took_bytes, took_file, took_none_ends, took_none_file, failed_file, fails_bytes, lays_taken, fails_lays}
use Rattle.py_stream.proofs.Refusing.{begins_in_vain, IsPlaced}
use Rattle.py_stream.proofs.Owing.{owes_all}
use Rattle.py_stream.proofs.Giving.{of_both, writing_too_far, lines_fit, MayWrite, answers_coming, accepted, works, no_tell, calm_counts, one_counts, TakesCount, taken_reply, says_all, is_taken, WaitsCount, waited_reply, is_blocked, FailsCount, is_faulted, IsPart, StepsBy}
use Rattle.py_flat.specs.Refusals.{refusal}
use Rattle.py_flat.specs.FlatFile.{FlatFile}

-- at most one transfer was made, where the call makes no more
abbrev pub OneTransfer : Stream → FileCall → Stream → Type 0
OneTransfer old call new = IsTrue (makes_one old.buffer call) → WhereTransfers old.raw (new.raw.transfers ≤ old.raw.transfers + 1)

-- the first n of a call's own bytes were taken
takes_front : (old new : Stream) (own : List ℕ) (taken : ℕ) (current : Life) (short : Bool) → taken ≤ length own → Took old (take taken own) new → Takes old own (record new { life = current; short = short })
takes_front old new own taken current short fits took = record {
  taken = taken;
  within = fits;
  place = omega (arith, took_ends old new (take taken own) took, length-take-le taken own fits);
  passed = took.passed;
  most = omega (arith, took.within, length-take-le taken own fits);
  answered = took.answered;
  forth = λ _. omega (arith, took.behind.stands, took.place, took.was.stands);
  owed = took.owed;
  up_to = inr took.behind.ends;
  told = λ tells. (taken, omega arith, fits, took_bytes old new (take taken own) took tells);
  just = λ lives behind. took.told;
}

-- a step of the flat file that carried the call out, or that a wait cut short
pub part_steps : (file after : FlatFile) (call : FileCall) (reply : FileReply) (short faulted : Bool) → IsTrue (does_work file call) → refusal file call ≡ None → StepsBy short file call reply after → BinaryStep file call reply short faulted after
part_steps file after call reply true faulted work passes waited = waited_for refl (work, waited)
part_steps file after call reply false faulted work passes carried = settled (subst (λ (refused : Option IoFault). SettledBy file call refused reply after) (sym passes) carried)

-- The first n bytes were taken: all that the call could take, or what it could before the raw would have blocked.
part_answers : (old new : Stream) (call : FileCall) (reply : FileReply) (count : ℕ) (short : Bool) → MayWrite old call → count ≤ length (payload call) → IsPart old count old.buffer call reply short → Took old (take count (payload call)) new → (IsTrue short → length new.owed.bytes ≡ size_of new) → (IsTrue short → Rose old.raw.waits new.raw.waits) → (short ≡ false → Calm old.buffer old.raw new.raw) → (IsTrue short → WaitsAsOne old.buffer old.raw new.raw) → OneTransfer old call new → (HasRoom old (payload call) → TakesAlone old call reply (record new { short = short })) → Answers old call reply (record new { short = short })
part_answers old new call reply count short may fits is took filled waited calm once one room =
    let own : List ℕ = payload call in
    let life_is : LifeMoves old.buffer call reply old.life new.life = is.life_is old.life new.life (took.live ∙ sym may.gives.live) in
    let place : PlaceMoves old.buffer call reply new.life old.place new.place = is.place new.life old.place new.place (omega (arith, took_ends old new (take count own) took, length-take-le count own fits)) in
    let causes : HasCauses old.raw reply new.raw short = record { waits = waited; faults = λ faulted. absurd (cc (is.no_fault)) } in
    let counted : IsTrue old.raw.counts_exactly → IsCounted old.buffer old.raw call reply new.raw short = λ exact. record { faults = λ _. took.no_fault exact; waits = λ whole ends. calm_counts old.buffer call old.raw new.raw may.gives.writing (calm whole) ends exact; once = λ cut ends. one_counts old.buffer call old.raw new.raw may.gives.writing (once cut) ends exact } in
    let wants : IsTrue (says_no_memory reply) → IsTrue old.raw.takes_memory = λ wanting. absurd (cc (is.no_want)) in
    let starves : IsTrue (says_no_memory reply) → new.life ≡ life.Failed → TookOwn old (record new { short = short }) = λ wanting. absurd (cc (is.no_want)) in
    let full : BlocksFull call reply (record new { short = short }) = is.full (record new { short = short }) (λ cut. record { up_to = omega (arith, filled cut, took.behind.ends); owes = filled cut }) in
    let straight = is.straight (record new { short = short }) in
    let told : WhereTold old.raw (BinaryStep (file_of old) call reply short (says_fault reply) (file_of new)) = λ tells. part_steps (file_of old) (file_of new) call reply short (says_fault reply) (works old call may.gives) (accepted old call may.gives) (is.steps (file_of new) (took_file old new (take count own) may.gives.live took tells)) in
    answers_coming old new call reply short may (search (rules, takes_front, lays_taken)) (search (rules, takes_front, lays_taken))

-- some were taken
pub takes_answers : (old new : Stream) (call : FileCall) (count : ℕ) → MayWrite old call → count ≤ length (payload call) → TakesCount old.buffer call count → Took old (take count (payload call)) new → Calm old.buffer old.raw new.raw → OneTransfer old call new → (HasRoom old (payload call) → TakesAlone old call (taken_reply call count) (record new { short = false })) → Answers old call (taken_reply call count) (record new { short = false })
takes_answers old new call count may fits counts took calm one room = part_answers old new call (taken_reply call count) count false may fits (is_taken old count old.buffer call may.gives.writing fits counts) took (λ short. absurd (cc)) (λ short. absurd (cc)) (λ whole. calm) (λ short. absurd (cc)) one room

-- the raw would have blocked
pub waits_answers : (old new : Stream) (call : FileCall) (taken : ℕ) → MayWrite old call → taken ≤ length (payload call) → WaitsCount old.buffer call taken → Took old (take taken (payload call)) new → length new.owed.bytes ≡ size_of new → Rose old.raw.waits new.raw.waits → WaitsAsOne old.buffer old.raw new.raw → OneTransfer old call new → (HasRoom old (payload call) → ⊥) → Answers old call (waited_reply old.buffer call taken) (record new { short = true })
waits_answers old new call taken may fits counts took full waited once one roomless = part_answers old new call (waited_reply old.buffer call taken) taken true may fits (is_blocked old taken old.buffer call may.gives.writing counts) took (λ _. full) (λ _. waited) (λ whole. absurd (cc)) (λ _. once) one (λ has. absurd (roomless has))

-- The raw failed.
pub faults_answers : (old new : Stream) (call : FileCall) → MayWrite old call → (fails : FailsTaking old (payload call) new) → FailsCount old.buffer call fails.taken → OneTransfer old call new → OwesNoneOfIts old call (Refused fault.RawFault) (record new { short = false }) → (HasRoom old (payload call) → ⊥) → Answers old call (Refused fault.RawFault) (record new { short = false })
faults_answers old new call may fails counts one straight roomless =
    let own : List ℕ = payload call in
    let is = is_faulted old fails.taken old.buffer call may.gives.writing in
    let ends : new.place ≡ old.place + fails.taken = fails_ends old new own fails in
    let life_is : LifeMoves old.buffer call (Refused fault.RawFault) old.life new.life = subst (LifeMoves old.buffer call (Refused fault.RawFault) old.life) (sym fails.failed) (is.life_is old.life) in
    let place : PlaceMoves old.buffer call (Refused fault.RawFault) new.life old.place new.place = is.place new.life old.place new.place counts ends in
    let counted : IsTrue old.raw.counts_exactly → IsCounted old.buffer old.raw call (Refused fault.RawFault) new.raw false = λ exact. record { faults = λ sound. absurd (cc); waits = λ _ ends. calm_counts old.buffer call old.raw new.raw may.gives.writing fails.calm ends exact; once = λ short. absurd (cc) } in
    let takes : Takes old own (record new { short = false }) = record { taken = fails.taken; within = fails.fits; place = ends; passed = fails.passed; most = fails.within; answered = fails.answered; forth = λ _. omega (arith, fails.behind.stands, fails.place, fails.was.stands); owed = fails.owed; up_to = inr fails.behind.ends; told = λ tells. let laid = fails_bytes old new own fails tells in (laid.count, laid.least_is, laid.fits, laid.bytes); just = λ lives behind. absurd (let never : life.Live ≡ life.Failed = sym lives ∙ fails.failed in cc) } in
    let lays = fails_lays old new own fails in
    let answers = fault_answers old.buffer true call (no_tell call may.gives.writing) in
    let told : WhereTold old.raw (BinaryStep (file_of old) call (Refused fault.RawFault) false true (file_of new)) = λ tells.
    let laid = fails_bytes old new own fails tells in
    raw_faulted refl refl (
      work_reaches (file_of old) call (works old call may.gives),
      is.faulted (file_of new) (laid.count, laid.fits, failed_file old new life.Failed (lay (file_of old).bytes old.place (take laid.count own)) fails.kept fails.failed laid.bytes),
    ) in
    answers_coming old new call (Refused fault.RawFault) false may (search (rules, says_short, nothing_blocked)) (search (rules, says_short, nothing_blocked))

-- Memory ran out.

-- memory ran out before any of the call's own bytes went to the raw
pub wants_answers : (old new : Stream) (call : FileCall) → MayWrite old call → IsTrue old.raw.takes_memory → Took old [] new → Calm old.buffer old.raw new.raw → OneTransfer old call new → OwesNoneOfIts old call (Refused fault.NoMemory) (record new { short = false }) → (HasRoom old (payload call) → ⊥) → Answers old call (Refused fault.NoMemory) (record new { short = false })
wants_answers old new call may takes took calm one straight roomless =
    let own : List ℕ = payload call in
    let is = is_faulted old 0 old.buffer call may.gives.writing in
    let life_is : LifeMoves old.buffer call (Refused fault.NoMemory) old.life new.life = subst (LifeMoves old.buffer call (Refused fault.NoMemory) old.life) (may.gives.live ∙ sym took.live) (starves_alive old.buffer call old.life) in
    let place : PlaceMoves old.buffer call (Refused fault.NoMemory) new.life old.place new.place = subst (PlaceMoves old.buffer call (Refused fault.NoMemory) new.life old.place) (sym (took_none_ends old new took)) (starves_there old.buffer call new.life old.place) in
    let counted : IsTrue old.raw.counts_exactly → IsCounted old.buffer old.raw call (Refused fault.NoMemory) new.raw false = λ exact. record { faults = λ _. took.no_fault exact; waits = λ _ ends. calm_counts old.buffer call old.raw new.raw may.gives.writing calm ends exact; once = λ short. absurd (cc) } in
    let takes_none : Takes old own (record new { short = false }) = takes_front old new own 0 new.life false (omega arith) took in
    let lays = lays_taken old new own 0 (omega arith) took in
    let answers = starve_answers old.buffer true call (no_tell call may.gives.writing) in
    let told : WhereTold old.raw (BinaryStep (file_of old) call (Refused fault.NoMemory) false false (file_of new)) = λ tells. out_of_memory refl (work_reaches (file_of old) call (works old call may.gives), is.same (file_of new) (took_none_file old new may.gives.live took tells)) in
    answers_coming old new call (Refused fault.NoMemory) false may (search (rules, says_short, nothing_blocked)) (search (rules, says_short, nothing_blocked))

-- a raw stands where what is owed belongs, and past the place of a call it took some of that call's own bytes
took_own : (old new : Stream) (bytes : List ℕ) → Took old bytes new → old.place < new.owed.place → TookOwn old (record new { life = life.Failed; short = false })
took_own old new bytes took past = grind arith

-- memory ran out after the raw took some of the call's own bytes: the stream fails
pub midway_answers : (old between : Stream) (call : FileCall) (taken : ℕ) → MayWrite old call → goes_on old.buffer call ≡ true → taken ≤ length (payload call) → IsTrue old.raw.takes_memory → Took old (take taken (payload call)) between → Calm old.buffer old.raw between.raw → OneTransfer old call between → old.place < between.owed.place → OwesNoneOfIts old call (Refused fault.NoMemory) (record between { life = life.Failed; short = false }) → (HasRoom old (payload call) → ⊥) → Answers old call (Refused fault.NoMemory) (record between { life = life.Failed; short = false })
midway_answers old between call taken may goes fits takes took calm one past straight roomless =
    let own : List ℕ = payload call in
    let is = is_faulted old taken old.buffer call may.gives.writing in
    let new : Stream = record between { life = life.Failed } in
    let kept : KeepsOn old new = record { raw = took.kept.raw; stays = took.kept.stays; reads = took.kept.reads; buffer = took.kept.buffer; can = took.kept.can; short = took.kept.short; sound = fails_sound between took.kept.sound } in
    let long : length (take taken own) ≡ taken = length-take-le taken own fits in
    let ends : between.place ≡ old.place + taken = omega (arith, took_ends old between (take taken own) took, long) in
    let some : 0 < taken = omega (arith, past, took.place, took.was.ends, took.within, long) in
    let causes : HasCauses old.raw (Refused fault.NoMemory) between.raw false = record { waits = λ short. absurd (cc); faults = λ faulted. absurd (cc) } in
    let shorts = says_short call fault.NoMemory in
    let life_is = is.starved_life old.life goes in
    let place = is.starved_place old.place between.place fits ends in
    let counted : IsTrue old.raw.counts_exactly → IsCounted old.buffer old.raw call (Refused fault.NoMemory) between.raw false = λ exact. record { faults = λ _. took.no_fault exact; waits = λ _ ends. calm_counts old.buffer call old.raw between.raw may.gives.writing calm ends exact; once = λ short. absurd (cc) } in
    let answers = starve_answers old.buffer true call (no_tell call may.gives.writing) in
    let told : WhereTold old.raw (BinaryStep (file_of old) call (Refused fault.NoMemory) false false (file_of new)) = λ tells. out_of_memory refl (
      work_reaches (file_of old) call (works old call may.gives),
      is.starved (file_of new) (taken, some, fits, failed_file old new life.Failed (lay (file_of old).bytes old.place (take taken own)) kept refl (took_bytes old between (take taken own) took tells)),
    ) in
    let room : HasRoom old own → TakesAlone old call (Refused fault.NoMemory) (record new { short = false }) = λ has. absurd (roomless has) in
    answers_coming old new call (Refused fault.NoMemory) false may (search (rules, nothing_blocked, takes_front, lays_taken, took_own)) (search (rules, nothing_blocked, takes_front, lays_taken, took_own))

-- up to where the call began all bytes are as they were
cut_bytes : (owed front : List ℕ) (passed most : ℕ) → passed ≤ length owed → most ≡ length owed - passed → take most (drop passed (owed ++ front)) ≡ drop passed (owed ++ [])
cut_bytes owed front passed most within is =
    let parts : passed + most ≡ length owed = omega (arith, is) in
    sym (drop-take passed most (owed ++ front))
    ∙ ap (λ (n : ℕ). drop passed (take n (owed ++ front))) parts
    ∙ ap (drop passed) (take-append_seam owed front ∙ sym (append-nil owed))

-- a stream that goes back to the place where the call began has taken nothing
lets_go : (old between new : Stream) (front : List ℕ) → between.owed.place ≤ old.place → Took old front between → CutsBack old.place between new → Took old [] new
lets_go old between new front before took cut = grind (arith, cut_bytes, take-append-le)

-- a stream whose last answer is known to be short or not
pub said_short : (stream : Stream) (short : Bool) → stream.short ≡ short → record stream { short = short } ≡ stream
said_short stream short is = ap (λ (said : Bool). let left : Stream = record stream { short = said } in left) (sym is)

-- a `write` owes none of its own bytes once the raw failed, nor where running out of memory fails the stream
pub one_write : (old new : Stream) (bytes : List ℕ) (start : ℕ) (why : IoFault) → PutOutcome old bytes start (Err why) new → OwesNoneOfIts old (Write bytes) (Refused why) (record new { short = false })
one_write old new bytes start why put = grind arith

-- what one piece answers is what several do
pub puts_one : (old new : Stream) (bytes : List ℕ) (start : ℕ) (result : Result Bool IoFault) → PutOutcome old bytes start result new → PutsOutcome old bytes start result new
puts_one old new bytes start result put = grind arith

-- As the steps of `write` and `writelines` come.

-- what is known once a call began that gives bytes, and its bytes have a place; and that it goes on until all are taken
pub record Begun (first old : Stream) (call : FileCall) : Type 0 where
  pub began : Begins first (Ok tt) old
  pub may : MayWrite old call
  pub many : makes_one old.buffer call ≡ false
  pub goes : goes_on old.buffer call ≡ true

-- it began as every call does
pub writing_begins : (first old : Stream) → BeginsWriting first (Ok tt) old → Begins first (Ok tt) old
writing_begins first old began = (sym (ap (λ (stream : Stream). stream.life) began.1) ∙ began.0.live, began.1)

-- a call that began, and whose bytes have a place
pub begun_on : (first old : Stream) (call : FileCall) → is_writing call ≡ true → makes_one old.buffer call ≡ false → goes_on old.buffer call ≡ true → BeginsWriting first (Ok tt) old → old.place + length (payload call) ≤ greatest_place → Begun first old call
begun_on first old call writing many goes began within = grind arith

-- lines that have a place, as it was tried
pub lines_begun : (first old : Stream) (lines : List (List ℕ)) (start : ℕ) (found : Option ℕ) → BeginsWriting first (Ok tt) old → start ≡ old.place → EndsWithin (start + length (joined lines)) found → is_some found ≡ true → Begun first old (WriteLines lines)
lines_begun first old lines start found began at ends some = begun_on first old (WriteLines lines) refl refl refl began (subst (λ (place : ℕ). place + length (joined lines) ≤ greatest_place) at (lines_fit (start + length (joined lines)) found ends some))

-- one whose bytes would end past the greatest place is refused
pub writing_past : (first old : Stream) (call : FileCall) → is_writing call ≡ true → BeginsWriting first (Ok tt) old → greatest_place < old.place + length (payload call) → Answers first call (Refused fault.TooFar) old
writing_past first old call writing began past =
    let before : Stream = record first { short = false } in
    let may : MayTake before = subst MayTake began.1 began.0 in
    answers_whole first old call (Refused fault.TooFar)
    (writing_too_far before old call writing (record { far = may.sound.far; near = may.sound.near }) may.writes (may.live, began.1) (subst (λ (stream : Stream). greatest_place < stream.place + length (payload call)) began.1 past))

-- a call that gives bytes, which the life refuses
pub writing_refused : (before after : Stream) (why : IoFault) → IsPlaced before → Begins before (Err why) after → (call : FileCall) → is_writing call ≡ true → Answers before call (Refused why) after
writing_refused before after why placed begins = of_both (λ (call : FileCall). Answers before call (Refused why) after) (λ bytes. begins_in_vain before after (Write bytes) why placed refl refl refl refl begins) (λ lines. begins_in_vain before after (WriteLines lines) why placed refl refl refl refl begins)

whole : (first old : Stream) → Begins first (Ok tt) old → old.short ≡ false
whole first old began = ap (λ (stream : Stream). stream.short) began.1

-- a call is answered as from the stream that it came to
pub from_first : (first old : Stream) (call : FileCall) (reply : FileReply) (after : Stream) → Begins first (Ok tt) old → Answers old call reply after → Answers first call reply after
from_first first old call reply after began answers = answers_whole first after call reply (subst (λ (stream : Stream). Answers stream call reply after) began.1 answers)

-- where the answer isn't short, the stream is as its steps left it
pub as_left : (first old new : Stream) (call : FileCall) (reply : FileReply) → Begins first (Ok tt) old → KeepsOn old new → Answers old call reply (record new { short = false }) → Answers first call reply new
as_left first old new call reply began kept answers =
    from_first first old call reply new began
    (subst (λ (left : Stream). Answers old call reply left) (said_short new false (kept.short ∙ whole first old began)) answers)

no_one : (old new : Stream) (call : FileCall) → makes_one old.buffer call ≡ false → OneTransfer old call new
no_one old new call many one = absurd (cc)

took_all : (old new : Stream) (own : List ℕ) → Took old own new → Took old (take (length own) own) new
took_all old new own took = subst (λ (bytes : List ℕ). Took old bytes new) (sym (take_all (length own) own (omega arith))) took

-- a call that goes on until all bytes are taken has no other count
pub record GoesOn (buffer : Option ℕ) (call : FileCall) : Type 0 where
  pub all : TakesCount buffer call (length (payload call))
  pub waits : (taken : ℕ) → taken < length (payload call) → WaitsCount buffer call taken
  pub says : (taken : ℕ) → waited_reply buffer call taken ≡ Refused (fault.WouldBlock taken)
  pub fails : (taken : ℕ) → taken ≤ length (payload call) → FailsCount buffer call taken

pub goes_on_all : (buffer : Option ℕ) (call : FileCall) → is_writing call ≡ true → goes_on buffer call ≡ true → GoesOn buffer call
goes_on_all buffer call writing = grind arith

-- where what is owed ends at a place, as many are kept before that as are owed
kept_many : (owed : List ℕ) (start place : ℕ) → start + length owed ≡ place → place - first_of_both owed start [] place ≡ length owed
kept_many [] start place ends = omega arith
kept_many (byte ∷ owed) start place ends = omega (arith, ends)

-- so bytes that have room at the place have room behind those that are owed
fits_behind : (old : Stream) (bytes : List ℕ) → OwesBehind old → HasRoom old bytes → IsSound old → FitsBehind old bytes
fits_behind old bytes behind has sound =
    let near : IsNear old = sound.near has.lives in
    record { buffered = has.buffered; room = omega (arith, has.room, kept_many old.owed.bytes old.owed.place old.place behind.ends, near.owed_after_first, near.owed_before_end, near.fits) }

-- and where these were kept so, the call took all alone
takes_alone : (old new : Stream) (call : FileCall) → is_writing call ≡ true → Took old (payload call) new → KeepsBehind old (payload call) new → TakesAlone old call (taken_reply call (length (payload call))) (record new { short = false })
takes_alone old new call writing took keeps = record {
  says = says_all call writing;
  whole = refl;
  raw = keeps.raw;
  raw_place = omega (arith, took.behind.stands, took.behind.ends, took.was.stands, took.was.ends, took_ends old new (payload call) took, ap length keeps.owed, length-append old.owed.bytes (payload call));
  owes = owes_all old.owed new.owed old.place (payload call) (inr took.was.ends) keeps.owed (took.behind.ends ∙ took_ends old new (payload call) took);
  held = keeps.held;
}

-- a call that took all of its bytes
pub giving_takes : (first old new : Stream) (call : FileCall) → Begun first old call → TookAll old (payload call) new → KeepsWhatFits old (payload call) (Ok true) new → Answers first call (taken_reply call (length (payload call))) new
giving_takes first old new call begun took room =
    as_left first old new call (taken_reply call (length (payload call))) begun.began took.took.kept
    (takes_answers old new call (length (payload call)) begun.may (omega arith) (goes_on_all old.buffer call begun.may.gives.writing begun.goes).all (took_all old new (payload call) took.took) took.calm (no_one old new call begun.many)
    (λ has. takes_alone old new call begun.may.gives.writing took.took (room (fits_behind old (payload call) begun.may.behind has begun.may.gives.sound)).1))

-- bytes that weren't all kept had no room
no_room : (old new : Stream) (call : FileCall) (result : Result Bool IoFault) → MayWrite old call → KeepsWhatFits old (payload call) result new → (result ≡ Ok true → ⊥) → HasRoom old (payload call) → ⊥
no_room old new call result may room stops has = stops (room (fits_behind old (payload call) may.behind has may.gives.sound)).0

-- the raw would have blocked, and the call is refused by how many were taken
pub giving_blocks : (first old new left : Stream) (call : FileCall) (start : ℕ) (why : IoFault) → Begun first old call → start ≡ old.place → FillsUp old (payload call) new → KeepsWhatFits old (payload call) (Ok false) new → why ≡ fault.WouldBlock (new.place - start) → left ≡ record new { short = true } → Answers first call (Refused why) left
giving_blocks first old new left call start why begun begins fills room says short =
    let fits : fills.taken ≤ length (payload call) = omega (arith, fills.less) in
    let on : GoesOn old.buffer call = goes_on_all old.buffer call begun.may.gives.writing begun.goes in
    let count : new.place - start ≡ fills.taken = omega (arith, begins, took_ends old new (take fills.taken (payload call)) fills.took, length-take-le fills.taken (payload call) fits) in
    let is : Refused (fault.WouldBlock fills.taken) ≡ Refused why = ap (λ (taken : ℕ). Refused (fault.WouldBlock taken)) (sym count) ∙ ap (λ (fault : IoFault). Refused fault) (sym says) in
    from_first first old call (Refused why) left begun.began
    (subst (λ (after : Stream). Answers old call (Refused why) after) (sym short)
    (subst (λ (reply : FileReply). Answers old call reply (record new { short = true })) (on.says fills.taken ∙ is)
    (waits_answers old new call fills.taken begun.may fits (on.waits fills.taken fills.less) fills.took fills.full fills.waited fills.once (no_one old new call begun.many) (no_room old new call (Ok false) begun.may room (λ same. absurd (cc))))))

starves : (first old new : Stream) (call : FileCall) → Begun first old call → StarvesTaking old (payload call) old.place new → OwesNoneOfIts old call (Refused fault.NoMemory) (record new { short = false }) → (HasRoom old (payload call) → ⊥) → Answers first call (Refused fault.NoMemory) new
starves first old new call begun lack straight roomless = go lack.starved where
  between : Stream
  between = lack.between

  took : Took old (take lack.taken (payload call)) between
  took = lack.lacks.took

  go : Starved old.place between new → Answers first call (Refused fault.NoMemory) new
  go (inl before) =
      let back : Took old [] new = lets_go old between new (take lack.taken (payload call)) before.0 took before.1 in
      as_left first old new call (Refused fault.NoMemory) begun.began back.kept
      (wants_answers old new call begun.may lack.lacks.takes back (subst (Calm old.buffer old.raw) (sym before.1.raw) lack.calm) (no_one old new call begun.many) straight roomless)
  go (inr past) =
      let failed : Stream = record between { life = life.Failed } in
      let sound : failed.short ≡ false = took.kept.short ∙ whole first old begun.began in
      from_first first old call (Refused fault.NoMemory) new begun.began
      (subst (λ (left : Stream). Answers old call (Refused fault.NoMemory) left) (said_short failed false sound ∙ sym past.1)
      (midway_answers old between call lack.taken begun.may begun.goes lack.fits lack.lacks.takes took lack.calm (no_one old between call begun.many) past.0 (subst (λ (left : Stream). OwesNoneOfIts old call (Refused fault.NoMemory) (record left { short = false })) past.1 straight) roomless))

-- the raw refused
pub giving_fails : (first old new : Stream) (call : FileCall) (start : ℕ) (why : IoFault) → Begun first old call → start ≡ old.place → PutsOutcome old (payload call) start (Err why) new → OwesNoneOfIts old call (Refused why) (record new { short = false }) → KeepsWhatFits old (payload call) (Err why) new → Answers first call (Refused why) new
giving_fails first old new call start fault.RawFault begun begins fails straight room =
    as_left first old new call (Refused fault.RawFault) begun.began fails.kept
    (faults_answers old new call begun.may fails ((goes_on_all old.buffer call begun.may.gives.writing begun.goes).fails fails.taken fails.fits) (no_one old new call begun.many) straight (no_room old new call (Err fault.RawFault) begun.may room (λ same. absurd (cc))))
giving_fails first old new call start fault.NoMemory begun begins wants straight room = starves first old new call begun (subst (λ (at : ℕ). StarvesTaking old (payload call) at new) begins wants) straight (no_room old new call (Err fault.NoMemory) begun.may room (λ same. absurd (cc)))
giving_fails first old new call start why begun begins never straight room = absurd never
