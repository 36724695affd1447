-- The answers of `seek`, as its steps come: where it goes, what is passed on before, and the moving.
use Rattle.std.proofs.Common.{◌≡◌, ◌≢◌, inl, inr, ⊎_elim, ℕ, ◌+◌, ◌≤◌, suc, zero, ℤ, pos, max, nat_eq, Bool, true, false, List, [], ◌∷◌, length, Option, Some, None, IsSome, Result, Ok, Err, ne_eqb, if◌then◌else◌, refl, sym, ap, ◌∙◌, subst, arith, zero-le, rules, IsTrue, ◌&&◌, is_some}
use Rattle.std.proofs.lemmas.Bool.{cases_lt}
use Rattle.std.proofs.lemmas.Bool.Decides.{eqb_tells}
use Rattle.py_flat.specs.declared.fault.IoFault.{IoFault}
use Rattle.py_flat.specs.declared.fault.IoFault.TheVariants as fault
use Rattle.py_flat.specs.declared.life.Life.{Life}
use Rattle.py_flat.specs.declared.life.Life.TheVariants as life
use Rattle.py_flat.specs.Bytes.{lay}
use Rattle.py_flat.specs.Owed.{Owed}
use Rattle.py_flat.specs.Calls.{FileCall, FileReply, Seek, Place, Refused}
use Rattle.py_flat.specs.FlatFile.{Abilities, FlatFile}
use Rattle.py_flat.specs.Refusals.{moved_by, refusal, target_refusal}
use Rattle.py_flat.specs.ExactStep.{seek_target}
use Rattle.py_flat.specs.AllowedStep.{settled}
use Rattle.py_flat.specs.BinaryStep.{BinaryStep, SettledBy}
use Rattle.py_flat.proofs.Laying.{length-lay}
use Rattle.py_raw.specs.RawStream.{WhereTold, LeavesCounts}
use Rattle.py_raw.proofs.Telling.{keeps_same, tells_its_bytes}
use Rattle.py_raw.proofs.ReadingOn.{no_fault_then, no_wait_then}
use Rattle.py_stream.specs.Stream.{Span, Stream, file_of, nothing_owed}
use Rattle.py_stream.specs.Writing.{GoesAway, IsEndOf, SeekTargets, StopsAway, Writes}
use Rattle.py_stream.specs.Answers.{Answers, Leaves, SeeksFromEnd, InHandOf, InHand, StaysHeld, IsAmong, StaysAmong, WentTo, SparesBytes, IsCounted}
use Rattle.py_stream.specs.Keeping.{KeepsOn}
use Rattle.py_stream.specs.Settling.{PassesSome, LivesOn, SettleOutcome}
use Rattle.py_stream.specs.Moving.{StandsAsBefore, AsksEnd, TargetFromEnd, TargetOutcome, IsHeld, owed_at, StepsTo, GoesTo, GoOutcome, Begins, keeps_pending, OwesBy, SettlesBy}
use Rattle.py_stream.proofs.Refused.{lays_nothing}
use Rattle.py_stream.proofs.Begun.{answers_whole}
use Rattle.py_stream.proofs.Taking.{keeps_then, faulted_then, answers_still}
use Rattle.py_stream.proofs.Flat.{flat_of, file_now}
use Rattle.py_stream.proofs.Showing.{PassesBytes, Asked, Accepts, Beside, beside_writing, shows_answers, passing_writes, seek_moves_none}
use Rattle.py_stream.proofs.PassingOn.{begun, laid_there, passes_nothing, just_nothing, FaultLeaves, passed_all, passing_front, passing_keeps, passing_file, stays_open, lacking_answers, lacks_refuse, fault_fails, settling_refuses, settles_then}
use Rattle.py_stream.proofs.Sizing.{MaySeek, seek_refusal_is, target_why, bad_place_is_own, RefusesPlace, refuses_place, ReachesRaw, end_reaches, TargetOf, Goes, goes, seeks_nowhere, argument_refuses}

-- Where the stream ends.

pub ends_at : (raw : List ℕ) (place : ℕ) (bytes : List ℕ) → length (lay raw place bytes) ≡ (if nat_eq (length bytes) 0 then length raw else max (length raw) (place + length bytes))
ends_at raw place bytes = grind (arith, ne_eqb, length-lay)

answers_end : (old new : Stream) (end : ℕ) → AsksEnd old end new → IsEndOf old end
answers_end old new end asks = record { within = asks.within; owed = asks.owed; told = λ tells. asks.told tells ∙ sym (ends_at old.raw.bytes old.owed.place old.owed.bytes) }

-- Where the raw was asked, or failed.

-- what was found out before the stream is moved leaves it as it was
pub record FoundOut (old found : Stream) : Type 0 where
  pub stands : StandsAsBefore old found
  pub counts : LeavesCounts old.raw found.raw
  pub life_is : found.life ≡ old.life

found_nothing : (old found : Stream) → MaySeek old → found ≡ old → FoundOut old found
found_nothing old found may same = subst (FoundOut old) (sym same) (grind arith)

found_end : (old found : Stream) (end : ℕ) → AsksEnd old end found → FoundOut old found
found_end old found end asks = record { stands = asks.stands; counts = asks.counts; life_is = asks.life_is }

-- nothing was passed on by then, and the stream lives on
found_on : (old found : Stream) → MaySeek old → FoundOut old found → LivesOn old found
found_on old found may out = record { passes = passes_nothing old found out.stands; live = out.life_is ∙ may.live; no_fault = out.counts.no_fault; just = just_nothing old found out.stands }

-- a stream that stands as before, and owed nothing, spares the bytes
spared : (old new : Stream) (call : FileCall) (left : Life) → StandsAsBefore old new → old.owed ≡ nothing_owed old.place → SparesBytes old call (record new { life = left })
spared old new call left stands bare = record { bytes = stands.bytes; written = stands.answered; owed = stands.owed ∙ bare ∙ ap nothing_owed (sym stands.place); still = λ _. stands.raw_place }

-- a seek that goes to the raw is asked of it
reaching : (old : Stream) (offset whence : ℤ) → MaySeek old → ReachesRaw old offset whence → Asked old (Seek offset whence)
reaching old offset whence may to = grind arith

-- a raw that failed to say where it ends, or to move, fails the stream
pub fault_fails_seek : (offset whence : ℤ) → FaultLeaves (Seek offset whence) life.Failed
fault_fails_seek offset whence = record { dead = refl; life_is = λ buffer current. refl; step = λ file after fails. (0, zero-le, fails) }

-- A seek whose target is refused, or isn't found.

-- the raw answered where it ends, and the target doesn't lie in the stream
end_refuses : (old new : Stream) (offset : ℤ) (why : IoFault) (end : ℕ) → MaySeek old → AsksEnd old end new → target_refusal (moved_by end offset) ≡ Some why → Answers old (Seek offset (pos 2)) (Refused why) new
end_refuses old new offset why end may asks refuses =
    let call : FileCall = Seek offset (pos 2) in
    let answered : IsEndOf old end = answers_end old new end asks in
    let passes : PassesSome old new = passes_nothing old new asks.stands in
    let at : RefusesPlace offset why = refuses_place offset why (target_why (moved_by end offset) why refuses) in
    let short : new.short ≡ false = asks.stands.kept.short ∙ may.whole in
    let left : Leaves old (Refused why) (Refused why) (record new { raw = old.raw }) = grind arith in
    let seeks : SeeksFromEnd old offset (Refused why) new = grind (arith, seeks_nowhere) in
    shows_answers old call (Refused why) new (seek_moves_none offset (pos 2)) (grind (arith, passing_keeps, end_reaches, stays_open, spared, passing_writes, seek_moves_none, passing_front, seek_refusal_is, tells_its_bytes, passing_file))

from_end_refuses : (old new : Stream) (offset : ℤ) (why : IoFault) → MaySeek old → TargetFromEnd offset old (Err why) new → Answers old (Seek offset (pos 2)) (Refused why) new
from_end_refuses old new offset fault.RawFault may fails =
    fault_fails old new (Seek offset (pos 2)) (reaching old offset (pos 2) may (end_reaches old offset may)) (record { in_hand = λ has. absurd has.of; owing = λ has. absurd has.of; spares = λ _. spared old new (Seek offset (pos 2)) life.Failed fails.stands })
    (fault_fails_seek offset (pos 2)) (passes_nothing old new fails.stands) fails.failed fails.cause fails.no_wait
from_end_refuses old new offset fault.NoMemory may wants =
    let out : FoundOut old new = found_nothing old new may wants.1 in
    lacking_answers old new (Seek offset (pos 2)) (reaching old offset (pos 2) may (end_reaches old offset may)) (record { in_hand = λ has. absurd has.of; owing = λ has. absurd has.of; spares = λ _. spared old new (Seek offset (pos 2)) new.life out.stands }) wants.0
    (found_on old new may out) out.counts.no_wait
from_end_refuses old new offset why may asked = end_refuses old new offset why asked.0 may asked.1 asked.2

target_refuses : (old new : Stream) (offset whence : ℤ) (why : IoFault) → MaySeek old → TargetOutcome old offset whence (Err why) new → Answers old (Seek offset whence) (Refused why) new
target_refuses old new offset (pos zero) why may found = argument_refuses old new offset (pos zero) why may refl found.0 (bad_place_is_own why (target_why (moved_by 0 offset) why found.0)) found.1
target_refuses old new offset (pos (suc zero)) why may found = argument_refuses old new offset (pos (suc zero)) why may refl found.0 (bad_place_is_own why (target_why (moved_by old.place offset) why found.0)) found.1
target_refuses old new offset (pos (suc (suc zero))) why may found = from_end_refuses old new offset why may found
target_refuses old new offset whence why may found = grind (arith, lays_nothing)

-- a seek that found no target
pub seek_finds_nothing : (old started new : Stream) (offset whence : ℤ) (why : IoFault) → MaySeek (begun old) → Begins old (Ok tt) started → TargetOutcome started offset whence (Err why) new → Answers old (Seek offset whence) (Refused why) new
seek_finds_nothing old started new offset whence why may begins found =
    answers_whole old new (Seek offset whence) (Refused why)
    (target_refuses (begun old) new offset whence why may (subst (λ (stream : Stream). TargetOutcome stream offset whence (Err why) new) begins.1 found))

-- A seek whose target is found.

-- what was found out before the stream is moved, and where it goes
pub record Finds (old : Stream) (offset whence : ℤ) (target : ℕ) (found : Stream) : Type 0 where
  pub out : FoundOut old found
  pub still : InHandOf old (Seek offset whence) → found.raw ≡ old.raw
  pub to : Goes old offset whence target
  pub targets : SeekTargets old offset whence target

finds_target : (old found : Stream) (offset whence : ℤ) (target : ℕ) → MaySeek old → TargetOutcome old offset whence (Ok target) found → FoundOut old found × (InHandOf old (Seek offset whence) → found.raw ≡ old.raw) × TargetOf old offset whence (Ok target) × SeekTargets old offset whence target
finds_target old found offset (pos zero) target may moved = (found_nothing old found may moved.1, λ _. ap (λ (stream : Stream). stream.raw) moved.1, moved.0, moved.0.0)
finds_target old found offset (pos (suc zero)) target may moved = (found_nothing old found may moved.1, λ _. ap (λ (stream : Stream). stream.raw) moved.1, moved.0, moved.0.0)
finds_target old found offset (pos (suc (suc zero))) target may asked = (found_end old found asked.0 asked.1, λ has. absurd has, (asked.0, answers_end old found asked.0 asked.1, asked.2), (asked.0, answers_end old found asked.0 asked.1, asked.2.0))
finds_target old found offset whence target may wrong = let never : Ok target ≡ Err fault.BadWhence = wrong.0 in absurd (cc)

-- a seek that found its target
pub seek_finds : (old started found : Stream) (offset whence : ℤ) (target : ℕ) → MaySeek (begun old) → Begins old (Ok tt) started → TargetOutcome started offset whence (Ok target) found → Finds (begun old) offset whence target found
seek_finds old started found offset whence target may begins outcome = grind (arith, finds_target, begun, goes)

-- a seek that the bytes held answer by themselves goes to a place that they cover
module _ (old found : Stream) (offset whence : ℤ) (target : ℕ) (finds : Finds old offset whence target found) (has : InHand old (Seek offset whence)) where
  covers : (old.can.readable ≡ true) × IsHeld old.held target
  covers = grind arith

  reads_still : found.can.readable ≡ true
  reads_still = grind arith

  buffered_still : IsSome found.buffer
  buffered_still = subst (λ (buffer : Option ℕ). IsSome buffer) (sym finds.out.stands.kept.buffer) has.buffered

  held_still : IsHeld found.held target
  held_still = subst (λ (held : Span). IsHeld held target) (sym finds.out.stands.held) covers.1

-- a target lies beyond the bytes held, of a stream that reads through a buffer
abbrev pub IsBeyond : Stream → ℕ → Type 0
IsBeyond found target = found.can.readable ≡ true → IsSome found.buffer → IsHeld found.held target → ⊥

-- a seek to a target beyond the bytes held isn't answered by these
pub apart : (old found : Stream) (offset whence : ℤ) (target : ℕ) → Finds old offset whence target found → IsBeyond found target → InHand old (Seek offset whence) → ⊥
apart old found offset whence target finds beyond has = beyond (reads_still old found offset whence target finds has) (buffered_still old found offset whence target finds has) (held_still old found offset whence target finds has)

-- so it didn't lie among them before that was found out
beyond_before : (old found : Stream) (target : ℕ) → FoundOut old found → IsBeyond found target → IsAmong old target → ⊥
beyond_before old found target out beyond among =
    beyond (ap (λ (can : Abilities). can.readable) out.stands.kept.can ∙ among.reads) (subst (λ (buffer : Option ℕ). IsSome buffer) (sym out.stands.kept.buffer) among.buffered)
    (subst (λ (held : Span). IsHeld held target) (sym out.stands.held) (among.after_first, among.before_end))

-- such a target leaves the bytes held, of a stream with a buffer
goes_away : (stream : Stream) (target : ℕ) (reads : Bool) → stream.can.readable ≡ reads → IsSome stream.buffer → (IsAmong stream target → ⊥) → GoesAway stream target
goes_away stream target false is buffered beyond = inl is
goes_away stream target true is buffered beyond = inr (⊎_elim inl
    (λ (after : stream.held.from ≤ target). ⊎_elim inr
    (λ (before : target ≤ stream.held.to). absurd (beyond (record { reads = is; buffered = buffered; after_first = after; before_end = before })))
    (cases_lt stream.held.to target))
    (cases_lt target stream.held.from))

-- so a wait that stops the seek stops one that goes there
stops_away : (old found : Stream) (offset whence : ℤ) (target : ℕ) → Finds old offset whence target found → IsSome old.buffer → IsBeyond found target → StopsAway old offset whence
stops_away old found offset whence target finds buffered beyond = record { target = target; goes = finds.targets; away = goes_away old target old.can.readable refl buffered (beyond_before old found target finds.out beyond) }

-- where the target lies, a seek goes there in the model
sought_at : (file after : FlatFile) (sought target : ℕ) → sought ≡ target → after ≡ record file { place = target } → ◌≡◌ {A = FileReply × FlatFile} (Place target, after) (Place sought, record file { place = sought })
sought_at file after sought target same is = grind arith

-- so a seek that went there is the model's step
sought_told : (old new : Stream) (offset whence : ℤ) (target : ℕ) → Goes old offset whence target → new.short ≡ false → WhereTold old.raw (file_of new ≡ record (file_of old) { place = target }) → WhereTold old.raw (BinaryStep (file_of old) (Seek offset whence) (Place target) new.short false (file_of new))
sought_told old new offset whence target to short file tells =
    let lies : (seek_target (file_of old) offset whence ≡ target) × (refusal (file_of old) (Seek offset whence) ≡ None) = to.lies (tells_its_bytes old.raw tells) in
    subst (λ (said : Bool). BinaryStep (file_of old) (Seek offset whence) (Place target) said false (file_of new)) (sym short)
    (settled (subst (λ (refused : Option IoFault). SettledBy (file_of old) (Seek offset whence) refused (Place target) (file_of new)) (sym lies.1)
    (sought_at (file_of old) (file_of new) (seek_target (file_of old) offset whence) target lies.0 (file tells))))

-- The stream goes among the bytes held, and its raw isn't called.

-- the flat file after a step among the bytes held
stepped_file : (old found new : Stream) (target : ℕ) → FoundOut old found → StepsTo found target true new → WhereTold old.raw (file_of new ≡ record (file_of old) { place = target })
stepped_file old found new target out steps tells =
    let owed : new.owed ≡ owed_at target old.owed = ap (λ (stream : Stream). stream.owed) steps.2 ∙ ap (owed_at target) out.stands.owed in
    let bytes : new.raw.bytes ≡ old.raw.bytes = ap (λ (stream : Stream). stream.raw.bytes) steps.2 ∙ out.stands.bytes (tells_its_bytes old.raw tells) in
    let flat : flat_of new ≡ flat_of old = grind (arith, laid_there, eqb_tells) in
    grind (arith, file_now)

-- a list of no length has nothing
none_long : (bytes : List ℕ) → length bytes ≡ 0 → bytes ≡ []
none_long [] none = refl
none_long (byte ∷ more) none = absurd (omega (arith, none))

-- the bytes that are owed stay as they are, wherever a stream is moved that owes none
owed_by : (none : Bool) (target : ℕ) (owed : Owed) → nat_eq (length owed.bytes) 0 ≡ none → (let kept : Owed = if none then nothing_owed target else owed in kept).bytes ≡ owed.bytes
owed_by true target owed none = sym (none_long owed.bytes (⊎_elim (λ same. same.1) (λ other. absurd (let wrong : true ≡ false = sym none ∙ other.0 in cc)) (eqb_tells (length owed.bytes) 0)))
owed_by false target owed some = refl

owed_kept : (target : ℕ) (owed : Owed) → (owed_at target owed).bytes ≡ owed.bytes
owed_kept target owed = owed_by (nat_eq (length owed.bytes) 0) target owed refl

-- what is owed stays as it was
step_owes : (old found new : Stream) (target : ℕ) → FoundOut old found → StepsTo found target true new → new.owed.bytes ≡ old.owed.bytes
step_owes old found new target out steps = ap (λ (stream : Stream). stream.owed.bytes) steps.2 ∙ owed_kept target found.owed ∙ ap (λ (owed : Owed). owed.bytes) out.stands.owed

-- the target is one of a stream that reads, among the bytes held
step_stays : (old found new : Stream) (target : ℕ) → MaySeek old → FoundOut old found → StepsTo found target true new → GoesAway old target → ⊥
step_stays old found new target may out steps away = grind arith

-- and where it belongs, as long as some is
owed_stays : (none : Bool) (target : ℕ) (owed : Owed) → (let kept : Owed = if none then nothing_owed target else owed in kept).bytes ≢ [] → (let kept : Owed = if none then nothing_owed target else owed in kept).place ≡ owed.place
owed_stays true target owed some = absurd (some refl)
owed_stays false target owed some = refl

-- a front of what was owed was passed on: none of it
step_passes : (old found new : Stream) (offset whence : ℤ) (target : ℕ) → MaySeek old → Finds old offset whence target found → StepsTo found target true new → PassesBytes old (Seek offset whence) (Place target) new
step_passes old found new offset whence target may finds steps = grind (arith, lays_nothing, eqb_tells, step_stays)

-- the stream went there
stepped : (old found new : Stream) (offset whence : ℤ) (target : ℕ) → MaySeek old → Finds old offset whence target found → StepsTo found target true new → Answers old (Seek offset whence) (Place target) new
stepped old found new offset whence target may finds steps =
    let call : FileCall = Seek offset whence in
    let asked : Asked old call = reaching old offset whence may finds.to.asks in
    let kept : KeepsOn old new = keeps_then old found new finds.out.stands.kept (grind (arith, keeps_same)) in
    let short : new.short ≡ false = kept.short ∙ may.whole in
    let writes : Writes old call (Place target) new = passing_writes old call (Place target) new asked.none (step_passes old found new offset whence target may finds steps) in
    let told = sought_told old new offset whence target finds.to short (stepped_file old found new target finds.out steps) in
    let stays : StaysAmong old new = grind (arith, step_owes, owed_stays) in
    let owing : StaysHeld old new = record { owed = stays.owed; held = stays.held } in
    let seeks : WentTo old target new = record { among = λ _. stays; away = λ away. absurd (step_stays old found new target may finds.out steps away) } in
    shows_answers old call (Place target) new asked.none (grind (arith, stays_open))

-- a seek to a target among the bytes held
pub seek_steps : (old found new : Stream) (offset whence : ℤ) (target : ℕ) → MaySeek (begun old) → Finds (begun old) offset whence target found → StepsTo found target true new → Answers old (Seek offset whence) (Place target) new
seek_steps old found new offset whence target may finds steps = answers_whole old new (Seek offset whence) (Place target) (stepped (begun old) found new offset whence target may finds steps)

-- The raw is moved, once nothing is owed.

gone_file : (old mid new : Stream) (target : ℕ) → old.life ≡ life.Live → PassesSome old mid → mid.owed.bytes ≡ [] → KeepsOn old new → GoesTo mid target new → WhereTold old.raw (file_of new ≡ record (file_of old) { place = target })
gone_file old mid new target live passes empty kept went tells =
    let none : new.owed.bytes ≡ [] = ap (λ (owed : Owed). owed.bytes) went.owed in
    let bytes : new.raw.bytes ≡ mid.raw.bytes = went.bytes (passes.kept.raw.tells_bytes ∙ tells_its_bytes old.raw tells) in
    let flat : flat_of new ≡ flat_of old = ap (lay new.raw.bytes new.owed.place) none ∙ bytes ∙ passed_all old mid passes empty tells in
    grind (arith, file_now)

-- the stream stands where it was to go
gone : (old mid new : Stream) (offset whence : ℤ) (target : ℕ) → MaySeek old → Goes old offset whence target → (IsAmong old target → ⊥) → Beside old (Seek offset whence) (Place target) new → SettleOutcome old (Ok tt) mid → GoesTo mid target new → Answers old (Seek offset whence) (Place target) new
gone old mid new offset whence target may to beyond beside settled_by goes =
    let call : FileCall = Seek offset whence in
    let asked : Asked old call = reaching old offset whence may to.asks in
    let passes : PassesSome old mid = settled_by.0.passes in
    let kept : KeepsOn old new = keeps_then old mid new passes.kept goes.kept in
    let none : new.owed.bytes ≡ [] = ap (λ (owed : Owed). owed.bytes) goes.owed in
    let at : new.owed.place ≡ new.place = ap (λ (owed : Owed). owed.place) goes.owed ∙ sym goes.place in
    let short : new.short ≡ false = kept.short ∙ may.whole in
    let bytes : WhereTold old.raw (new.raw.bytes ≡ mid.raw.bytes) = λ tells. goes.bytes (passes.kept.raw.tells_bytes ∙ tells_its_bytes old.raw tells) in
    let counted : IsTrue old.raw.counts_exactly → IsCounted old.buffer old.raw call (Place target) new.raw new.short = λ exact. record { faults = λ _. no_fault_then old.raw mid.raw new.raw passes.kept.raw settled_by.0.no_fault goes.counts.no_fault exact; waits = λ _ _. no_wait_then old.raw mid.raw new.raw passes.kept.raw settled_by.1 goes.counts.no_wait exact; once = λ waited. absurd (cc) } in
    let writes : Writes old call (Place target) new = passing_writes old call (Place target) new asked.none (grind (arith, answers_still)) in
    let told = sought_told old new offset whence target to short (gone_file old mid new target may.live passes settled_by.2 kept goes) in
    let seeks : WentTo old target new = record { among = λ among. absurd (beyond among); away = λ _. grind arith } in
    shows_answers old call (Place target) new asked.none (search (rules, stays_open))

-- A stream that owes nothing is moved at once.

-- a stream that owes nothing fails to move
pub going_fails : (old found new : Stream) (offset whence : ℤ) (target : ℕ) (why : IoFault) → MaySeek (begun old) → IsBeyond found target → Finds (begun old) offset whence target found → GoOutcome found target (Err why) new → Answers old (Seek offset whence) (Refused why) new
going_fails old found new offset whence target why may beyond finds fails = answers_whole old new (Seek offset whence) (Refused why) (grind (arith, lays_nothing, apart (begun old) found offset whence target finds beyond))

-- a stream that owes nothing stands where it was to go
pub going_answers : (old found new : Stream) (offset whence : ℤ) (target : ℕ) → MaySeek (begun old) → old.owed ≡ nothing_owed old.place → IsBeyond found target → Finds (begun old) offset whence target found → GoesTo found target new → Answers old (Seek offset whence) (Place target) new
going_answers old found new offset whence target may none beyond finds goes =
    let out : FoundOut (begun old) found = finds.out in
    answers_whole old new (Seek offset whence) (Place target)
    (gone (begun old) found new offset whence target may finds.to (beyond_before (begun old) found target out beyond)
    (record { in_hand = λ has. absurd (apart (begun old) found offset whence target finds beyond has); owing = λ has. absurd (apart (begun old) found offset whence target finds beyond has); spares = search (rules, goes, begun, answers_still) })
    (found_on (begun old) found may out, out.counts.no_wait, ap (λ (owed : Owed). owed.bytes) (out.stands.owed ∙ none)) goes)

-- A stream that writes passes on what it owes before it is moved.

-- a seek of a stream with a buffer that writes, which the bytes held don't answer
pub record SeeksWriting (old : Stream) (offset whence : ℤ) : Type 0 where
  pub may : MaySeek old
  pub size : ℕ
  pub buffered : old.buffer ≡ Some size
  pub writes : old.can.writable ≡ true
  pub apart : InHand old (Seek offset whence) → ⊥

-- what a seek of a stream that writes asks of the raw may work
accepts_seek : (old : Stream) (offset whence : ℤ) (target : ℕ) → SeeksWriting old offset whence → Goes old offset whence target → Accepts old (Seek offset whence)
accepts_seek old offset whence target seeks to = record { asked = reaching old offset whence seeks.may to.asks; works = λ tells. to.works (tells_its_bytes old.raw tells) }

-- all was passed on after what was found out
found_settles : (old mid new : Stream) (result : Result (Unit {0}) IoFault) → FoundOut old mid → SettleOutcome mid result new → SettleOutcome old result new
found_settles old mid new result out settles = settles_then old mid new result (grind arith) settles

-- the raw was left alone after some was passed on
pub passes_still : (old mid new : Stream) → PassesSome old mid → StandsAsBefore mid new → PassesSome old new
passes_still old mid new passes stands = grind arith

-- the raw failed to move, or wanted memory
moving_fails : (old mid new : Stream) (offset whence : ℤ) (target : ℕ) (why : IoFault) → SeeksWriting old offset whence → Goes old offset whence target → SettleOutcome old (Ok tt) mid → GoOutcome mid target (Err why) new → Answers old (Seek offset whence) (Refused why) new
moving_fails old mid new offset whence target fault.RawFault seeks to passed fails = search (rules, fault_fails, reaching, beside_writing, seeks.apart, fault_fails_seek, passes_still, faulted_then, no_wait_then)
moving_fails old mid new offset whence target fault.NoMemory seeks to passed wants =
    subst (λ (after : Stream). Answers old (Seek offset whence) (Refused fault.NoMemory) after) (sym wants.1)
    (lacks_refuse old mid (Seek offset whence) (reaching old offset whence seeks.may to.asks) seeks.writes seeks.apart (sym passed.0.passes.kept.raw.takes_memory ∙ wants.0, passed.0, passed.1))
moving_fails old mid new offset whence target why seeks to passed never = absurd never

-- As the steps come.

-- a stop of the passing on answers the seek
pub seek_stops : (old found new : Stream) (offset whence : ℤ) (target : ℕ) (why : IoFault) → SeeksWriting (begun old) offset whence → Finds (begun old) offset whence target found → IsBeyond found target → SettleOutcome found (Err why) new → Answers old (Seek offset whence) (Refused why) new
seek_stops old found new offset whence target why seeks finds beyond stops =
    answers_whole old new (Seek offset whence) (Refused why)
    (settling_refuses (begun old) new (Seek offset whence) seeks.size why (accepts_seek (begun old) offset whence target seeks finds.to) seeks.buffered seeks.writes seeks.apart
    (stops_away (begun old) found offset whence target finds (subst IsSome (sym seeks.buffered) refl) beyond) (fault_fails_seek offset whence) (found_settles (begun old) found new (Err why) finds.out stops))

-- a failing of the moving answers the seek
pub seek_fails : (old found mid new : Stream) (offset whence : ℤ) (target : ℕ) (why : IoFault) → SeeksWriting (begun old) offset whence → Finds (begun old) offset whence target found → SettleOutcome found (Ok tt) mid → GoOutcome mid target (Err why) new → Answers old (Seek offset whence) (Refused why) new
seek_fails old found mid new offset whence target why seeks finds passed fails = search (rules, answers_whole, moving_fails, found_settles)

-- a stream that writes stands where it was to go
pub seek_answers : (old found mid new : Stream) (offset whence : ℤ) (target : ℕ) → SeeksWriting (begun old) offset whence → Finds (begun old) offset whence target found → IsBeyond found target → SettleOutcome found (Ok tt) mid → GoesTo mid target new → Answers old (Seek offset whence) (Place target) new
seek_answers old found mid new offset whence target seeks finds beyond passed goes = search (rules, answers_whole, gone, beside_writing, seeks.apart, found_settles, beyond_before)

-- what is known once a seek found where it goes
pub record SeekFinds (old : Stream) (offset whence : ℤ) (target : ℕ) (found : Stream) : Type 0 where
  pub may : MaySeek (begun old)
  pub owes : OwesBy (keeps_pending old) old
  pub finds : Finds (begun old) offset whence target found

-- a seek of a stream that may be moved found its target
pub seek_found : (old started found : Stream) (offset whence : ℤ) (target : ℕ) → OwesBy (keeps_pending old) old → MaySeek (begun old) → Begins old (Ok tt) started → TargetOutcome started offset whence (Ok target) found → SeekFinds old offset whence target found
seek_found old started found offset whence target owes may began outcome = record { may = may; owes = owes; finds = seek_finds old started found offset whence target may began outcome }

-- a seek to a target among the bytes held answers it
pub seek_stepped : (old found new : Stream) (offset whence : ℤ) (target : ℕ) (steps : Bool) → SeekFinds old offset whence target found → StepsTo found target steps new → steps ≡ true → Answers old (Seek offset whence) (Place target) new
seek_stepped old found new offset whence target true seek stepped is = seek_steps old found new offset whence target seek.may seek.finds stepped
seek_stepped old found new offset whence target false seek stepped is = absurd (cc)

-- what is known where the bytes held don't go so far
pub record SeekGoesOn (old : Stream) (offset whence : ℤ) (target : ℕ) (found : Stream) : Type 0 where
  pub seek : SeekFinds old offset whence target found
  pub beyond : IsBeyond found target

-- another seek goes on
pub seek_goes_on : (old found new : Stream) (offset whence : ℤ) (target : ℕ) (steps : Bool) → SeekFinds old offset whence target found → StepsTo found target steps new → steps ≡ false → SeekGoesOn old offset whence target new
seek_goes_on old found new offset whence target true seek stepped is = absurd (cc)
seek_goes_on old found new offset whence target false seek stepped is = subst (SeekGoesOn old offset whence target) (sym stepped.0) (record { seek = seek; beyond = stepped.1 })

-- once all is passed on, the stream may still be moved
pub may_go : (keeps : Bool) (old found mid : Stream) (offset whence : ℤ) (target : ℕ) → SeekGoesOn old offset whence target found → SettlesBy keeps found (Ok tt) mid → mid.can.seekable ≡ true
may_go keeps old found mid offset whence target goes settles = grind arith

-- what was found out leaves whether the stream may keep bytes
same_keeping : (old found : Stream) → FoundOut (begun old) found → keeps_pending found ≡ keeps_pending old
same_keeping old found out = grind arith

seeks_writing : (old : Stream) (offset whence : ℤ) (buffer : Option ℕ) (writes : Bool) → old.buffer ≡ buffer → old.can.writable ≡ writes → (writes && is_some buffer) ≡ true → MaySeek (begun old) → (InHand (begun old) (Seek offset whence) → ⊥) → SeeksWriting (begun old) offset whence
seeks_writing old offset whence (Some size) true is writes keeps may beyond = record { may = may; size = size; buffered = is; writes = writes; apart = beyond }
seeks_writing old offset whence None true is writes keeps may beyond = absurd (cc)
seeks_writing old offset whence buffer false is writes keeps may beyond = absurd (cc)

-- a stream that may keep bytes writes, and has a buffer
writing : (old found : Stream) (offset whence : ℤ) (target : ℕ) → SeekFinds old offset whence target found → IsBeyond found target → keeps_pending found ≡ true → SeeksWriting (begun old) offset whence
writing old found offset whence target seek beyond keeps = seeks_writing old offset whence old.buffer old.can.writable refl refl (sym (same_keeping old found seek.finds.out) ∙ keeps) seek.may (apart (begun old) found offset whence target seek.finds beyond)

-- another owes nothing
owing_none : (old found : Stream) (offset whence : ℤ) (target : ℕ) → SeekFinds old offset whence target found → keeps_pending found ≡ false → OwesBy false old
owing_none old found offset whence target seek keeps = subst (λ (kept : Bool). OwesBy kept old) (sym (same_keeping old found seek.finds.out) ∙ keeps) seek.owes

-- a seek that passing all on refused answers that refusal
pub seeking_stops : (keeps : Bool) (old found new : Stream) (offset whence : ℤ) (target : ℕ) (why : IoFault) → keeps_pending found ≡ keeps → SeekGoesOn old offset whence target found → SettlesBy keeps found (Err why) new → Answers old (Seek offset whence) (Refused why) new
seeking_stops true old found new offset whence target why keeps goes stops = seek_stops old found new offset whence target why (writing old found offset whence target goes.seek goes.beyond keeps) goes.seek.finds goes.beyond stops
seeking_stops false old found new offset whence target why keeps goes stops = let never : Err why ≡ Ok tt = stops.0 in absurd (cc)

-- a seek whose moving failed answers that failure
pub seeking_fails : (keeps : Bool) (old found mid new : Stream) (offset whence : ℤ) (target : ℕ) (why : IoFault) → keeps_pending found ≡ keeps → SeekGoesOn old offset whence target found → SettlesBy keeps found (Ok tt) mid → GoOutcome mid target (Err why) new → Answers old (Seek offset whence) (Refused why) new
seeking_fails true old found mid new offset whence target why keeps goes passed fails = seek_fails old found mid new offset whence target why (writing old found offset whence target goes.seek goes.beyond keeps) goes.seek.finds passed fails
seeking_fails false old found mid new offset whence target why keeps goes passed fails = going_fails old found new offset whence target why goes.seek.may goes.beyond goes.seek.finds (subst (λ (stream : Stream). GoOutcome stream target (Err why) new) passed.1 fails)

-- a seek that moved the stream answers its target
pub seeking_arrives : (keeps : Bool) (old found mid new : Stream) (offset whence : ℤ) (target : ℕ) → keeps_pending found ≡ keeps → SeekGoesOn old offset whence target found → SettlesBy keeps found (Ok tt) mid → GoesTo mid target new → Answers old (Seek offset whence) (Place target) new
seeking_arrives true old found mid new offset whence target keeps goes passed went = seek_answers old found mid new offset whence target (writing old found offset whence target goes.seek goes.beyond keeps) goes.seek.finds goes.beyond passed went
seeking_arrives false old found mid new offset whence target keeps goes passed went = going_answers old found new offset whence target goes.seek.may (owing_none old found offset whence target goes.seek keeps) goes.beyond goes.seek.finds (subst (λ (stream : Stream). GoesTo stream target new) passed.1 went)
