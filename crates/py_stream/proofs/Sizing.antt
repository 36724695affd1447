-- The answers of `truncate`, as its steps come; and where a seek goes, what refuses it, and what an answer of it comes to.
use Rattle.std.proofs.Common.{◌≡◌, ℕ, suc, zero, ◌⊎◌, inl, ℤ, pos, Bool, true, false, IsTrue, Option, Some, None, Result, Ok, Err, arith, rules, ◌<◌, ◌≤◌, inr, List, [], IsSome, refl, sym, ap, ◌∙◌, subst, ◌≢◌}
use Rattle.py_flat.specs.declared.fault.IoFault.{IoFault}
use Rattle.py_flat.specs.declared.fault.IoFault.TheVariants as fault
use Rattle.py_flat.specs.declared.life.Life.{Life}
use Rattle.py_flat.specs.declared.life.Life.TheVariants as life
use Rattle.py_flat.specs.Calls.{Seek, Place, Refused, FileCall, Truncate}
use Rattle.py_flat.specs.Refusals.{seek_base, seek_refusal, target_refusal, refusal}
use Rattle.py_flat.specs.ExactStep.{seek_target, truncated}
use Rattle.py_flat.specs.BinaryStep.{asks_end, does_work, reaches_raw, SettledBy, Fails, FaultedBy, BinaryStep}
use Rattle.py_raw.specs.RawStream.{WhereBytes, WhereTold, NoWait}
use Rattle.py_stream.specs.Stream.{Stream, file_of, buffering_of, nothing_owed}
use Rattle.py_stream.specs.Keeping.{IsSound, KeepsOn}
use Rattle.py_stream.specs.Moving.{MovedBy, Begins, keeps_pending, OwesBy, SettlesBy}
use Rattle.py_stream.specs.Kinds.{says_fault, says_no_memory}
use Rattle.py_stream.specs.Writing.{PassesOn, BlocksFull, IsEndOf, size_asked, NoneAtPlace, PassesFront, LaysThenCuts, StandsBare, Writes, OwesBehind}
use Rattle.py_stream.specs.Answers.{Leaves, IsShort, LifeMoves, SeekGoes, PlaceMoves, refused_by, SeeksTo, SeeksFromEnd, SeeksByEnd, IsReplyTo, Answers, IsCounted}
use Rattle.py_stream.proofs.Refused.{is_own}
use Rattle.py_stream.proofs.Refusing.{refused_with, IsPlaced, refused_by_ability}
use Rattle.py_flat.specs.Bytes.{lay, resized}
use Rattle.py_flat.specs.Limits.{greatest_place}
use Rattle.py_flat.specs.Causes.{Rose}
use Rattle.py_flat.specs.Owed.{Owed}
use Rattle.py_flat.specs.FlatFile.{FlatFile}
use Rattle.py_flat.specs.AllowedStep.{raw_faulted}
use Rattle.py_raw.proofs.Telling.{keeps_same, tells_its_bytes}
use Rattle.py_raw.proofs.ReadingOn.{no_fault_then, no_wait_then}
use Rattle.py_stream.specs.LiveRaw.{is_truncatable}
use Rattle.py_stream.specs.Settling.{LivesOn, SettleOutcome}
use Rattle.py_stream.specs.Sizing.{KeepsPlace, Resizes, FailsToResize, ResizeOutcome}
use Rattle.py_stream.proofs.Begun.{answers_whole}
use Rattle.py_stream.proofs.Taking.{keeps_then, faulted_then, answers_still}
use Rattle.py_stream.proofs.Flat.{flat_of, file_now, failed_file}
use Rattle.py_stream.proofs.Showing.{MovesNone, Asked, Accepts, shows_answers}
use Rattle.py_stream.proofs.PassingOn.{begun, FaultLeaves, passed_all, stays_open, lacks_refuse, settling_refuses}

-- What a seek is refused by.

-- a live stream that may be moved: its raw can, and it doesn't append
pub record MaySeek (before : Stream) : Type 0 where
  pub sound : IsSound before
  pub live : before.life ≡ life.Live
  pub seeks : before.can.seekable ≡ true
  pub free : before.can.appending ≡ false
  pub whole : before.short ≡ false

-- only its target or its whence refuses a seek of a stream that may be moved
pub seek_refusal_is : (before : Stream) (offset whence : ℤ) → MaySeek before → refusal (file_of before) (Seek offset whence) ≡ seek_refusal (seek_base (file_of before) whence) offset
seek_refusal_is before offset whence may = grind arith

-- a target is refused by where it lies
abbrev pub AtBadPlace : IoFault → Type 0
AtBadPlace why = (why ≡ fault.NegativeSeek) ⊎ (why ≡ fault.TooFar)

-- a target is refused only by where it lies
pub target_why : (target : Option ℕ) (why : IoFault) → target_refusal target ≡ Some why → AtBadPlace why
target_why None why is = inl (cc)
target_why (Some target) why is = grind arith

-- a refusal of a target is the stream's own
pub bad_place_is_own : (why : IoFault) → AtBadPlace why → is_own why ≡ true
bad_place_is_own why at = grind arith

-- what a refusal of the target of a seek from the end says and leaves
pub record RefusesPlace (offset : ℤ) (why : IoFault) : Type 0 where
  pub no_fault : says_fault (Refused why) ≡ false
  pub no_want : says_no_memory (Refused why) ≡ false
  pub short : IsShort (Seek offset (pos 2)) (Refused why) false
  pub life_is : (buffer : Option ℕ) (current : Life) → LifeMoves buffer (Seek offset (pos 2)) (Refused why) current current
  pub place : (buffer : Option ℕ) (current : Life) (place : ℕ) → PlaceMoves buffer (Seek offset (pos 2)) (Refused why) current place place
  pub passes : (before after : Stream) → PassesOn before (Seek offset (pos 2)) (Refused why) after
  pub full : (after : Stream) → BlocksFull (Seek offset (pos 2)) (Refused why) after
  pub ends : (before after : Stream) → SeeksFromEnd before offset (Refused why) after → SeeksByEnd before (Seek offset (pos 2)) (Refused why) after
  pub answer : (buffer : Option ℕ) (writes : Bool) → IsReplyTo buffer writes (Seek offset (pos 2)) (Refused why)

-- each refusal of a target says and leaves what one of a seek from the end does
pub refuses_place : (offset : ℤ) (why : IoFault) → AtBadPlace why → RefusesPlace offset why
refuses_place offset why at = grind arith

-- Where the raw is asked.

-- a seek that goes to the raw: it isn't refused before, and may blame the raw
pub record ReachesRaw (before : Stream) (offset whence : ℤ) : Type 0 where
  pub passes : refused_by before (Seek offset whence) ≡ None
  pub reaches : IsTrue (reaches_raw (file_of before) (Seek offset whence))

-- a seek from the end goes to the raw
pub end_reaches : (before : Stream) (offset : ℤ) → MaySeek before → ReachesRaw before offset (pos 2)
end_reaches before offset may = grind arith

-- Where a seek goes.

-- how the target is found, from the start, from the place or from the end; no other whence is known
abbrev pub TargetOf : Stream → ℤ → ℤ → Result ℕ IoFault → Type 0
TargetOf before offset (pos zero) result = MovedBy 0 offset result
TargetOf before offset (pos (suc zero)) result = MovedBy before.place offset result
TargetOf before offset (pos (suc (suc zero))) result = (end : ℕ) × IsEndOf before end × MovedBy end offset result
TargetOf before offset whence result = result ≡ Err fault.BadWhence

-- an accepted seek, and where it goes
pub record Goes (before : Stream) (offset whence : ℤ) (target : ℕ) : Type 0 where
  pub asks : ReachesRaw before offset whence
  pub works : WhereBytes before.raw (IsTrue (does_work (file_of before) (Seek offset whence)))
  pub ends : (after : Stream) → SeeksByEnd before (Seek offset whence) (Place target) after
  pub to : SeekGoes before.place offset whence target
  pub lies : WhereBytes before.raw ((seek_target (file_of before) offset whence ≡ target) × (refusal (file_of before) (Seek offset whence) ≡ None))

-- a target that was found says where an accepted seek goes
pub goes : (before : Stream) (offset whence : ℤ) (target : ℕ) → MaySeek before → TargetOf before offset whence (Ok target) → Goes before offset whence target
goes before offset whence target may wrong = grind arith

-- What refuses a seek.

-- what the raw answered makes a refusal of a target
pub seeks_nowhere : (before : Stream) (target : Option ℕ) (why : IoFault) (after : Stream) → Leaves before (Refused why) (Refused why) (record after { raw = before.raw }) → SeeksTo before target (Some why) (Refused why) after
seeks_nowhere before (Some target) why after left = left
seeks_nowhere before None why after left = left

-- a target that isn't in the stream, or a whence that isn't known, refuses the seek before the raw is asked
pub argument_refuses : (before after : Stream) (offset whence : ℤ) (why : IoFault) → MaySeek before → asks_end (file_of before) (Seek offset whence) ≡ false → seek_refusal (seek_base (file_of before) whence) offset ≡ Some why → is_own why ≡ true → after ≡ before → Answers before (Seek offset whence) (Refused why) after
argument_refuses before after offset whence why may unasked refuses own same = search (rules, refused_with, seek_refusal_is)

-- a stream that may be truncated: it lives and writes, and may be moved
pub record MayTruncate (stream : Stream) : Type 0 where
  pub sound : IsSound stream
  pub live : stream.life ≡ life.Live
  pub whole : stream.short ≡ false
  pub writes : stream.can.writable ≡ true
  pub seeks : stream.can.seekable ≡ true
  pub free : stream.can.appending ≡ false

-- What is accepted.

-- a truncation moves no bytes to or from its caller
pub truncate_moves_none : (size : Option ℕ) → MovesNone (Truncate size)
truncate_moves_none size = record { writing = refl; reading = refl; telling = refl; one = λ buffer. refl; lays = λ before after is. record { between = after; lays = is; cuts = inl refl }; waits = λ file. (refl, refl); starves = λ file. refl }

-- a size that is asked for lies in the stream
abbrev pub IsWithin : Stream → Option ℕ → Type 0
IsWithin old size = size_asked old size ≤ greatest_place

accepted : (old : Stream) (size : Option ℕ) → MayTruncate old → IsWithin old size → refusal (file_of old) (Truncate size) ≡ None
accepted old None may within = grind arith
accepted old (Some size) may within = grind arith

-- a truncation of a stream that may be truncated, to such a size, goes to the raw
truncating : (old : Stream) (size : Option ℕ) → MayTruncate old → IsWithin old size → Accepts old (Truncate size)
truncating old size may within = grind (arith, accepted, truncate_moves_none)

-- What refuses it before.

-- a truncation is unsupported of a stream that doesn't write, or may not be moved
pub truncates_not : (old started seen : Stream) (can : Bool) (size : Option ℕ) → IsPlaced old → Begins old (Ok tt) started → seen ≡ started → can ≡ is_truncatable seen.can → can ≡ false → Answers old (Truncate size) (Refused fault.Unsupported) started
truncates_not old started seen can size placed began is asked cannot =
    let unable : is_truncatable old.can ≡ false = ap (λ (stream : Stream). is_truncatable stream.can) (sym began.1 ∙ sym is) ∙ sym asked ∙ cannot in
    refused_by_ability old started (Truncate size) placed refl refl began.0 (grind arith) began.1

too_large : (old : Stream) (size : Option ℕ) → MayTruncate old → greatest_place < size_asked old size → refusal (file_of old) (Truncate size) ≡ Some fault.TooFar
too_large old None may beyond = absurd (omega (arith, beyond, may.sound.far))
too_large old (Some size) may beyond = grind arith

-- a truncation that has begun, and the size that it asks for
pub record Started (old started : Stream) (size : Option ℕ) (count : ℕ) : Type 0 where
  pub sound : IsSound old
  pub owes : OwesBy (keeps_pending old) old
  pub begins : Begins old (Ok tt) started
  pub can : is_truncatable started.can ≡ true
  pub asks : count ≡ size_asked started size

may_truncate : (old started : Stream) (size : Option ℕ) (count : ℕ) → Started old started size count → MayTruncate (begun old)
may_truncate old started size count is = grind arith

asked_size : (old started : Stream) (size : Option ℕ) (count : ℕ) → Started old started size count → count ≡ size_asked old size
asked_size old started size count is = is.asks ∙ ap (λ (stream : Stream). size_asked stream size) is.begins.1

-- a size past the greatest place is refused
pub truncates_too_far : (old started : Stream) (size : Option ℕ) (count : ℕ) → Started old started size count → greatest_place < count → Answers old (Truncate size) (Refused fault.TooFar) started
truncates_too_far old started size count is beyond =
    let may : MayTruncate (begun old) = may_truncate old started size count is in
    answers_whole old started (Truncate size) (Refused fault.TooFar)
    (refused_with (begun old) started (Truncate size) fault.TooFar (record { far = may.sound.far; near = may.sound.near })
    (too_large (begun old) size may (subst (λ (n : ℕ). greatest_place < n) (asked_size old started size count is) beyond)) refl refl refl is.begins.1)

-- What stops the passing on.

fault_fails_truncate : (size : Option ℕ) → FaultLeaves (Truncate size) life.Failed
fault_fails_truncate None = record { dead = refl; life_is = λ buffer current. refl; step = λ file after fails. inl fails }
fault_fails_truncate (Some size) = record { dead = refl; life_is = λ buffer current. refl; step = λ file after fails. inl fails }

settling_stops : (old new : Stream) (size : Option ℕ) (buffer : Option ℕ) (why : IoFault) → MayTruncate old → IsWithin old size → old.buffer ≡ buffer → IsSome buffer → SettleOutcome old (Err why) new → Answers old (Truncate size) (Refused why) new
settling_stops old new size None why may within is buffered stops = absurd (let wrong : false ≡ true = buffered in cc)
settling_stops old new size (Some room) why may within is buffered stops = settling_refuses old new (Truncate size) room why (truncating old size may within) is may.writes (λ has. has.of) tt (fault_fails_truncate size) stops

-- a stream that may keep bytes has a buffer, and another owes nothing
has_buffer : (old started : Stream) (size : Option ℕ) (count : ℕ) → keeps_pending started ≡ true → Started old started size count → IsSome old.buffer
has_buffer old started size count keeps is = grind arith

owes_nothing : (old started : Stream) (size : Option ℕ) (count : ℕ) → keeps_pending started ≡ false → Started old started size count → old.owed ≡ nothing_owed old.place
owes_nothing old started size count keeps is = subst (λ (kept : Bool). OwesBy kept old) (sym (ap keeps_pending is.begins.1) ∙ keeps) is.owes

-- a stream that owes nothing has passed all on
settles_at_once : (stream : Stream) → MayTruncate stream → stream.owed ≡ nothing_owed stream.place → SettleOutcome stream (Ok tt) stream
settles_at_once stream may none = grind (arith, keeps_same)

-- what stops the passing on answers a truncation
pub truncation_stops : (keeps : Bool) (old started new : Stream) (size : Option ℕ) (count : ℕ) (why : IoFault) → keeps_pending started ≡ keeps → Started old started size count → count ≤ greatest_place → SettlesBy keeps started (Err why) new → Answers old (Truncate size) (Refused why) new
truncation_stops true old started new size count why keeps is within stops =
    answers_whole old new (Truncate size) (Refused why)
    (settling_stops (begun old) new size old.buffer why (may_truncate old started size count is) (subst (λ (n : ℕ). n ≤ greatest_place) (asked_size old started size count is) within) refl (has_buffer old started size count keeps is) (subst (λ (stream : Stream). SettleOutcome stream (Err why) new) is.begins.1 stops))
truncation_stops false old started new size count why keeps is within stops = let never : Err why ≡ Ok tt = stops.0 in absurd (cc)

-- what passing all on came to leaves nothing owed; a stream that keeps no bytes is left as it was
settled_first : (keeps : Bool) (old started mid : Stream) (size : Option ℕ) (count : ℕ) → keeps_pending started ≡ keeps → Started old started size count → SettlesBy keeps started (Ok tt) mid → SettleOutcome (begun old) (Ok tt) mid
settled_first true old started mid size count keeps is settles = subst (λ (stream : Stream). SettleOutcome stream (Ok tt) mid) is.begins.1 settles
settled_first false old started mid size count keeps is settles = subst (SettleOutcome (begun old) (Ok tt)) (sym (settles.1 ∙ is.begins.1)) (settles_at_once (begun old) (may_truncate old started size count is) (owes_nothing old started size count keeps is))

-- The raw's bytes are given the size, once nothing is owed.

-- what is known of a stream whose raw was asked for the size
record Asks (old mid new : Stream) : Type 0 where
  pub may : MayTruncate old
  pub settled_by : SettleOutcome old (Ok tt) mid
  pub keeps : KeepsPlace mid new

module _ (old mid new : Stream) (asks : Asks old mid new) where
  kept : KeepsOn old new
  kept = keeps_then old mid new asks.settled_by.0.passes.kept asks.keeps.kept

  no_wait : NoWait old.raw new.raw
  no_wait = no_wait_then old.raw mid.raw new.raw asks.settled_by.0.passes.kept.raw asks.settled_by.1 asks.keeps.no_wait

  none : new.owed.bytes ≡ []
  none = ap (λ (owed : Owed). owed.bytes) asks.keeps.owed ∙ asks.settled_by.2

  still : new.place ≡ old.place
  still = asks.keeps.place ∙ asks.settled_by.0.passes.still

  leaves_front : PassesFront old new
  leaves_front = grind (arith, answers_still, kept, none)

  at_place : NoneAtPlace old → new.owed.place ≡ new.place
  at_place at = ap (λ (owed : Owed). owed.place) asks.keeps.owed ∙ asks.settled_by.0.passes.at at asks.settled_by.2 ∙ sym asks.keeps.place

  flat_now : flat_of new ≡ new.raw.bytes
  flat_now = ap (lay new.raw.bytes new.owed.place) none

-- a stream that holds nothing, with its raw at the place, stands so once the bytes have the size
still_bare : (mid new : Stream) → KeepsPlace mid new → StandsBare mid → StandsBare new
still_bare mid new keeps bare = grind arith

-- what a truncation does with what is owed
truncation_writes : (old mid new : Stream) (size : Option ℕ) → Asks old mid new → StandsBare mid → new.life ≡ life.Live → WhereTold old.raw (new.raw.bytes ≡ resized (flat_of old) (size_asked old size)) → Writes old (Truncate size) (Place (size_asked old size)) new
truncation_writes old mid new size asks bare lives bytes =
    let nothing : new.owed.bytes ≡ [] = none old mid new asks in
    let lays : WhereTold old.raw (LaysThenCuts old (size_asked old size) new.raw.bytes) = λ tells. record { between = mid.raw.bytes; lays = asks.settled_by.0.passes.lays tells; cuts = inr (bytes tells ∙ sym (ap (λ (all : List ℕ). resized all (size_asked old size)) (passed_all old mid asks.settled_by.0.passes asks.settled_by.2 tells))) } in
    let rests : old.life ≢ life.Live → new.raw ≡ old.raw = λ dead. absurd (dead asks.may.live) in
    let unclosed : new.owed.bytes ≢ [] → new.raw.closed ≡ old.raw.closed = λ some. absurd (some nothing) in
    let stands : OwesBehind old → new.owed.bytes ≢ [] → new.raw_place ≡ new.owed.place = λ _ some. absurd (some nothing) in
    search (rules, leaves_front, at_place, still_bare)

bytes_given : (old mid new : Stream) (size : ℕ) → Asks old mid new → Resizes mid size new → WhereTold old.raw (new.raw.bytes ≡ resized (flat_of old) size)
bytes_given old mid new size asks resizes tells =
    resizes.bytes (asks.settled_by.0.passes.kept.raw.tells_bytes ∙ tells_its_bytes old.raw tells)
    ∙ ap (λ (bytes : List ℕ). resized bytes size) (passed_all old mid asks.settled_by.0.passes asks.settled_by.2 tells)

truncated_is_resized : (buffer : Option ℕ) (bytes : List ℕ) (size : ℕ) → resized bytes size ≡ truncated (buffering_of buffer) bytes size
truncated_is_resized None bytes size = refl
truncated_is_resized (Some room) bytes size = refl

-- in the model the bytes have the size, and all else is as it was
carries_out : (old new : Stream) (size : Option ℕ) → file_of new ≡ record (file_of old) { bytes = resized (flat_of old) (size_asked old size) } → SettledBy (file_of old) (Truncate size) None (Place (size_asked old size)) (file_of new)
carries_out old new size file = ap (λ (after : FlatFile). (Place (size_asked old size), after)) (file ∙ ap (λ (bytes : List ℕ). record (file_of old) { bytes = bytes }) (truncated_is_resized old.buffer (flat_of old) (size_asked old size)))

-- a stream whose bytes were given the size
gives_size : (old mid new : Stream) (size : Option ℕ) → IsWithin old size → Asks old mid new → StandsBare mid → Resizes mid (size_asked old size) new → Answers old (Truncate size) (Place (size_asked old size)) new
gives_size old mid new size within asks bare resizes =
    let call : FileCall = Truncate size in
    let may : MayTruncate old = asks.may in
    let asked : Asked old call = (truncating old size may within).asked in
    let goes : LivesOn old mid = asks.settled_by.0 in
    let keeps : KeepsOn old new = kept old mid new asks in
    let lives : new.life ≡ life.Live = resizes.life_is ∙ goes.live in
    let same : new.life ≡ old.life = lives ∙ sym may.live in
    let short : new.short ≡ false = keeps.short ∙ may.whole in
    let bytes : WhereTold old.raw (new.raw.bytes ≡ resized (flat_of old) (size_asked old size)) = bytes_given old mid new (size_asked old size) asks resizes in
    shows_answers old call (Place (size_asked old size)) new asked.none (grind (arith, none, stays_open, no_fault_then, kept, no_wait, still, truncation_writes, flat_of, file_now, flat_now, carries_out))

-- The raw failed, or wanted memory.

-- what the failing leaves of the raw's bytes: those that were there by then, or of the size
either_way : (old mid new : Stream) (size : ℕ) → Asks old mid new → FailsToResize mid size new → WhereTold old.raw ((new.raw.bytes ≡ flat_of old) ⊎ (new.raw.bytes ≡ resized (flat_of old) size))
either_way old mid new size asks fails tells = by (fails.bytes (asks.settled_by.0.passes.kept.raw.tells_bytes ∙ tells_its_bytes old.raw tells))
  where
    all : mid.raw.bytes ≡ flat_of old
    all = passed_all old mid asks.settled_by.0.passes asks.settled_by.2 tells

    by : (new.raw.bytes ≡ mid.raw.bytes) ⊎ (new.raw.bytes ≡ resized mid.raw.bytes size) → (new.raw.bytes ≡ flat_of old) ⊎ (new.raw.bytes ≡ resized (flat_of old) size)
    by (inl same) = inl (same ∙ all)
    by (inr given) = inr (given ∙ ap (λ (bytes : List ℕ). resized bytes size) all)

faulted_by : (old mid new : Stream) (size : Option ℕ) → Asks old mid new → FailsToResize mid (size_asked old size) new → WhereTold old.raw (FaultedBy (file_of old) (Truncate size) (file_of new))
faulted_by old mid new size asks fails tells = in_model size (to_flat (either_way old mid new (size_asked old size) asks fails tells))
  where
    Left : List ℕ → Type 0
    Left bytes = Fails (file_of old) life.Failed bytes (file_of new)

    to_flat : (new.raw.bytes ≡ flat_of old) ⊎ (new.raw.bytes ≡ resized (flat_of old) (size_asked old size)) → Left (flat_of old) ⊎ Left (resized (flat_of old) (size_asked old size))
    to_flat (inl same) = inl (failed_file old new life.Failed (flat_of old) (kept old mid new asks) fails.failed (flat_now old mid new asks ∙ same))
    to_flat (inr given) = inr (failed_file old new life.Failed (resized (flat_of old) (size_asked old size)) (kept old mid new asks) fails.failed (flat_now old mid new asks ∙ given))

    in_model : (size : Option ℕ) → Left (flat_of old) ⊎ Left (resized (flat_of old) (size_asked old size)) → FaultedBy (file_of old) (Truncate size) (file_of new)
    in_model None left = left
    in_model (Some asked) left = left

-- what a truncation whose raw failed did with what was owed
failing_writes : (old mid new : Stream) (size : Option ℕ) → Asks old mid new → WhereTold old.raw (LaysThenCuts old (size_asked old size) new.raw.bytes) → Writes old (Truncate size) (Refused fault.RawFault) new
failing_writes old mid new size asks lays = grind (arith, leaves_front, none, at_place)

lays_or_cuts : (old mid new : Stream) (size : ℕ) → Asks old mid new → FailsToResize mid size new → WhereTold old.raw (LaysThenCuts old size new.raw.bytes)
lays_or_cuts old mid new size asks fails tells = record { between = mid.raw.bytes; lays = asks.settled_by.0.passes.lays tells; cuts = fails.bytes (asks.settled_by.0.passes.kept.raw.tells_bytes ∙ tells_its_bytes old.raw tells) }

size_fails : (old mid new : Stream) (size : Option ℕ) → IsWithin old size → Asks old mid new → FailsToResize mid (size_asked old size) new → Answers old (Truncate size) (Refused fault.RawFault) new
size_fails old mid new size within asks fails =
    let call : FileCall = Truncate size in
    let may : MayTruncate old = asks.may in
    let asked : Asked old call = (truncating old size may within).asked in
    let keeps : KeepsOn old new = kept old mid new asks in
    let short : new.short ≡ false = keeps.short ∙ may.whole in
    let counted : IsTrue old.raw.counts_exactly → IsCounted old.buffer old.raw call (Refused fault.RawFault) new.raw new.short = λ exact. record { faults = λ sound. absurd (cc); waits = λ _ _. no_wait old mid new asks exact; once = λ waited. absurd (cc) } in
    let rose : Rose old.raw.faults new.raw.faults = faulted_then old.raw mid.raw new.raw asks.settled_by.0.passes.kept.raw fails.cause in
    let place : new.place ≡ old.place = still old mid new asks in
    let writes : Writes old call (Refused fault.RawFault) new = failing_writes old mid new size asks (lays_or_cuts old mid new (size_asked old size) asks fails) in
    let told : WhereTold old.raw (BinaryStep (file_of old) call (Refused fault.RawFault) new.short true (file_of new)) = λ tells. raw_faulted refl refl (asked.reaches, faulted_by old mid new size asks fails tells) in
    shows_answers old call (Refused fault.RawFault) new asked.none (search (rules, stays_open))

resize_fails : (old mid new : Stream) (size : Option ℕ) (why : IoFault) → MayTruncate old → IsWithin old size → SettleOutcome old (Ok tt) mid → ResizeOutcome mid (size_asked old size) (Err why) new → Answers old (Truncate size) (Refused why) new
resize_fails old mid new size fault.RawFault may within settled_by fails = size_fails old mid new size within (record { may = may; settled_by = settled_by; keeps = fails.keeps }) fails
resize_fails old mid new size fault.NoMemory may within settled_by wants =
    subst (λ (after : Stream). Answers old (Truncate size) (Refused fault.NoMemory) after) (sym wants.1)
    (lacks_refuse old mid (Truncate size) (truncating old size may within).asked may.writes (λ has. has.of) (sym settled_by.0.passes.kept.raw.takes_memory ∙ wants.0, settled_by.0, settled_by.1))
resize_fails old mid new size why may within settled_by never = absurd never

-- As the steps come.

-- a truncation whose raw failed, or wanted memory
pub truncation_fails : (old started mid new : Stream) (size : Option ℕ) (count : ℕ) (why : IoFault) → Started old started size count → count ≤ greatest_place → SettlesBy (keeps_pending started) started (Ok tt) mid → ResizeOutcome mid count (Err why) new → Answers old (Truncate size) (Refused why) new
truncation_fails old started mid new size count why is within settles fails =
    let asked : count ≡ size_asked old size = asked_size old started size count is in
    answers_whole old new (Truncate size) (Refused why)
    (resize_fails (begun old) mid new size why (may_truncate old started size count is) (subst (λ (n : ℕ). n ≤ greatest_place) asked within)
    (settled_first (keeps_pending started) old started mid size count refl is settles) (subst (λ (n : ℕ). ResizeOutcome mid n (Err why) new) asked fails))

-- a truncation that came about
pub truncation_answers : (old started mid new : Stream) (size : Option ℕ) (count : ℕ) → Started old started size count → count ≤ greatest_place → SettlesBy (keeps_pending started) started (Ok tt) mid → (started.can.writable ≡ true → StandsBare mid) → Resizes mid count new → Answers old (Truncate size) (Place count) new
truncation_answers old started mid new size count is within settles bare resizes =
    let asked : count ≡ size_asked old size = asked_size old started size count is in
    let given : Resizes mid (size_asked old size) new = subst (λ (n : ℕ). Resizes mid n new) asked resizes in
    subst (λ (n : ℕ). Answers old (Truncate size) (Place n) new) (sym asked)
    (answers_whole old new (Truncate size) (Place (size_asked old size))
    (gives_size (begun old) mid new size (subst (λ (n : ℕ). n ≤ greatest_place) asked within)
    (record { may = may_truncate old started size count is; settled_by = settled_first (keeps_pending started) old started mid size count refl is settles; keeps = given.keeps }) (bare (grind arith)) given))
