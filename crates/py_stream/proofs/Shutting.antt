-- The answers of `flush` and `close` of a stream that writes, with a buffer or nothing owed, and the handing back of its raw.
use Rattle.py_stream.specs.Keeping.{IsSound, KeepsOn}
use Rattle.std.proofs.Common.{◌≡◌, ℕ, ◌≤◌, IsTrue, Bool, true, false, [], Option, Result, Ok, Err, IfOk, ne_eqb, refl, sym, ap, ◌∙◌, subst, arith, zero-le, rules, ◌⊎◌, inl, inr, List, Some, None, if◌then◌else◌}
use Rattle.std.proofs.lemmas.Bool.Decides.{eqb_tells}
use Rattle.py_flat.specs.declared.fault.IoFault.{IoFault}
use Rattle.py_flat.specs.declared.fault.IoFault.TheVariants as fault
use Rattle.py_flat.specs.declared.life.Life.{Life}
use Rattle.py_flat.specs.declared.life.Life.TheVariants as life
use Rattle.py_flat.specs.Bytes.{lay}
use Rattle.py_flat.specs.Owed.{Owed}
use Rattle.py_flat.specs.Limits.{greatest_place}
use Rattle.py_flat.specs.Calls.{Flush, Close, FileReply, Done, Refused, Detach, Unwritten}
use Rattle.py_flat.specs.FlatFile.{FlatFile}
use Rattle.py_flat.specs.ExactStep.{is_closed}
use Rattle.py_flat.specs.AllowedStep.{settled}
use Rattle.py_flat.specs.BinaryStep.{BinaryStep, SettledBy, DetachesIn, StandAt}
use Rattle.py_raw.specs.RawStream.{WhereTold, NoWait, KeepsReads, StaysOpen, WherePlace}
use Rattle.py_raw.proofs.Telling.{tells_its_bytes, keeps_same}
use Rattle.py_raw.proofs.ReadingOn.{Keeps-then, no_fault_then, no_wait_then}
use Rattle.py_stream.specs.Stream.{Stream, file_of, nothing_owed, nothing_held, buffering_of}
use Rattle.py_stream.specs.Kinds.{says_fault, says_no_memory}
use Rattle.py_stream.specs.Replies.{done_reply}
use Rattle.py_stream.specs.Writing.{NoneAtPlace, PassesFront, LaysFront, PassedOn, PassesOn, BlocksFull, Writes}
use Rattle.py_stream.specs.Answers.{Answers, KeepsStream, HasCauses, IsCounted, IsShort, LifeMoves, PlaceMoves, SeekStands, IsReplyTo, SparesBytes, moves_back, parts_at_close, ClosedWith, IsNear}
use Rattle.py_stream.specs.Settling.{PassesSome, LivesOn, FailsBack, SettleOutcome}
use Rattle.py_stream.specs.Ending.{ClosingOutcome, ClosesRaw, CloseRawOutcome, BeginDetachIn}
use Rattle.py_stream.proofs.Begun.{answers_whole}
use Rattle.py_stream.specs.Moving.{Begins}
use Rattle.py_stream.proofs.Refused.{fails_there, lays_nothing}
use Rattle.py_stream.proofs.Taking.{answers_still}
use Rattle.py_stream.proofs.Flat.{flat_of}
use Rattle.py_stream.proofs.Showing.{Asked, beside_writing, shows_answers, passing_writes, IsWriting, flush_asked, close_asked, detach_moves_none, detach_asked}
use Rattle.py_stream.proofs.PassingOn.{begun, FaultLeaves, none_owed_at, passed_all, passing_front, passing_keeps, passing_file, stays_open, failing_answers, lacks_refuse, waits_refuse, settling_refuses, lacking_answers}
use Rattle.py_stream.proofs.Refusing.{IsPlaced}
use Rattle.py_flat.specs.Refusals.{refusal, lets_through}
use Rattle.py_flat.proofs.Laying.{lay_reads_back}
use Rattle.py_stream.specs.Handing.{place_handed, handed_over, left_behind, owed_then, HandsOver}

-- Flushing.

-- the raw stands at the place, and nothing is held
pub record RestsHere (stream : Stream) : Type 0 where
  pub stands : stream.raw_place ≡ stream.place
  pub held : stream.held ≡ nothing_held stream.place

-- a fault of the raw fails a stream that flushes
pub fault_fails_flush : FaultLeaves Flush life.Failed
fault_fails_flush = record { dead = refl; life_is = λ buffer current. refl; step = λ file after fails. (0, zero-le, fails) }

-- a `flush` that passed all on, with the raw at the place, and nothing held
flushed : (old new : Stream) → IsWriting old → SettleOutcome old (Ok tt) new → RestsHere new → Answers old Flush Done new
flushed old new is passed rests =
    let asked : Asked old Flush = (flush_asked old is).asked in
    let goes : LivesOn old new = passed.0 in
    let passes : PassesSome old new = goes.passes in
    let same : new.life ≡ old.life = goes.live ∙ sym is.live in
    let short : new.short ≡ false = passes.kept.short ∙ is.whole in
    let counted : IsTrue old.raw.counts_exactly → IsCounted old.buffer old.raw Flush Done new.raw new.short = λ exact. record { faults = λ _. goes.no_fault exact; waits = λ _ _. passed.1 exact; once = λ waited. absurd (cc) } in
    let writes : Writes old Flush Done new = passing_writes old Flush Done new asked.none (record {
      leaves = passing_front old new new.life new.short passes;
      stands = λ behind some. passes.stands behind;
      lays = passes.lays;
      passes = (record { none = passed.2; holds = passed_all old new passes passed.2 }, rests.stands, rests.held);
      full = tt;
      settles = passes.at;
      unclosed = λ some. passes.kept.stays;
      rests = λ dead. absurd (dead is.live);
    }) in
    let told : WhereTold old.raw (BinaryStep (file_of old) Flush Done new.short false (file_of new)) = λ tells. settled (subst (λ (refused : Option IoFault). SettledBy (file_of old) Flush refused Done (file_of new)) (sym asked.passes) (ap (λ (file : FlatFile). (Done, file)) (passing_file old new passes same tells))) in
    shows_answers old Flush Done new asked.none (search (rules, passing_keeps, stays_open))

flush_ends : (old new : Stream) (result : Result (Unit {0}) IoFault) → IsWriting old → SettleOutcome old result new → IfOk result (λ done. RestsHere new) → Answers old Flush (done_reply result) new
flush_ends old new (Ok done) is passed rests = flushed old new is passed rests
flush_ends old new (Err why) is stops none = settling_refuses old new Flush is.size why (flush_asked old is) is.buffered is.writes (λ has. has.of) tt fault_fails_flush stops

-- a `flush` is answered by the passing on of all, after which the raw stands at the place, and nothing is held
pub flush_passes_on : (old started new : Stream) (result : Result (Unit {0}) IoFault) → IsWriting (begun old) → Begins old (Ok tt) started → SettleOutcome started result new → IfOk result (λ done. RestsHere new) → Answers old Flush (done_reply result) new
flush_passes_on old started new result is begins passed rests =
    answers_whole old new Flush (done_reply result) (flush_ends (begun old) new result is (subst (λ (stream : Stream). SettleOutcome stream result new) begins.1 passed) rests)

-- Closing.

-- a fault of the raw closes a stream that closes
pub fault_closes : FaultLeaves Close life.Closed
fault_closes = record { dead = refl; life_is = λ buffer current. refl; step = λ file after fails. fails }

-- where the raw failed to move back, it doesn't stand at the place, and didn't stand where what was owed up to the place began
parts_there : (old failed : Stream) → PassesSome old failed → FailsBack old failed → failed.owed.bytes ≡ [] → parts_at_close old Close (Refused fault.RawFault) (record failed { life = life.Closed }) ≡ true
parts_there old failed passes back none = grind (arith, eqb_tells, ne_eqb, none_owed_at)

-- what stops the passing on refuses a `close`
closing_refuses : (old new : Stream) (why : IoFault) → IsWriting old → ClosingOutcome old (Err why) new → Answers old Close (Refused why) new
closing_refuses old new (fault.WouldBlock taken) is waits = waits_refuse old new Close is.size taken (close_asked old is.sound is.live is.whole) is.buffered is.writes (λ has. has.of) tt waits
closing_refuses old new fault.RawFault is fails =
    subst (λ (after : Stream). Answers old Close (Refused fault.RawFault) after) (sym fails.2)
    (failing_answers old fails.0 Close life.Closed (close_asked old is.sound is.live is.whole).asked (beside_writing old Close (Refused fault.RawFault) (record fails.0 { life = life.Closed }) is.writes (λ has. has.of)) fault_closes fails.1.0 fails.1.2 fails.1.3 (λ parts none. absurd (cc (parts, parts_there old fails.0 fails.1.0 (fails.1.4 none) none))))
closing_refuses old new fault.NoMemory is lacks = lacks_refuse old new Close (close_asked old is.sound is.live is.whole).asked is.writes (λ has. has.of) lacks
closing_refuses old new why is never = absurd never

-- a live stream that is to be closed, once all was passed on, or nothing was owed
record ReadyToClose (old mid : Stream) : Type 0 where
  pub asked : Asked old Close
  pub goes : LivesOn old mid
  pub none : mid.owed.bytes ≡ []
  pub no_wait : NoWait old.raw mid.raw
  pub stands : moves_back old ≡ true → mid.raw_place ≡ mid.place
  pub spares : old.can.writable ≡ false → SparesBytes old Close mid

-- a stream whose raw was closed once nothing was owed
record ShutsDown (old new : Stream) : Type 0 where
  pub keeps : KeepsStream old new
  pub closed : new.raw.closed ≡ true
  pub no_wait : NoWait old.raw new.raw
  pub life_is : new.life ≡ life.Closed
  pub none : new.owed.bytes ≡ []
  pub at : NoneAtPlace old → new.owed.place ≡ new.place
  pub place : new.place ≡ old.place
  pub stands : moves_back old ≡ true → new.raw_place ≡ new.place
  pub far : new.place ≤ greatest_place
  pub short : new.short ≡ false
  pub reads : KeepsReads old.raw new.raw
  pub leaves : PassesFront old new
  pub lays : WhereTold old.raw (LaysFront old [] new.raw.bytes)
  pub holds : WhereTold old.raw (new.raw.bytes ≡ flat_of old)
  pub spares : old.can.writable ≡ false → SparesBytes old Close new

shuts_down : (old mid new : Stream) → ReadyToClose old mid → ClosesRaw mid new → ShutsDown old new
shuts_down old mid new ready closes =
    let passes : PassesSome old mid = ready.goes.passes in
    let kept : KeepsOn old mid = passes.kept in
    let bytes : WhereTold old.raw (new.raw.bytes ≡ mid.raw.bytes) = λ tells. closes.bytes (kept.raw.tells_bytes ∙ tells_its_bytes old.raw tells) in
    let keeps : KeepsStream old new = grind (arith, Keeps-then) in
    let none : new.owed.bytes ≡ [] = ap (λ (owed : Owed). owed.bytes) closes.owed ∙ ready.none in
    let at : NoneAtPlace old → new.owed.place ≡ new.place = λ held. ap (λ (owed : Owed). owed.place) closes.owed ∙ passes.at held ready.none ∙ sym closes.place in
    let leaves : PassesFront old new = grind (arith, answers_still) in
    let lays : WhereTold old.raw (LaysFront old [] new.raw.bytes) = λ tells. subst (LaysFront old []) (sym (bytes tells)) (passes.lays tells) in
    let holds : WhereTold old.raw (new.raw.bytes ≡ flat_of old) = λ tells. bytes tells ∙ passed_all old mid passes ready.none tells in
    let reads : KeepsReads old.raw new.raw = λ tells. closes.reads (kept.raw.tells_transfers ∙ tells) ∙ kept.reads tells in
    let stands : moves_back old ≡ true → new.raw_place ≡ new.place = λ back. closes.raw_place ∙ ready.stands back ∙ sym closes.place in
    let spares : old.can.writable ≡ false → SparesBytes old Close new = λ reads. let spared : SparesBytes old Close mid = ready.spares reads in grind (arith, answers_still) in
    search (rules, no_wait_then)

-- the flat bytes of a stream that was shut down
shut_bytes : (old new : Stream) → ShutsDown old new → WhereTold old.raw (flat_of new ≡ flat_of old)
shut_bytes old new shuts tells = ap (lay new.raw.bytes new.owed.place) shuts.none ∙ shuts.holds tells

-- what the closing of the raw answers: the raw closed, or failed
record ClosesWith (old new : Stream) (reply : FileReply) : Type 0 where
  pub causes : HasCauses old.raw reply new.raw new.short
  pub counted : IsTrue old.raw.counts_exactly → IsCounted old.buffer old.raw Close reply new.raw new.short
  pub told : WhereTold old.raw (BinaryStep (file_of old) Close reply new.short (says_fault reply) (file_of new))

-- a reply of a `close` that shut the stream down
pub record IsShutting (reply : FileReply) : Type 0 where
  pub shorts : (short : Bool) → short ≡ false → IsShort Close reply short
  pub life_is : (buffer : Option ℕ) (current : Life) → LifeMoves buffer Close reply current life.Closed
  pub place : (buffer : Option ℕ) (current : Life) (place : ℕ) → PlaceMoves buffer Close reply current place place
  pub no_want : says_no_memory reply ≡ false
  pub passes : (before after : Stream) → PassedOn before after → PassesOn before Close reply after
  pub full : (after : Stream) → BlocksFull Close reply after
  pub seeks : (before after : Stream) → SeekStands before Close reply after
  pub answer : (buffer : Option ℕ) (writes : Bool) → IsReplyTo buffer writes Close reply

done_shuts : IsShutting Done
done_shuts = record { shorts = λ short whole. whole; life_is = λ buffer current. refl; place = λ buffer current place. refl; no_want = refl; passes = λ before after passed _. passed; full = λ after. tt; seeks = λ before after. tt; answer = λ buffer writes. tt }

fault_shuts : IsShutting (Refused fault.RawFault)
fault_shuts = record { shorts = λ short whole. whole; life_is = λ buffer current. refl; place = λ buffer current place. fails_there buffer Close current place; no_want = refl; passes = λ before after passed. tt; full = λ after. tt; seeks = λ before after. tt; answer = λ buffer writes. tt }

-- a raw that was moved back to the place, where it had to be, isn't parted from its stream
closed_there : (old new : Stream) (reply : FileReply) → ShutsDown old new → parts_at_close old Close reply new ≡ false
closed_there old new reply shuts = grind (arith, eqb_tells)

shut_answers : (old new : Stream) (reply : FileReply) → Asked old Close → IsShutting reply → ShutsDown old new → ClosesWith old new reply → Answers old Close reply new
shut_answers old new reply asked shutting shuts closes =
    let writes : Writes old Close reply new = passing_writes old Close reply new asked.none (grind arith) in
    let shut : ClosedWith new.life new.raw = shuts.closed ∙ sym (ap is_closed shuts.life_is) in
    let life_is : LifeMoves old.buffer Close reply old.life new.life = subst (LifeMoves old.buffer Close reply old.life) (sym shuts.life_is) (shutting.life_is old.buffer old.life) in
    let place : PlaceMoves old.buffer Close reply new.life old.place new.place = subst (PlaceMoves old.buffer Close reply new.life old.place) (sym shuts.place) (shutting.place old.buffer new.life old.place) in
    let parted : parts_at_close old Close reply new ≡ true → StaysOpen old.raw new.raw = λ parts. absurd (cc (parts, closed_there old new reply shuts)) in
    let near : new.life ≡ life.Live → IsNear new = λ lives. absurd (cc (shuts.life_is)) in
    shows_answers old Close reply new asked.none (search (rules))

closes_raw : (old mid new : Stream) (result : Result (Unit {0}) IoFault) → ReadyToClose old mid → CloseRawOutcome mid result new → Answers old Close (done_reply result) new
closes_raw old mid new (Ok done) ready closes =
    let asked : Asked old Close = ready.asked in
    let shuts : ShutsDown old new = shuts_down old mid new ready closes.0 in
    shut_answers old new Done asked done_shuts shuts (grind (arith, no_fault_then))
closes_raw old mid new (Err fault.RawFault) ready closes =
    let asked : Asked old Close = ready.asked in
    let shuts : ShutsDown old new = shuts_down old mid new ready closes.0 in
    shut_answers old new (Refused fault.RawFault) asked fault_shuts shuts (grind (arith, shut_bytes))
closes_raw old mid new (Err fault.NoMemory) ready wants =
    subst (λ (after : Stream). Answers old Close (Refused fault.NoMemory) after) (sym wants.1)
    (lacking_answers old mid Close ready.asked (record { in_hand = λ has. absurd has.of; owing = λ has. absurd has.of; spares = λ reads _. ready.spares reads }) (sym ready.goes.passes.kept.raw.takes_memory ∙ wants.0) ready.goes ready.no_wait)
closes_raw old mid new (Err why) ready never = absurd never

-- As the steps of `close` come.

-- a `close` is answered by what stops the passing on
pub close_stops : (old started new : Stream) (why : IoFault) → IsWriting (begun old) → Begins old (Ok tt) started → ClosingOutcome started (Err why) new → Answers old Close (Refused why) new
close_stops old started new why is begins stops = answers_whole old new Close (Refused why) (closing_refuses (begun old) new why is (subst (λ (stream : Stream). ClosingOutcome stream (Err why) new) begins.1 stops))

ready_writing : (old mid : Stream) → IsWriting old → ClosingOutcome old (Ok tt) mid → ReadyToClose old mid
ready_writing old mid is passed = record { asked = (close_asked old is.sound is.live is.whole).asked; goes = passed.0.0; none = passed.0.2; no_wait = passed.0.1; stands = passed.1; spares = λ reads. absurd (cc (is.writes)) }

-- a `close` is answered by the closing of the raw, once all was passed on
pub close_answers : (old started mid new : Stream) (result : Result (Unit {0}) IoFault) → IsWriting (begun old) → Begins old (Ok tt) started → ClosingOutcome started (Ok tt) mid → CloseRawOutcome mid result new → Answers old Close (done_reply result) new
close_answers old started mid new result is begins passed closes = answers_whole old new Close (done_reply result) (closes_raw (begun old) mid new result (ready_writing (begun old) mid is (subst (λ (stream : Stream). ClosingOutcome stream (Ok tt) mid) begins.1 passed)) closes)

ready_at_once : (old : Stream) → IsSound old → old.life ≡ life.Live → old.short ≡ false → old.owed ≡ nothing_owed old.place → moves_back old ≡ false → ReadyToClose old old
ready_at_once old sound live whole none stays = grind arith

-- a `close` of a stream that owes nothing, and whose raw needn't be moved back, is answered by the closing of the raw
pub close_answers_at_once : (old started new : Stream) (result : Result (Unit {0}) IoFault) → IsSound (begun old) → old.owed ≡ nothing_owed old.place → moves_back old ≡ false → Begins old (Ok tt) started → CloseRawOutcome started result new → Answers old Close (done_reply result) new
close_answers_at_once old started new result sound none stays begins closes =
    answers_whole old new Close (done_reply result) (closes_raw (begun old) (begun old) new result (ready_at_once (begun old) sound begins.0 refl none stays) (subst (λ (stream : Stream). CloseRawOutcome stream result new) begins.1 closes))

-- a `flush`, by what begins it
pub flush_answers : (before after : Stream) (result : Result (Unit {0}) IoFault) → IsPlaced before → before.owed ≡ nothing_owed before.place → (before.can.writable ≡ true → RestsHere before) → Begins before result after → Answers before Flush (done_reply result) after
flush_answers before after (Err why) is bare stands begins = grind (arith, lays_nothing)
flush_answers before after (Ok done) is bare stands begins = grind (arith, lays_nothing)

-- A detaching that is refused.

-- a fault of the raw fails a stream that detaches
pub fault_fails_detach : FaultLeaves Detach life.Failed
fault_fails_detach = record { dead = refl; life_is = λ buffer current. refl; step = λ file after fails. (0, zero-le, fails) }

-- what stops the passing on refuses a `detach` of a stream with a buffer that writes
pub detach_refuses : (old new : Stream) (current : Life) (why : IoFault) → old.life ≡ current → (current ≡ life.Live → IsWriting (begun old)) → old.place ≤ greatest_place → BeginDetachIn current (begun old) (Err why) new → Answers old Detach (Refused why) new
detach_refuses old new life.Live why is writing far stops =
    let may : IsWriting (begun old) = writing refl in
    answers_whole old new Detach (Refused why) (settling_refuses (begun old) new Detach may.size why (detach_asked (begun old) may) may.buffered may.writes (λ has. has.of) tt fault_fails_detach stops)
detach_refuses old new life.Failed why is writing far stops = absurd (let wrong : Err why ≡ Ok tt = stops.0 in cc)
detach_refuses old new life.Closed why is writing far stops = grind (arith, lays_nothing)
detach_refuses old new life.Detached why is writing far never = absurd never

-- The raw is handed back as it is.

-- the bytes that are owed stand in the flat file where they belong
stands_there : (raw bytes : List ℕ) (place : ℕ) (seekable : Bool) → StandAt bytes seekable (if seekable then Some place else None) (lay raw place bytes)
stands_there raw bytes place true = lay_reads_back raw place bytes
stands_there raw bytes place false = (place, lay_reads_back raw place bytes)

-- what a detaching answers that hands the raw back as it is
abbrev unwritten : Stream → FileReply
unwritten old = Unwritten old.owed.bytes (place_handed old old.owed)

-- the stream that was handed over
abbrev given : Stream → Stream
given old = handed_over old old.raw old.owed

-- a stream is handed over at once: a failed one, with what it owes; or a live one that doesn't write, and owes nothing
abbrev pub AtOnce : Stream → Type 0
AtOnce old = (old.life ≡ life.Failed) ⊎ ((old.life ≡ life.Live) × (old.can.writable ≡ false) × (old.owed ≡ nothing_owed old.place))

hands_told : (old : Stream) → AtOnce old → DetachesIn old.life (file_of old) (unwritten old) (file_of (given old))
hands_told old (inl failed) = subst (λ (current : Life). DetachesIn current (file_of old) (unwritten old) (file_of (given old))) (sym failed) (grind (arith, stands_there))
hands_told old (inr (live, reads, none)) = grind arith

never_passes : (old : Stream) → AtOnce old → old.can.writable ≡ true → old.life ≡ life.Live → ⊥
never_passes old (inl failed) writes live = let dead : life.Failed ≡ life.Live = sym failed ∙ live in cc
never_passes old (inr (live, reads, none)) writes lives = cc

still_open : (old : Stream) → AtOnce old → is_closed old.life ≡ false
still_open old (inl failed) = ap is_closed failed
still_open old (inr (live, reads, none)) = ap is_closed live

detaches_in : (old : Stream) (size : ℕ) (current : Life) → old.buffer ≡ Some size → old.life ≡ current → lets_through current (buffering_of (Some size)) Detach ≡ true → refusal (file_of old) Detach ≡ None
detaches_in old size current buffered is through = grind arith

let_go : (old : Stream) (size : ℕ) → old.buffer ≡ Some size → AtOnce old → refusal (file_of old) Detach ≡ None
let_go old size buffered (inl failed) = detaches_in old size life.Failed buffered failed refl
let_go old size buffered (inr (live, reads, none)) = detaches_in old size life.Live buffered live refl

hands_back : (old : Stream) (size : ℕ) → old.buffer ≡ Some size → AtOnce old → old.place ≤ greatest_place → (old.owed.bytes ≡ [] → old.owed.place ≡ old.place) → Answers old Detach (unwritten old) (given old)
hands_back old size buffered at_once far at = shows_answers old Detach (unwritten old) (given old) detach_moves_none (grind (arith, keeps_same, let_go, still_open, passing_writes, detach_moves_none, never_passes, hands_told))

same_owed : (old : Stream) → AtOnce old → owed_then old.life old ≡ old.owed
same_owed old (inl failed) = ap (λ (current : Life). owed_then current old) failed
same_owed old (inr (live, reads, none)) = ap (λ (current : Life). owed_then current old) live ∙ sym none

-- a stream whose raw is handed back as it is
pub hands_at_once : (old : Stream) (size : ℕ) → old.buffer ≡ Some size → AtOnce old → old.place ≤ greatest_place → (old.owed.bytes ≡ [] → old.owed.place ≡ old.place) → HandsOver old old.raw old.owed.bytes (place_handed old old.owed) (left_behind old)
hands_at_once old size buffered at_once far at = grind (arith, same_owed, hands_back)

-- A live stream that writes, once nothing is owed.

-- the raw stands at the place of the stream
stands_at_end : (old new : Stream) → LivesOn old new → new.raw_place ≡ new.place → WherePlace old.raw (new.raw.place ≡ old.place)
stands_at_end old new goes stands tells = (goes.passes.kept.sound.near goes.live).stands (goes.passes.kept.raw.tells_place ∙ tells) ∙ stands ∙ goes.passes.still

detached_live : (old new : Stream) → IsWriting old → old.place ≤ greatest_place → SettleOutcome old (Ok tt) new → new.raw_place ≡ new.place → Answers old Detach (Unwritten [] (place_handed old (nothing_owed old.place))) (handed_over old new.raw (nothing_owed old.place))
detached_live old new is far passed stands =
    let asked : Asked old Detach = (detach_asked old is).asked in
    let goes : LivesOn old new = passed.0 in
    let passes : PassesSome old new = goes.passes in
    let reply : FileReply = Unwritten [] (place_handed old (nothing_owed old.place)) in
    let after : Stream = handed_over old new.raw (nothing_owed old.place) in
    let counted : IsTrue old.raw.counts_exactly → IsCounted old.buffer old.raw Detach reply new.raw false = λ exact. record { faults = λ _. goes.no_fault exact; waits = λ _ _. passed.1 exact; once = λ waited. absurd (cc) } in
    let writes : Writes old Detach reply after = passing_writes old Detach reply after asked.none (record {
      leaves = record { passed = passes.passed; most = passes.within; answered = passes.answered; bytes = sym passed.2 ∙ passes.owed; place = λ some. absurd (some refl) };
      stands = λ _ some. absurd (some refl);
      lays = passes.lays;
      passes = λ _. (record { none = refl; holds = passed_all old new passes passed.2 }, refl, stands_at_end old new goes stands);
      full = tt;
      settles = λ _ _. refl;
      unclosed = λ some. absurd (some refl);
      rests = λ dead. absurd (dead is.live);
    }) in
    let told : WhereTold old.raw (BinaryStep (file_of old) Detach reply false false (file_of after)) = λ tells. settled (subst (λ (refused : Option IoFault). SettledBy (file_of old) Detach refused reply (file_of after)) (sym asked.passes)
    (subst (λ (current : Life). DetachesIn current (file_of old) reply (file_of after)) (sym is.live)
    (ap (λ (bytes : List ℕ). let file : FlatFile = record (file_of old) { bytes = bytes; life = life.Detached } in (reply, file)) (passed_all old new passes passed.2 tells)))) in
    shows_answers old Detach reply after asked.none (search rules)

hands_live : (old new : Stream) → old.life ≡ life.Live → IsWriting (begun old) → old.place ≤ greatest_place → NoneAtPlace old → BeginDetachIn life.Live (begun old) (Ok tt) new → HandsOver old new.raw new.owed.bytes (place_handed old new.owed) (left_behind old)
hands_live old new live is far at passed =
    let none : Owed = nothing_owed old.place in
    let passes : PassesSome (begun old) new = passed.0.0.passes in
    let place : new.owed.place ≡ old.place = passes.at at passed.0.2 ∙ passes.still in
    let owed : owed_then old.life old ≡ none = ap (λ (current : Life). owed_then current old) live in
    let handed : place_handed old new.owed ≡ place_handed old none = ap (λ (at : ℕ). if old.can.seekable then Some at else None) place in
    let answers : Answers old Detach (Unwritten [] (place_handed old none)) (handed_over old new.raw none) = answers_whole old (handed_over old new.raw none) Detach _ (detached_live (begun old) new is far passed.0 passed.1) in
    search rules

-- a stream that writes, and that is handed over: a live one or a failed one
pub hands_over : (old new : Stream) (current : Life) → old.life ≡ current → (current ≡ life.Live → IsWriting (begun old)) → (size : ℕ) → old.buffer ≡ Some size → old.place ≤ greatest_place → (old.owed.bytes ≡ [] → old.owed.place ≡ old.place) → BeginDetachIn current (begun old) (Ok tt) new → HandsOver old new.raw new.owed.bytes (place_handed old new.owed) (left_behind old)
hands_over old new life.Live is writing size buffered far at passed = hands_live old new is (writing refl) far at passed
hands_over old new life.Failed is writing size buffered far at same = subst (λ (after : Stream). HandsOver old after.raw after.owed.bytes (place_handed old after.owed) (left_behind old)) (sym same.1) (hands_at_once old size buffered (inl is) far at)
hands_over old new life.Closed is writing size buffered far at wrong = absurd (let never : Ok tt ≡ Err fault.Closed = wrong.0 in cc)
hands_over old new life.Detached is writing size buffered far at never = absurd never
