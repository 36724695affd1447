-- What a stream refuses by itself, whatever the call: nothing but the reply tells that the call came; also without a look at the argument.
use Rattle.std.proofs.Common.{◌≡◌, ℕ, ◌≤◌, inl, Bool, true, false, Option, Some, None, if◌then◌else◌, refl, sym, ap, ◌∙◌, subst, arith, rules, IsTrue, ◌≢◌, ◌⊎◌, inr, ◌&&◌, Ok, Err}
use Rattle.py_flat.specs.declared.fault.IoFault.{IoFault}
use Rattle.py_flat.specs.declared.fault.IoFault.TheVariants as fault
use Rattle.py_flat.specs.declared.life.Life.{Life}
use Rattle.py_flat.specs.declared.life.Life.TheVariants as life
use Rattle.py_flat.specs.Calls.{FileCall, FileReply, Refused}
use Rattle.py_flat.specs.FlatFile.{FlatFile, Buffering}
use Rattle.py_flat.specs.Refusals.{refusal, is_getter, is_other_getter, lets_through, life_fault, lacks, is_buffered, is_close, is_detach}
use Rattle.py_flat.specs.Limits.{greatest_place}
use Rattle.py_flat.specs.BinaryStep.{payload, asks_end, is_live, SettledBy, BinaryStep}
use Rattle.py_flat.specs.AllowedStep.{settled}
use Rattle.py_stream.specs.Stream.{Stream, size_of, buffering_of, file_of}
use Rattle.py_stream.specs.Kinds.{is_writing, says_fault, says_no_memory, says_given}
use Rattle.py_stream.specs.Keeping.{IsSound}
use Rattle.py_stream.specs.Writing.{HasRoom, Writes}
use Rattle.py_stream.specs.Answers.{Answers, LifeMoves, PlaceMoves, IsShort, IsNear, SeeksByEnd, GivesWithin, closes_again, refused_by, IsIdle, Leaves, RefusesAlone}
use Rattle.py_raw.proofs.Telling.{keeps_same}
use Rattle.py_stream.proofs.Refused.{is_own, leaves_all}
use Rattle.py_stream.proofs.Begun.{near_seen, ahead_seen, came_still, each_still, reads_none, writes_whole}
use Rattle.py_raw.specs.RawStream.{WhereTold}
use Rattle.py_stream.specs.Moving.{Begins}

life_stays : (buffer : Option ℕ) (call : FileCall) (why : IoFault) (current : Life) → is_own why ≡ true → LifeMoves buffer call (Refused why) current current
life_stays buffer call why current own = grind arith

place_stays : (buffer : Option ℕ) (call : FileCall) (why : IoFault) (current : Life) (place : ℕ) → is_own why ≡ true → PlaceMoves buffer call (Refused why) current place place
place_stays buffer call why current place own = grind arith

never_short : (call : FileCall) (why : IoFault) → is_own why ≡ true → IsShort call (Refused why) false
never_short call why own = grind arith

pub gives_nothing : (size : ℕ) (call : FileCall) (why : IoFault) → GivesWithin size call (Refused why)
gives_nothing size call why = grind arith

no_fault : (why : IoFault) → is_own why ≡ true → says_fault (Refused why) ≡ false
no_fault why own = grind arith

no_want : (why : IoFault) → is_own why ≡ true → says_no_memory (Refused why) ≡ false
no_want why own = grind arith

no_end : (before : Stream) (call : FileCall) (reply : FileReply) (after : Stream) → asks_end (file_of before) call ≡ false → SeeksByEnd before call reply after
no_end before call reply after none = grind arith

-- a call that doesn't ask for the end is refused as the model says
pub refused_alone : (before : Stream) (call : FileCall) → asks_end (file_of before) call ≡ false → refused_by before call ≡ refusal (file_of before) call
refused_alone before call none = ap (λ (asks : Bool). if asks then None else refusal (file_of before) call) none

-- what is known of a stream that a call comes to: its place; and while it lives, where its raw stands
pub record IsPlaced (stream : Stream) : Type 0 where
  pub far : stream.place ≤ greatest_place
  pub near : stream.life ≡ life.Live → IsNear stream

-- what holds of every stream over a raw says where it is placed
pub sound_placed : (stream : Stream) → IsSound stream → IsPlaced stream
sound_placed stream sound = record { far = sound.far; near = sound.near }

-- bytes for which a live stream that writes has room aren't refused
unrefused_with_room : (stream : Stream) (call : FileCall) → IsTrue (is_writing call) → stream.can.writable ≡ true → HasRoom stream (payload call) → refusal (file_of stream) call ≡ None
unrefused_with_room stream call writing can has = grind arith

-- so a call that is refused has no room for its bytes
refused_roomless : (stream : Stream) (call : FileCall) (why : IoFault) → refusal (file_of stream) call ≡ Some why → stream.can.writable ≡ true → IsTrue (is_writing call) → HasRoom stream (payload call) → ⊥
refused_roomless stream call why refuses can writing has = let wrong : None ≡ Some why = sym (unrefused_with_room stream call writing can has) ∙ refuses in cc

-- A refusal of the stream's own leaves all as it was.
pub refused_with : (before after : Stream) (call : FileCall) (why : IoFault) → IsPlaced before → refusal (file_of before) call ≡ Some why → asks_end (file_of before) call ≡ false → is_own why ≡ true → closes_again before call ≡ false → after ≡ record before { short = false } → Answers before call (Refused why) after
refused_with before after call why is refuses alone own first same =
    let left : Stream = record before { short = false } in
    let by : refused_by before call ≡ Some why = refused_alone before call alone ∙ refuses in
    let writes : before.can.writable ≡ true → Writes left call (Refused why) left = λ can. leaves_all left call why own refl (refused_roomless left call why refuses can) in
    let idle : IsIdle before (Refused why) left = record { raw = refl; fault = no_fault why own; memory = no_want why own } in
    let refused : (other : IoFault) → refused_by before call ≡ Some other → Leaves before (Refused other) (Refused why) left = λ other refused. record { says = let same_why : Some why ≡ Some other = sym by ∙ refused in cc; same = refl } in
    let fed : IsTrue (says_no_memory (Refused why)) → ⊥ = λ wanting. absurd (cc (idle.memory)) in
    let ungiven : IsTrue (says_given (Refused why)) → ⊥ = λ given. absurd (cc) in
    let passes : refused_by before call ≡ None → ⊥ = λ accepted. absurd (let wrong : Some why ≡ None = sym by ∙ accepted in cc) in
    let told : WhereTold before.raw (BinaryStep (file_of before) call (Refused why) false (says_fault (Refused why)) (file_of left)) = λ tells. settled (subst (λ (refused : Option IoFault). SettledBy (file_of before) call refused (Refused why) (file_of left)) (sym refuses) (refl, refl)) in
    let answers : Answers before call (Refused why) left = record {
      keeps = record { buffer = refl; can = refl; raw = keeps_same before.raw; bare = λ _ none. none };
      refused = refused;
      again = λ closes. absurd (cc (first));
      shut = λ _ none closed. closed;
      parted = λ _. refl;
      causes = record { waits = λ short. absurd (cc); faults = λ faulted. absurd (cc (idle.fault)) };
      counted = λ exact. record { faults = λ sound. refl; waits = λ short goes. refl; once = λ short. absurd (cc) };
      shorts = never_short call why own;
      moves = record { life_is = life_stays before.buffer call why before.life own; place = place_stays before.buffer call why before.life before.place own; far = is.far; within = gives_nothing (size_of before) call why };
      ends = no_end before call (Refused why) left alone;
      seeks = tt;
      wants = λ wanting. absurd (fed wanting);
      goes_on = λ _ ahead. ahead_seen before false ahead;
      goes_past = λ _ given. absurd (ungiven given);
      starves = λ wanting. absurd (fed wanting);
      first = λ wanting. absurd (fed wanting);
      nothing = λ _. record { raw = refl; fault = idle.fault };
      idle = λ _. idle;
      single = λ _ _ tells. omega arith;
      once = λ _ tells. inl refl;
      passes_first = λ _ _ _ given. absurd (ungiven given);
      in_hand = λ _. record { raw = refl; fault = idle.fault };
      owing = λ _. record { owed = refl; held = refl };
      brings = λ _ _. came_still before left 1 refl refl;
      unread = λ _ tells. refl;
      needs = λ _ _. record { enough = λ _ _ _. record { raw = refl; fault = idle.fault }; whole = λ _. each_still before left 0 0 refl refl; needed = λ _. inl refl; last = each_still before left 1 1 refl refl };
      needs_reads = λ _. reads_none before call (Refused why) left (λ tells. refl);
      spares = λ _ none. record { bytes = λ tells. refl; written = λ tells. refl; owed = none; still = λ _. refl };
      writes = λ can. writes_whole before left call (Refused why) (writes can);
      answer = λ accepted. absurd (passes accepted);
      at_once = λ _ _ accepted. absurd (passes accepted);
      complete = λ accepted. absurd (passes accepted);
      told = told;
      reach = λ _ tells. omega arith;
      near = λ lives. near_seen before false (is.near lives);
      hides = λ short. absurd (cc);
    } in
    subst (λ (now : Stream). Answers before call (Refused why) now) (sym same) answers

-- By the life.

own_of_life : (current : Life) (why : IoFault) → life_fault current ≡ Some why → is_own why ≡ true
own_of_life current why by = grind (arith, is_own)

not_live : (current : Life) (why : IoFault) → life_fault current ≡ Some why → is_live current ≡ false
not_live current why by = grind arith

asks_no_end : (file : FlatFile) (call : FileCall) → is_live file.life ≡ false → asks_end file call ≡ false
asks_no_end file call dead = grind arith

closes_no_more : (stream : Stream) (call : FileCall) → lets_through stream.life (buffering_of stream.buffer) call ≡ false → closes_again stream call ≡ false
closes_no_more stream call stopped = grind arith

-- what a file refuses by its life
life_refuses : (file : FlatFile) (call : FileCall) (why : IoFault) → is_getter call ≡ false → is_other_getter call ≡ false → lets_through file.life file.buffering call ≡ false → life_fault file.life ≡ Some why → refusal file call ≡ Some why
life_refuses file call why works own stopped by = grind arith

-- A call that the life doesn't let through.
pub refused_by_life : (before after : Stream) (call : FileCall) (why : IoFault) → IsPlaced before → is_getter call ≡ false → is_other_getter call ≡ false → lets_through before.life (buffering_of before.buffer) call ≡ false → life_fault before.life ≡ Some why → after ≡ record before { short = false } → Answers before call (Refused why) after
refused_by_life before after call why is works own stopped fails same = search (rules, refused_with, life_refuses, asks_no_end, not_live, own_of_life, closes_no_more)

-- By what the stream can do.

-- what a live file refuses for want of an ability
ability_refuses : (file : FlatFile) (call : FileCall) → is_getter call ≡ false → is_other_getter call ≡ false → file.life ≡ life.Live → lacks file call ≡ true → refusal file call ≡ Some fault.Unsupported
ability_refuses file call works own live wants = grind arith

lacks_no_end : (file : FlatFile) (call : FileCall) → lacks file call ≡ true → asks_end file call ≡ false
lacks_no_end file call wants = grind arith

-- no call closes a live stream again
pub live_not_closed : (stream : Stream) (call : FileCall) → stream.life ≡ life.Live → closes_again stream call ≡ false
live_not_closed stream call live = grind arith

-- A call of a live stream that lacks what the call needs.
pub refused_by_ability : (before after : Stream) (call : FileCall) → IsPlaced before → is_getter call ≡ false → is_other_getter call ≡ false → before.life ≡ life.Live → lacks (file_of before) call ≡ true → after ≡ record before { short = false } → Answers before call (Refused fault.Unsupported) after
refused_by_ability before after call is works own live wants same = search (rules, refused_with, ability_refuses, lacks_no_end, live_not_closed)

-- By the life.

-- whether a failed stream lets a call through
abbrev pub detaches : Buffering → FileCall → Bool
detaches buffering call = is_detach call && is_buffered buffering

-- a stream that isn't live lets no call through but a `close` and a `detach`
pub stopped : (current : Life) (buffering : Buffering) (call : FileCall) → current ≢ life.Live → is_close call ≡ false → detaches buffering call ≡ false → lets_through current buffering call ≡ false
stopped current buffering call dead close detach = grind arith

-- a life that refuses calls lets none through but a `close` and a `detach`
pub shut_by_life : (current : Life) (buffering : Buffering) (call : FileCall) (why : IoFault) → is_close call ≡ false → detaches buffering call ≡ false → life_fault current ≡ Some why → lets_through current buffering call ≡ false
shut_by_life current buffering call why close detach fails = grind arith

-- By what the stream lacks.

lacks_no_close : (file : FlatFile) (call : FileCall) → lacks file call ≡ true → is_close call ≡ false
lacks_no_close file call lacking = grind arith

lacks_no_detach : (file : FlatFile) (call : FileCall) → lacks file call ≡ true → detaches file.buffering call ≡ false
lacks_no_detach file call lacking = grind arith

-- By either: what the stream lacks, or its life.

-- a call that a life stops, or that the stream lacks
abbrev Stopped : Stream → FileCall → Type 0
Stopped stream call = (lets_through stream.life (buffering_of stream.buffer) call ≡ false) ⊎ (lacks (file_of stream) call ≡ true)

dead_stops : (stream : Stream) (call : FileCall) (why : IoFault) → life_fault stream.life ≡ Some why → Stopped stream call → lets_through stream.life (buffering_of stream.buffer) call ≡ false
dead_stops stream call why fails (inl stops) = stops
dead_stops stream call why fails (inr lacking) = shut_by_life stream.life (buffering_of stream.buffer) call why (lacks_no_close (file_of stream) call lacking) (lacks_no_detach (file_of stream) call lacking) fails

live_lacks : (stream : Stream) (call : FileCall) → stream.life ≡ life.Live → Stopped stream call → lacks (file_of stream) call ≡ true
live_lacks stream call live (inl stops) = absurd (let through : true ≡ false = sym (ap (λ (current : Life). lets_through current (buffering_of stream.buffer) call) live) ∙ stops in cc)
live_lacks stream call live (inr lacking) = lacking

-- a stream that doesn't live refuses a call by its life
pub alone_by_life : (before after : Stream) (call : FileCall) (why : IoFault) → IsPlaced before → RefusesAlone before call → life_fault before.life ≡ Some why → after ≡ record before { short = false } → Answers before call (Refused why) after
alone_by_life before after call why is alone fails same = refused_by_life before after call why is alone.0 alone.1 (dead_stops before call why fails alone.2) fails same

-- a live stream refuses a call that it lacks as unsupported
pub alone_by_ability : (before after : Stream) (call : FileCall) → IsPlaced before → RefusesAlone before call → before.life ≡ life.Live → after ≡ record before { short = false } → Answers before call (Refused fault.Unsupported) after
alone_by_ability before after call is alone live same = refused_by_ability before after call is alone.0 alone.1 live (live_lacks before call live alone.2) same

-- How a call begins.

-- a call that a stream refuses as it begins is answered by that refusal
pub begins_in_vain : (before after : Stream) (call : FileCall) (why : IoFault) → IsPlaced before → is_getter call ≡ false → is_other_getter call ≡ false → is_close call ≡ false → detaches (buffering_of before.buffer) call ≡ false → Begins before (Err why) after → Answers before call (Refused why) after
begins_in_vain before after call why is works own close detach begins = refused_by_life before after call why is works own (shut_by_life before.life (buffering_of before.buffer) call why close detach begins.0) begins.0 begins.1

-- a stream that has just begun a call, and doesn't live, refuses the call by its life
pub refuses_by_life : (before after : Stream) (why : IoFault) → IsPlaced before → Begins before (Err why) after → (call : FileCall) → RefusesAlone before call → Answers before call (Refused why) after
refuses_by_life before after why is begins call alone = alone_by_life before after call why is alone begins.0 begins.1

-- a live stream that has just begun a call which it lacks refuses it as unsupported
pub refuses_by_ability : (before after : Stream) → IsPlaced before → Begins before (Ok tt) after → (call : FileCall) → RefusesAlone before call → Answers before call (Refused fault.Unsupported) after
refuses_by_ability before after is begins call alone = alone_by_ability before after call is alone begins.0 begins.1
