-- An engine as the stream that it is: where it and its raw stand, and what holds when a call begins, by what it is opened for.
use Rattle.std.proofs.Common.{◌≡◌, ◌≢◌, ℕ, ◌+◌, ◌-◌, ◌<◌, ◌≤◌, ⊎_elim, max, List, [], ◌∷◌, length, take, drop, false, Err, refl, sym, subst, ap, ◌∙◌, arith, Bool, true, Result, Ok, IfOk}
use Rattle.std.proofs.lemmas.Bool.{cases_lt}
use Rattle.std.proofs.lemmas.List.{length-take, length-drop}
use Rattle.py_flat.specs.declared.fault.IoFault.{IoFault}
use Rattle.py_flat.specs.declared.fault.IoFault.TheVariants as fault
use Rattle.py_flat.specs.declared.life.Life.TheVariants as life
use Rattle.py_flat.specs.Owed.{Owed}
use Rattle.py_flat.specs.Limits.{greatest_place}
use Rattle.py_stream.specs.declared.access.Access.{Access}
use Rattle.py_stream.specs.declared.access.Access.TheVariants as access
use Rattle.py_stream.specs.Access.{can_of, is_read, is_written}
use Rattle.py_stream.specs.Stream.{nothing_owed, Stream, Span, nothing_held}
use Rattle.py_stream.specs.Answers.{IsNear, Answers, moves_back}
use Rattle.py_stream.specs.Keeping.{IsSound}
use Rattle.py_stream.specs.Writing.{OwesWithin, OwesBehind, StandsBare}
use Rattle.py_stream.specs.Moving.{end_with, StandsAsBefore, AsksEnd, EndOutcome, Begins, keeps_pending, OwesBy, SettlesBy}
use Rattle.py_stream.proofs.Refusing.{IsPlaced}
use Rattle.py_window.specs.Window.{WindowView, IsWindow, place_of, end_of, pending_of, owed_of, flat_over}
use Rattle.py_engine.specs.Engine.{EngineView, stream_of, HasShape, Stands, IsBehind, AsksRawEnd, RawEndOutcome, BeginOutcome}
use Rattle.py_engine.specs.Reading.{IsReading, reading_of}
use Rattle.py_window.proofs.Collecting.{pending_ends}
use Rattle.py_flat.specs.Calls.{FileCall, Flush, Close, FileReply, Refused}
use Rattle.py_stream.specs.Replies.{done_reply}
use Rattle.py_stream.specs.Ending.{CloseRawOutcome}
use Rattle.py_stream.specs.Taking.{MayTake, BeginsWriting}
use Rattle.py_stream.proofs.Begun.{answers_whole}
use Rattle.py_stream.proofs.Given.{writing_refused}
use Rattle.py_stream.proofs.Showing.{IsWriting}
use Rattle.py_stream.proofs.PassingOn.{begun}
use Rattle.py_stream.proofs.Shutting.{flush_answers, RestsHere, flush_passes_on, close_stops, close_answers, close_answers_at_once}
use Rattle.py_engine.specs.Passing.{PassesAll, PassesToClose}

-- How near the raw stands to the place.

-- how far from the place the raw stands
record NearWindow (engine : EngineView) : Type 0 where
  read_ahead : (can_of engine.access engine.raw.seekable).writable ≡ false → end_of engine.window ≡ engine.raw_place
  ahead : engine.raw_place ≤ place_of engine.window + engine.window.size
  behind : place_of engine.window ≤ engine.raw_place + engine.window.size

-- where some is pending, the raw doesn't stand before the first of it
before_raw : (opened : Access) (raw_place : ℕ) (window : WindowView) → HasShape opened raw_place window → window.from < window.to → window.begin + window.from ≤ raw_place
before_raw access.Read raw_place window shape some = absurd (omega (arith, some, shape.settled))
before_raw access.Update raw_place window shape some = shape.owed (λ none. omega (arith, some, none))
before_raw other raw_place window shape some = omega (arith, shape.stands)

owed_before_raw : (engine : EngineView) → Stands engine → pending_of engine.window ≢ [] → engine.window.begin + engine.window.from ≤ engine.raw_place
owed_before_raw engine is some = ⊎_elim
    (λ (pending : engine.window.from < engine.window.to). before_raw engine.access engine.raw_place engine.window is.shape pending)
    (λ (none : engine.window.to ≤ engine.window.from). absurd (some (ap (λ (n : ℕ). take n (drop engine.window.from engine.window.held)) (let zero_is : engine.window.to - engine.window.from ≡ 0 = omega (arith, none) in zero_is))))
    (cases_lt engine.window.from engine.window.to)

-- a live stream's raw stands near its place
pub is_near : (engine : EngineView) → Stands engine → engine.life ≡ life.Live → IsNear (stream_of engine)
is_near engine is live =
    let window : WindowView = engine.window in
    let near : NearWindow engine = grind arith in
    record {
      after_first = omega arith;
      before_end = omega (arith, is.window_is.cursor);
      fits = omega (arith, is.window_is.held);
      owed_after_first = omega arith;
      owed_before_end = omega (arith, is.window_is.ordered, is.window_is.within, length-take (window.to - window.from) (drop window.from window.held), length-drop window.from window.held);
      owed_before_raw = owed_before_raw engine is;
      read_ahead = near.read_ahead;
      ahead = near.ahead;
      behind = near.behind;
      stands = λ tells. is.stands tells live;
    }

-- an engine's place is one that a stream can have
pub is_far : (engine : EngineView) → Stands engine → place_of engine.window ≤ 9223372036854775807
is_far engine is = omega (arith, is.window_is.cursor, is.window_is.far)

-- an engine's stream has a place, near which its raw stands while it lives
pub is_placed : (engine : EngineView) → Stands engine → IsPlaced (stream_of engine)
is_placed engine is = record { far = is_far engine is; near = is_near engine is }

-- what holds of every engine holds of its stream
pub is_sound : (engine : EngineView) → Stands engine → IsSound (stream_of engine)
is_sound engine is = record { far = is_far engine is; near = is_near engine is; is_open = is.is_open; bare = λ none. absurd (cc) }

-- the raw was asked where it ends, and answered: the stream stands as it stood
asks_stands : (old new : EngineView) (end : ℕ) → Stands new → AsksRawEnd old end new → StandsAsBefore (stream_of old) (stream_of new)
asks_stands old new end is asks = let sound : IsSound (stream_of new) = is_sound new is in grind arith

-- the flat file ends where the raw does, if nothing is owed
end_settled : (bytes : List ℕ) (place end : ℕ) → bytes ≡ [] → end_with (record { bytes = bytes; place = place }) end ≡ end
end_settled bytes place end none = rw none refl

-- else at the later end of both
end_owing : (bytes : List ℕ) (place end : ℕ) → 0 < length bytes → end_with (record { bytes = bytes; place = place }) end ≡ max end (place + length bytes)
end_owing [] place end some = absurd (omega (arith, some))
end_owing (byte ∷ more) place end some = grind arith

-- so it answers where that ends
asks_at : (old new : EngineView) (end last : ℕ) → Stands new → AsksRawEnd old end new → last ≤ greatest_place → end_with (owed_of new.window) end ≡ last → OwesWithin (owed_of new.window) last → AsksEnd (stream_of old) last (stream_of new)
asks_at old new end last is asks within at after =
    let stands : StandsAsBefore (stream_of old) (stream_of new) = asks_stands old new end is asks in
    record {
      stands = stands;
      counts = asks.answers.counts;
      life_is = ap (λ (engine : EngineView). engine.life) asks.same;
      within = within;
      owed = subst (λ (owed : Owed). OwesWithin owed last) stands.owed after;
      told = λ tells. sym at ∙ ap (λ (owed : Owed). end_with owed end) stands.owed ∙ ap (end_with (owed_of old.window)) (asks.answers.value tells);
    }

-- the raw's end, where nothing is pending
pub asks_settled : (old new : EngineView) (end : ℕ) → Stands new → AsksRawEnd old end new → pending_of new.window ≡ [] → AsksEnd (stream_of old) end (stream_of new)
asks_settled old new end is asks none = asks_at old new end end is asks asks.answers.within (end_settled (pending_of new.window) (new.window.begin + new.window.from) end none) (λ some. absurd (some none))

-- the later end, where some is
pub asks_owing : (old new : EngineView) (end : ℕ) → Stands new → AsksRawEnd old end new → 0 < length (pending_of new.window) → AsksEnd (stream_of old) (max end (new.window.begin + new.window.to)) (stream_of new)
asks_owing old new end is asks some =
    let behind : new.window.begin + new.window.from + length (pending_of new.window) ≡ new.window.begin + new.window.to = omega (arith, is.window_is.ordered, is.window_is.within, length-take (new.window.to - new.window.from) (drop new.window.from new.window.held), length-drop new.window.from new.window.held) in
    asks_at old new end (max end (new.window.begin + new.window.to)) is asks (omega (arith, asks.answers.within, is.window_is.within, is.window_is.far))
    (end_owing (pending_of new.window) (new.window.begin + new.window.from) end some ∙ ap (max end) behind) (λ _. omega (arith, behind))

-- the raw failed to say where it ends, or wanted memory for it
pub end_refused : (old new : EngineView) (why : IoFault) → Stands old → RawEndOutcome old (Err why) new → EndOutcome (stream_of old) (Err why) (stream_of new)
end_refused old new fault.RawFault is fails = grind (arith, is_far)
end_refused old new fault.NoMemory is wants = (wants.0, ap stream_of wants.1)
end_refused old new why is never = absurd never

-- What is owed.

-- a stream that is written owes what ends at its place
pub owes_behind : (engine : EngineView) → Stands engine → IsBehind engine → OwesBehind (stream_of engine)
owes_behind engine is writes = grind (arith, pending_ends)

none_between : (window : WindowView) → window.from ≡ window.to → IsWindow window → owed_of window ≡ nothing_owed (place_of window)
none_between window settled is = grind arith

-- a stream that reads on from the bytes held owes nothing
pub owes_nothing : (engine : EngineView) → IsReading engine → (stream_of engine).owed ≡ nothing_owed (stream_of engine).place
owes_nothing engine is = none_between engine.window is.ahead.settled is.window_is

-- By what the stream is opened for.

-- a window that owes nothing leaves the raw's bytes the flat ones
pub none_over : (bytes : List ℕ) (window : WindowView) → window.from ≡ window.to → flat_over bytes window ≡ bytes
none_over bytes window settled = grind arith

-- an engine that reads on from the bytes held stands as each does
pub stands_reading : (engine : EngineView) → IsReading engine → Stands engine
stands_reading engine is = grind (arith, none_over)

-- an engine that is opened to be read and not written reads on from the bytes held
pub reads_alone : (engine : EngineView) → Stands engine → engine.access ≡ access.Read → IsReading engine
reads_alone engine is opened = grind arith

-- Where an engine stands.

-- a stream's place lies within its window
pub within_window : (window : WindowView) → IsWindow window → place_of window ≤ greatest_place
within_window window is = omega (arith, is.cursor, is.far)

-- where a live stream's raw stands
pub near : (engine : EngineView) → IsReading engine → engine.life ≡ life.Live → IsNear (reading_of engine)
near engine is live = record { after_first = omega arith; before_end = omega (arith, is.window_is.cursor); fits = omega (arith, is.window_is.held); owed_after_first = omega arith; owed_before_end = omega (arith, is.window_is.cursor); owed_before_raw = λ some. absurd (some refl); read_ahead = λ _. refl; ahead = omega (arith, is.window_is.held); behind = omega (arith, is.window_is.cursor); stands = λ tells. is.stands tells live }

-- where a stream is, and its raw
pub placed : (engine : EngineView) → IsReading engine → IsPlaced (reading_of engine)
placed engine is = record { far = within_window engine.window is.window_is; near = near engine is }

-- a stream that is opened to be read reads
pub readable : (opened : Access) (seekable : Bool) → is_read opened ≡ true → (can_of opened seekable).readable ≡ true
readable opened seekable reads = grind arith

-- the stream of an engine that reads on from the bytes held is its stream as such an engine
pub same_stream : (engine : EngineView) → IsReading engine → stream_of engine ≡ reading_of engine
same_stream engine is = grind (arith, owes_nothing)

-- What each access can do.

-- a stream that is opened to be written writes
pub writes_able : (opened : Access) (seekable : Bool) → is_written opened ≡ true → (can_of opened seekable).writable ≡ true
writes_able opened seekable writes = grind arith

-- How a call begins.

-- a call of an engine begins as one of its stream does
pub begins : (old new : EngineView) (result : Result (Unit {0}) IoFault) → BeginOutcome old result new → Begins (stream_of old) result (stream_of new)
begins old new result began = grind arith

-- what answers the engine with which a call begins answers the one that was
pub answers_from_begun : (old begun : EngineView) (call : FileCall) (reply : FileReply) (after : Stream) → BeginOutcome old (Ok tt) begun → Answers (stream_of begun) call reply after → Answers (stream_of old) call reply after
answers_from_begun old begun call reply after began answers = answers_whole (stream_of old) after call reply (subst (λ (engine : EngineView). Answers (stream_of engine) call reply after) began.1 answers)

-- an engine that forgot a wait stands as it stood
pub stands_whole : (engine : EngineView) → Stands engine → Stands (record engine { short = false })
stands_whole engine is = is

-- a live stream that is written
pub is_writing_live : (engine : EngineView) → Stands engine → is_written engine.access ≡ true → engine.life ≡ life.Live → IsWriting (begun (stream_of engine))
is_writing_live engine is writes live = grind (arith, is_sound, stands_whole, writes_able)

-- an engine that is opened to be read alone reads on from the bytes held
reads_there : (engine : EngineView) → Stands engine → engine.access ≡ access.Read → (stream_of engine).owed ≡ nothing_owed (stream_of engine).place
reads_there engine is opened = owes_nothing engine (reads_alone engine is opened)

-- Flushing.

-- bytes are held between two places that are one: none
held_there : (from place to : ℕ) → from ≡ place → to ≡ place → ◌≡◌ {A = Span} (record { from = from; to = to }) (nothing_held place)
held_there from place to first last = rw (first, last) refl

-- a window that holds nothing holds none at its place
rests_here : (engine : EngineView) → engine.raw_place ≡ place_of engine.window → IsBehind engine → engine.window.held ≡ [] → RestsHere (stream_of engine)
rests_here engine stands behind none =
    let long : length engine.window.held ≡ 0 = ap length none in
    record {
      stands = stands;
      held = held_there engine.window.begin (place_of engine.window) (end_of engine.window) (omega (arith, behind.owes.collects.end, long)) (omega (arith, behind.owes.collects.end, long));
    }

written_rests : (opened : Access) (result : Result (Unit {0}) IoFault) (engine : EngineView) → is_written opened ≡ true → IfOk result (λ done. is_written opened ≡ true → engine.raw_place ≡ place_of engine.window) → IfOk result (λ done. is_written opened ≡ true → IsBehind engine) → IfOk result (λ done. is_written opened ≡ true → engine.window.held ≡ []) → IfOk result (λ done. RestsHere (stream_of engine))
written_rests opened (Ok done) engine writes stands behind rests = rests_here engine (stands writes) (behind writes) (rests writes)
written_rests opened (Err why) engine writes stands behind rests = tt

-- a `flush` answers what passing all on came to
pub flushes : (opened : Access) (old started new : EngineView) (result : Result (Unit {0}) IoFault) → old.access ≡ opened → Stands old → BeginOutcome old (Ok tt) started → PassesAll opened (stream_of started) result (stream_of new) → IfOk result (λ done. is_written opened ≡ true → new.raw_place ≡ place_of new.window) → IfOk result (λ done. is_written opened ≡ true → IsBehind new) → IfOk result (λ done. is_written opened ≡ true → new.window.held ≡ []) → Answers (stream_of old) Flush (done_reply result) (stream_of new)
flushes access.Read old started new result opened is began passed stands behind rests = grind (arith, flush_answers, is_placed, reads_there, begins)
flushes other old started new result opened is began passed stands behind rests =
    let writes : is_written old.access ≡ true = ap is_written opened in
    flush_passes_on (stream_of old) (stream_of started) (stream_of new) result (is_writing_live old is writes began.0) (begins old started (Ok tt) began) passed (written_rests other result new refl stands behind rests)

-- Closing.

-- a `close` that passing all on refused answers that refusal
pub closing_stops : (opened : Access) (old started new : EngineView) (why : IoFault) → old.access ≡ opened → Stands old → BeginOutcome old (Ok tt) started → PassesToClose opened (stream_of started) (Err why) (stream_of new) → Answers (stream_of old) Close (Refused why) (stream_of new)
closing_stops access.Read old started new why opened is began stops = let never : Err why ≡ Ok tt = stops.0 in absurd (cc)
closing_stops other old started new why opened is began stops = close_stops (stream_of old) (stream_of started) (stream_of new) why (is_writing_live old is (ap is_written opened) began.0) (begins old started (Ok tt) began) stops

-- a stream that is read alone doesn't move its raw back
reads_stay : (engine : EngineView) → engine.access ≡ access.Read → moves_back (stream_of engine) ≡ false
reads_stay engine opened = grind arith

-- a `close` that passed all on answers what the closing of the raw came to
pub closes : (opened : Access) (old started mid new : EngineView) (result : Result (Unit {0}) IoFault) → old.access ≡ opened → Stands old → BeginOutcome old (Ok tt) started → PassesToClose opened (stream_of started) (Ok tt) (stream_of mid) → CloseRawOutcome (stream_of mid) result (stream_of new) → Answers (stream_of old) Close (done_reply result) (stream_of new)
closes access.Read old started mid new result opened is began passed shut = grind (arith, close_answers_at_once, is_sound, stands_whole, reads_there, reads_stay, begins)
closes other old started mid new result opened is began passed shut =
    close_answers (stream_of old) (stream_of started) (stream_of mid) (stream_of new) result (is_writing_live old is (ap is_written opened) began.0) (begins old started (Ok tt) began) passed shut

-- Moving.

owes_in : (opened : Access) (engine : EngineView) → engine.access ≡ opened → Stands engine → OwesBy (keeps_pending (stream_of engine)) (stream_of engine)
owes_in access.Read engine opened is = grind (arith, reads_there)
owes_in other engine opened is = grind arith

-- a stream that keeps no bytes owes nothing
pub owes_by : (engine : EngineView) → Stands engine → OwesBy (keeps_pending (stream_of engine)) (stream_of engine)
owes_by engine is = owes_in engine.access engine refl is

-- passing all on, by what the stream is opened for, is what a call that needs it goes by
pub settles_by : (opened : Access) (old new : EngineView) (result : Result (Unit {0}) IoFault) → old.access ≡ opened → PassesAll opened (stream_of old) result (stream_of new) → SettlesBy (keeps_pending (stream_of old)) (stream_of old) result (stream_of new)
settles_by opened old new result is passed = grind arith

-- what is written then holds nothing, and its raw stands at the place
pub settles_bare : (opened : Access) (old new : EngineView) (result : Result (Unit {0}) IoFault) → old.access ≡ opened → PassesAll opened (stream_of old) result (stream_of new) → IfOk result (λ done. is_written opened ≡ true → new.raw_place ≡ place_of new.window) → IfOk result (λ done. is_written opened ≡ true → IsBehind new) → IfOk result (λ done. is_written opened ≡ true → new.window.held ≡ []) → IfOk result (λ done. (stream_of old).can.writable ≡ true → StandsBare (stream_of new))
settles_bare opened old new (Err why) is passed stands behind rests = tt
settles_bare access.Read old new (Ok done) is passed stands behind rests = λ writes. absurd (let reads : false ≡ true = sym (ap (λ (opened : Access). (can_of opened old.raw.seekable).writable) is) ∙ writes in cc)
settles_bare other old new (Ok done) is passed stands behind rests = λ writes. let here : RestsHere (stream_of new) = rests_here new (stands refl) (behind refl) (rests refl) in record { none = passed.2; held = here.held; stands = here.stands }

-- Giving bytes.

-- a call that gives bytes begins, or is refused
pub begins_writing : (old new : EngineView) (result : Result (Unit {0}) IoFault) → Stands old → IsBehind old → BeginOutcome old result new → BeginsWriting (stream_of old) result (stream_of new)
begins_writing old new (Ok done) is writes began =
    let started : EngineView = record old { short = false } in
    let stands : Stands started = stands_whole old is in
    let behind : IsBehind started = record { writes = writes.writes; owes = writes.owes } in
    (subst (λ (engine : EngineView). MayTake (stream_of engine)) (sym began.1) (record { live = began.0; writes = writes_able old.access old.raw.seekable writes.writes; sound = is_sound started stands; behind = owes_behind started stands behind }), ap stream_of began.1)
begins_writing old new (Err why) is writes began = writing_refused (stream_of old) (stream_of new) why (is_placed old is) (begins old new (Err why) began)
