-- Writes of an engine that is opened to be read and written, wherever the bytes that it owes lie.
use Rattle.std.proofs.Common.{[], ◌≡◌, ◌≢◌, ℕ, ◌+◌, ◌-◌, ◌<◌, ◌≤◌, ◌⊎◌, inr, ⊎_elim, Bool, true, false, List, ◌∷◌, length, take, drop, Some, Result, Ok, Err, refl, sym, ap, ◌∙◌, subst, arith, add-zero}
use Rattle.std.proofs.lemmas.Bool.{cases_lt}
use Rattle.std.proofs.lemmas.List.{append-nil, length-drop, take_all}
use Rattle.py_flat.specs.declared.fault.IoFault.{IoFault}
use Rattle.py_flat.specs.declared.fault.IoFault.TheVariants as fault
use Rattle.py_flat.specs.declared.life.Life.TheVariants as life
use Rattle.py_flat.specs.Limits.{greatest_place}
use Rattle.py_flat.specs.Calls.{FileCall, FileReply, Refused}
use Rattle.py_flat.specs.BinaryStep.{payload}
use Rattle.py_raw.specs.RawStream.{WhereTold}
use Rattle.py_raw.proofs.Telling.{keeps_same}
use Rattle.py_stream.specs.declared.access.Access.{Access}
use Rattle.py_stream.specs.declared.access.Access.TheVariants as access
use Rattle.py_stream.specs.Access.{is_read, is_written}
use Rattle.py_stream.specs.Stream.{Stream, nothing_owed}
use Rattle.py_stream.specs.Kinds.{is_writing}
use Rattle.py_stream.specs.Answers.{Answers}
use Rattle.py_stream.specs.Writing.{OwesBehind, IsFull, first_of_both, owed_from, HasRoom}
use Rattle.py_stream.specs.Held.{KeepsBoth, OwesHeld}
use Rattle.py_stream.specs.Settling.{PassesSome, SettleOutcome}
use Rattle.py_stream.proofs.Given.{writing_refused}
use Rattle.py_stream.proofs.Giving.{writing_too_far, taken_reply}
use Rattle.py_stream.proofs.Keeping.{MayKeep, accepts_kept, fits_answers, fits_after_wait, fills_after_wait, fills_with_none, stops_failed, stops_starved}
use Rattle.py_stream.proofs.Owing.{owes_still}
use Rattle.py_stream.proofs.Settled.{settled_writes}
use Rattle.py_window.specs.Window.{WindowView, IsWindow, place_of, pending_of, owed_of, room_of, pushed, all_pending, flat_over, HoldsBytes}
use Rattle.py_window.proofs.Overlaying.{pending_many, first_is, none_rests, Overlays, FollowsOn, overlays, full}
use Rattle.py_window.proofs.Owning.{from_first, to_cursor, holds_many, all_of_it, all_many, is_some, goes_up, all_was, flat_same, is_window}
use Rattle.py_engine.specs.Engine.{EngineView, stream_of, Stands, StandsAmong, HasShape, HoldsRead, IsBehind, BeginOutcome}
use Rattle.py_engine.specs.RandomWriting.{GivesPlaced, WaitsOwing, GoesBehind, GivesOutcome, call_of, taken_all}
use Rattle.py_engine.specs.declared.data.given.Given.{Given}
use Rattle.py_engine.specs.declared.data.given.Given.TheVariants as gives
use Rattle.py_engine.specs.Passing.{OwedOutcome}
use Rattle.py_engine.proofs.Standing.{is_placed, is_sound, owes_behind, begins, answers_from_begun}
use Rattle.py_engine.proofs.Draining.{none_at_cursor, none_at_place}

-- Where an engine that is read and written stands.

-- its raw stands among the bytes held
pub among : (engine : EngineView) → Stands engine → engine.access ≡ access.Update → StandsAmong engine.raw_place engine.window
among engine is opened = subst (λ (opened : Access). HasShape opened engine.raw_place engine.window) opened is.shape

-- a call that gives bytes to a live one
pub may_keep : (engine : EngineView) (call : FileCall) → Stands engine → engine.access ≡ access.Update → engine.life ≡ life.Live → engine.short ≡ false → is_writing call ≡ true → (stream_of engine).place + length (payload call) ≤ greatest_place → MayKeep (stream_of engine) call
may_keep engine call is opened live whole writing within = record { gives = record { writing = writing; sound = is_sound engine is; live = live; can = ap is_written opened; within = within }; whole = whole; size = engine.window.size; buffered = refl }

-- Bytes put at the place.

-- what an engine is once bytes were put at its place, and its stream
pub record Overlaid (old : EngineView) (bytes : List ℕ) (new : EngineView) : Type 0 where
  pub is : Stands new
  pub keeps : KeepsBoth (stream_of old) bytes (stream_of new)

module _ (old : EngineView) (bytes : List ℕ) (is : Stands old) (opened : old.access ≡ access.Update) (some : 0 < length bytes) (room : length bytes ≤ room_of old.window) (far : place_of old.window + length bytes ≤ 9223372036854775807) (there : old.window.begin + old.window.from ≤ old.raw_place) where
  abbrev put : WindowView
  put = pushed bytes old.window

  abbrev new : EngineView
  new = record old { window = put }

  over : Overlays old.window bytes put
  over = overlays old.window bytes is.window_is some room far

  -- its raw stands among the bytes held still
  stands_among : StandsAmong old.raw_place put
  stands_among =
      let was : StandsAmong old.raw_place old.window = among old is opened in
      record {
        after_begin = omega (arith, over.first, there);
        before_end = omega (arith, over.ends, was.before_end);
        owed = λ _. omega (arith, over.first, there);
      }

  -- told, it holds the flat bytes still
  held_still : (bytes_told : List ℕ) → HoldsRead old.access bytes_told old.window → HoldsRead old.access bytes_told put
  held_still raw holds = subst (λ (opened : Access). HoldsRead opened raw put) (sym opened) ((over.lays raw (subst (λ (opened : Access). HoldsRead opened raw old.window) opened holds)).holds)

  laid_stands : Stands new
  laid_stands = record {
    window_is = over.is;
    is_open = is.is_open;
    attached = is.attached;
    shape = subst (λ (opened : Access). HasShape opened old.raw_place put) (sym opened) stands_among;
    stands = is.stands;
    told = λ tells live. held_still old.raw.bytes (is.told tells live);
  }

  -- some is owed then
  owes_some : pending_of put ≡ [] → ⊥
  owes_some none = over.some (none_at_cursor put over.is none)

  -- what was owed right before the place goes on right before it
  goes_behind : OwesBehind (stream_of old) → OwesBehind (stream_of new)
  goes_behind was =
      let follows : FollowsOn old.window bytes put = over.follows (inr was.ends) in
      record {
        ends = ⊎_elim (λ (none : pending_of put ≡ []). absurd (owes_some none)) (λ (ends : put.begin + put.from + length (pending_of put) ≡ place_of put). ends) follows.up_to;
        stands = was.stands ∙ sym follows.first;
      }

  laid_keeps : old.life ≡ life.Live → KeepsBoth (stream_of old) bytes (stream_of new)
  laid_keeps live = record {
    over = record {
      kept = record { raw = keeps_same old.raw; stays = refl; reads = λ tells. refl; buffer = ap Some over.size; can = refl; short = refl; sound = is_sound new laid_stands };
      raw = refl;
      life_is = refl;
      place = over.place;
      raw_place = refl;
      behind = λ up_to. let follows : FollowsOn old.window bytes put = over.follows up_to in (follows.pending, follows.up_to);
      at = λ _ none. absurd (owes_some none);
      stands = goes_behind;
      told = λ tells. (over.lays old.raw.bytes (subst (λ (opened : Access). HoldsRead opened old.raw.bytes old.window) opened (is.told tells live))).flat;
    };
    owes = record {
      none = λ none. absurd (owes_some none);
      from = λ _. over.first ∙ sym (first_is (pending_of old.window) bytes (old.window.begin + old.window.from) (place_of old.window) (none_rests old.window is.window_is) some);
      covers = λ _. over.covers;
    };
    held = over.ends;
  }

  pub overlaid : old.life ≡ life.Live → Overlaid old bytes new
  overlaid live = record { is = laid_stands; keeps = laid_keeps live }

-- none are put
none_put : (old : EngineView) → Stands old → KeepsBoth (stream_of old) [] (stream_of old)
none_put old is = record {
  over = record {
    kept = record { raw = keeps_same old.raw; stays = refl; reads = λ tells. refl; buffer = refl; can = refl; short = refl; sound = is_sound old is };
    raw = refl;
    life_is = refl;
    place = sym (add-zero (place_of old.window));
    raw_place = refl;
    behind = λ up_to. (sym (append-nil (pending_of old.window)), up_to);
    at = λ at. at;
    stands = λ was. was;
    told = λ tells. refl;
  };
  owes = owes_still (stream_of old).owed (place_of old.window);
  held = omega (arith, is.window_is.cursor);
}

-- some are owed where some are pending
pub some_pending : (window : WindowView) → 0 < length (pending_of window) → window.from ≢ window.to
some_pending window some none = absurd (let nothing : pending_of window ≡ [] = grind arith in omega (arith, some, ap length nothing))

-- where some are owed, the first of them doesn't lie after the raw
pub owed_there : (engine : EngineView) → Stands engine → engine.access ≡ access.Update → engine.window.from ≢ engine.window.to → engine.window.begin + engine.window.from ≤ engine.raw_place
owed_there engine is opened some = (among engine is opened).owed some

-- what an engine is once as many bytes were put at its place as there is room for
pub pushes : (old : EngineView) (bytes : List ℕ) → Stands old → old.access ≡ access.Update → length bytes ≤ room_of old.window → place_of old.window + length bytes ≤ 9223372036854775807 → (old.window.from ≡ old.window.to → old.window.begin + old.window.from ≤ old.raw_place) → old.life ≡ life.Live → Overlaid old bytes (record old { window = pushed bytes old.window })
pushes old [] is opened room far there live = record { is = is; keeps = none_put old is }
pushes old (byte ∷ more) is opened room far there live = overlaid old (byte ∷ more) is opened (omega arith) room far
    (⊎_elim
    (λ (pending : old.window.from < old.window.to). owed_there old is opened (λ none. omega (arith, pending, none)))
    (λ (none : old.window.to ≤ old.window.from). there (omega (arith, none, is.window_is.ordered)))
    (cases_lt old.window.from old.window.to))
    live

-- as many bytes as there is room for fill the buffer
pub fills : (window : WindowView) (bytes : List ℕ) → IsWindow window → 0 < length bytes → length bytes ≡ room_of window → place_of window + length bytes ≤ 9223372036854775807 → IsFull (owed_of (pushed bytes window)) (place_of (pushed bytes window)) (pushed bytes window).size
fills window bytes is some room far =
    let over : Overlays window bytes (pushed bytes window) = overlays window bytes is some (omega (arith, room)) far in
    record { up_to = omega (arith, over.first, over.place, over.size, room, some, is.cursor, is.held); owes = full window bytes is some room far ∙ sym over.size }

-- Where there is no room, all that is held becomes owed.

-- what an engine is once it owes all that it holds, and its stream
pub record AllOwed (old new : EngineView) : Type 0 where
  pub is : Stands new
  pub fills : OwesHeld (stream_of old) (stream_of new)
  pub full : IsFull (owed_of new.window) (place_of new.window) new.window.size

module _ (old : EngineView) (is : Stands old) (opened : old.access ≡ access.Update) (live : old.life ≡ life.Live) (none_fits : room_of old.window ≡ 0) where
  abbrev owing : EngineView
  owing = record old { window = all_pending old.window }

  all_stands : Stands owing
  all_stands = record {
    window_is = is_window old.window is.window_is none_fits;
    is_open = is.is_open;
    attached = is.attached;
    shape = subst (λ (opened : Access). HasShape opened old.raw_place (all_pending old.window)) (sym opened) (record {
      after_begin = (among old is opened).after_begin;
      before_end = (among old is opened).before_end;
      owed = λ _. omega (arith, (among old is opened).after_begin);
    });
    stands = is.stands;
    told = λ tells lives. subst (λ (opened : Access). HoldsRead opened old.raw.bytes (all_pending old.window)) (sym opened) (holds_all tells);
  }
    where
      holds_was : WhereTold old.raw (HoldsBytes (flat_over old.raw.bytes old.window) old.window)
      holds_was tells = subst (λ (opened : Access). HoldsRead opened old.raw.bytes old.window) opened (is.told tells live)

      holds_all : WhereTold old.raw (HoldsBytes (flat_over old.raw.bytes (all_pending old.window)) (all_pending old.window))
      holds_all tells = subst (λ (flat : List ℕ). HoldsBytes flat (all_pending old.window)) (sym (flat_same old.window is.window_is none_fits old.raw.bytes (holds_was tells))) (holds_was tells)

  -- it lies right before the place
  all_ends : old.window.begin + 0 + length (pending_of (all_pending old.window)) ≡ place_of old.window
  all_ends = omega (arith, ap length (all_of_it old.window is.window_is none_fits), to_cursor old.window is.window_is none_fits)

  pub owes_held : AllOwed old owing
  owes_held = record {
    is = all_stands;
    fills = record {
      over = record {
        kept = record { raw = keeps_same old.raw; stays = refl; reads = λ tells. refl; buffer = refl; can = refl; short = refl; sound = is_sound owing all_stands };
        raw = refl;
        life_is = refl;
        place = sym (add-zero (place_of old.window));
        raw_place = refl;
        behind = λ up_to. (all_was old.window is.window_is none_fits up_to, inr all_ends);
        at = λ _ none. absurd (is_some old.window is.window_is none_fits none);
        stands = λ was. record { ends = all_ends; stands = omega (arith, was.stands, from_first old.window is.window_is none_fits) };
        told = λ tells. flat_same old.window is.window_is none_fits old.raw.bytes (subst (λ (opened : Access). HoldsRead opened old.raw.bytes old.window) opened (is.told tells live));
      };
      some = is_some old.window is.window_is none_fits;
      leaves = goes_up old.window is.window_is none_fits;
    };
    full = record {
      up_to = omega (arith, holds_many old.window is.window_is none_fits, to_cursor old.window is.window_is none_fits);
      owes = all_many old.window is.window_is none_fits;
    };
  }

-- How a call that gives bytes begins.

-- the life refuses it
pub gives_not : (old new : EngineView) (call : FileCall) (why : IoFault) → is_writing call ≡ true → Stands old → BeginOutcome old (Err why) new → Answers (stream_of old) call (Refused why) (stream_of new)
gives_not old new call why writing is began = writing_refused (stream_of old) (stream_of new) why (is_placed old is) (begins old new (Err why) began) call writing

-- its bytes would end past the greatest place
pub gives_past : (old begun : EngineView) (call : FileCall) → is_writing call ≡ true → Stands old → old.access ≡ access.Update → BeginOutcome old (Ok tt) begun → greatest_place < place_of begun.window + length (payload call) → Answers (stream_of old) call (Refused fault.TooFar) (stream_of begun)
gives_past old begun call writing is opened began past = writing_too_far (stream_of old) (stream_of begun) call writing (is_placed old is) (ap is_written opened) (begins old begun (Ok tt) began) (subst (λ (engine : EngineView). greatest_place < place_of engine.window + length (payload call)) began.1 past)

-- Passing all on for a call that gives bytes.

module _ (old new : EngineView) (is : Stands old) (opened : old.access ≡ access.Update) (live : old.life ≡ life.Live) (whole : old.short ≡ false) where
  pub goes_on_behind : Stands new → IsBehind new → SettleOutcome (stream_of old) (Ok tt) (stream_of new) → GoesBehind old (Ok true) new
  goes_on_behind now behind settled call reply after gives answers =
      let may : MayKeep (stream_of old) call = may_keep old call is opened live whole gives.writing gives.within in
      let owes : OwesBehind (stream_of new) = owes_behind new now behind in
      let none : (stream_of new).owed ≡ nothing_owed (stream_of new).place = grind arith in
      settled_writes (stream_of old) (stream_of new) after call reply gives.writing (record {
        settled = record { live = live; writes = may.gives.can; buffered = refl; accepted = accepts_kept (stream_of old) call may; settled_by = settled };
        roomless = gives.roomless;
        none = none;
        stands = omega (arith, owes.stands, owes.ends, ap length settled.2);
      }) answers

  -- the raw failed, or memory ran out
  pub goes_refused : (why : IoFault) → OwedOutcome (stream_of old) (Err why) (stream_of new) → GoesBehind old (Err why) new
  goes_refused fault.RawFault fails call gives = stops_failed (stream_of old) (stream_of new) call (may_keep old call is opened live whole gives.writing gives.within) gives.roomless fails
  goes_refused fault.NoMemory lacks call gives = stops_starved (stream_of old) (stream_of new) call (may_keep old call is opened live whole gives.writing gives.within) gives.roomless lacks
  goes_refused why never call gives = absurd never

-- After a wait.

-- as many as don't fit, or can't be put there as the raw stands
abbrev pub NoRoom : EngineView → ℕ → Type 0
NoRoom engine count = (room_of engine.window < count) ⊎ (engine.raw_place < engine.window.begin + engine.window.from)

-- the first byte that is owed is the first that is pending; where none is, the stream's place is theirs
first_pending : (pending : List ℕ) (at place : ℕ) → (pending ≡ [] → at ≡ place) → first_of_both pending at [] place ≡ at
first_pending [] at place none = sym (none refl)
first_pending (byte ∷ more) at place none = refl

first_there : (engine : EngineView) → Stands engine → owed_from (stream_of engine) ≡ engine.window.begin + engine.window.from
first_there engine is = first_pending (pending_of engine.window) (engine.window.begin + engine.window.from) (place_of engine.window) (none_at_place engine is.window_is)

-- so the stream has no room for them either
roomless_there : (engine : EngineView) (bytes : List ℕ) → Stands engine → engine.access ≡ access.Update → NoRoom engine (length bytes) → HasRoom (stream_of engine) bytes → ⊥
roomless_there engine bytes is opened no_room has =
    let first : owed_from (stream_of engine) ≡ engine.window.begin + engine.window.from = first_there engine is in
    ⊎_elim
    (λ (beyond : room_of engine.window < length bytes). absurd (omega (arith, beyond, has.room, first)))
    (λ (behind : engine.raw_place < engine.window.begin + engine.window.from). ⊎_elim
    (λ (pending : engine.window.from < engine.window.to). absurd (omega (arith, behind, owed_there engine is opened (λ none. omega (arith, pending, none)))))
    (λ (none : engine.window.to ≤ engine.window.from).
    let nothing : pending_of engine.window ≡ [] = ap (λ (n : ℕ). take n (drop engine.window.from engine.window.held)) (let zero_is : engine.window.to - engine.window.from ≡ 0 = omega (arith, none) in zero_is) in
    absurd (omega (arith, behind, has.stands (ap is_read opened) nothing, is.window_is.rests (omega (arith, none, is.window_is.ordered)))))
    (cases_lt engine.window.from engine.window.to))
    no_room

-- bytes that had no room before the wait reach to what is owed after it
reaches_owed : (old : EngineView) (mid : Stream) (count : ℕ) → Stands old → old.access ≡ access.Update → NoRoom old count → WaitsOwing (stream_of old) mid → mid.owed.place ≤ place_of old.window + count
reaches_owed old mid count is opened no_room waits =
    let passes : PassesSome (stream_of old) mid = waits.goes.passes in
    let many : length mid.owed.bytes ≡ length (pending_of old.window) - passes.passed = ap length passes.owed ∙ length-drop passes.passed (pending_of old.window) in
    let pending : old.window.from ≢ old.window.to = some_pending old.window (omega (arith, waits.some, many)) in
    let at : mid.owed.place ≡ old.window.begin + old.window.from + passes.passed = passes.place (λ none. absurd (omega (arith, waits.some, ap length none))) in
    ⊎_elim
    (λ (beyond : room_of old.window < count). omega (arith, at, beyond, passes.within, pending_many old.window is.window_is, is.window_is.ordered, is.window_is.within, is.window_is.held, is.window_is.cursor))
    (λ (behind : old.raw_place < old.window.begin + old.window.from). absurd (omega (arith, behind, owed_there old is opened pending)))
    no_room

-- as many bytes as there is room for reach to what is owed
room_reaches : (window : WindowView) → IsWindow window → window.begin + window.from ≤ place_of window + room_of window
room_reaches window is = omega (arith, is.ordered, is.within, is.held, is.cursor)

-- What a call that gives bytes answers, wherever those lie that are owed.

-- it is a write
is_write : (given : Given) → is_writing (call_of given) ≡ true
is_write (gives.Bytes bytes) = refl
is_write (gives.Lines lines) = refl

-- it says that it took all
says_all : (given : Given) → taken_reply (call_of given) (length (payload (call_of given))) ≡ taken_all given
says_all (gives.Bytes bytes) = refl
says_all (gives.Lines lines) = refl

-- what answers the engine with which a call begins answers the one that was
pub begun_gives : (old begun after : EngineView) (given : Given) (result : Result Bool IoFault) → BeginOutcome old (Ok tt) begun → GivesOutcome begun given result after → GivesOutcome old given result after
begun_gives old begun after given (Ok true) began answers = answers_from_begun old begun (call_of given) (taken_all given) (stream_of after) began answers
begun_gives old begun after given (Ok false) began answers = λ reply left behind. answers_from_begun old begun (call_of given) reply left began (answers reply left behind)
begun_gives old begun after given (Err why) began answers = answers_from_begun old begun (call_of given) (Refused why) (stream_of after) began answers

-- the life refuses it, or its bytes would end past the greatest place
pub given_not : (old new : EngineView) (given : Given) (why : IoFault) → Stands old → BeginOutcome old (Err why) new → GivesOutcome old given (Err why) new
given_not old new given why is began = gives_not old new (call_of given) why (is_write given) is began

pub given_past : (old begun : EngineView) (given : Given) → Stands old → old.access ≡ access.Update → BeginOutcome old (Ok tt) begun → greatest_place < place_of begun.window + length (payload (call_of given)) → GivesOutcome old given (Err fault.TooFar) begun
given_past old begun given is opened began past = gives_past old begun (call_of given) (is_write given) is opened began past

module _ (old : EngineView) (given : Given) (is : Stands old) (opened : old.access ≡ access.Update) (live : old.life ≡ life.Live) (whole : old.short ≡ false) (within : place_of old.window + length (payload (call_of given)) ≤ greatest_place) where
  abbrev own : List ℕ
  own = payload (call_of given)

  pub placed : NoRoom old (length own) → GivesPlaced (stream_of old) (call_of given)
  placed no_room = record { writing = is_write given; within = within; roomless = roomless_there old own is opened no_room }

  may : MayKeep (stream_of old) (call_of given)
  may = may_keep old (call_of given) is opened live whole (is_write given) within

  all_said : (new : Stream) → Answers (stream_of old) (call_of given) (taken_reply (call_of given) (length own)) new → Answers (stream_of old) (call_of given) (taken_all given) new
  all_said new answers = subst (λ (reply : FileReply). Answers (stream_of old) (call_of given) reply new) (says_all given) answers

  -- they had room, and were put
  pub given_fit : (room : ℕ) (new : EngineView) → length own ≤ room → KeepsBoth (stream_of old) (take room own) (stream_of new) → GivesOutcome old given (Ok true) new
  given_fit room new fits keeps = all_said (stream_of new) (fits_answers (stream_of old) (stream_of new) (call_of given) may (subst (λ (bytes : List ℕ). KeepsBoth (stream_of old) bytes (stream_of new)) (take_all room own fits) keeps))

  -- there are none
  pub given_none : length own ≡ 0 → GivesOutcome old given (Ok true) old
  given_none none = given_fit 0 old (omega (arith, none)) (none_put old is)

  -- all that was owed is passed on
  pub given_behind : (mid : EngineView) → NoRoom old (length own) → GoesBehind old (Ok true) mid → GivesOutcome old given (Ok false) mid
  given_behind mid no_room goes reply after answers = goes (call_of given) reply after (placed no_room) answers

  -- what refused that refuses the call
  pub given_stopped : (mid : EngineView) (why : IoFault) → NoRoom old (length own) → GoesBehind old (Err why) mid → GivesOutcome old given (Err why) mid
  given_stopped mid why no_room goes = goes (call_of given) (placed no_room)

  module _ (mid new : EngineView) (waits : WaitsOwing (stream_of old) (stream_of mid)) (keeps : KeepsBoth (stream_of mid) (take (room_of mid.window) own) (stream_of new)) where
    -- after a wait they had room, and were put
    pub given_late : NoRoom old (length own) → length own ≤ room_of mid.window → GivesOutcome old given (Ok true) new
    given_late no_room fits = all_said (stream_of new) (fits_after_wait (stream_of old) (stream_of mid) (stream_of new) (call_of given) may (roomless_there old own is opened no_room) waits.goes waits.some
        (reaches_owed old (stream_of mid) (length own) is opened no_room waits)
        (subst (λ (bytes : List ℕ). KeepsBoth (stream_of mid) bytes (stream_of new)) (take_all (room_of mid.window) own fits) keeps))

    -- or some of them did
    pub given_some : NoRoom old (length own) → IsWindow mid.window → room_of mid.window < length own → IsFull (stream_of new).owed (stream_of new).place new.window.size → GivesOutcome old given (Err (fault.WouldBlock (room_of mid.window))) (record new { short = true })
    given_some no_room window_is less full =
        fills_after_wait (stream_of old) (stream_of mid) (stream_of new) (call_of given) (room_of mid.window) may (roomless_there old own is opened no_room) waits.goes waits.waited waits.some
        (omega (arith, room_reaches mid.window window_is, waits.goes.passes.still)) less keeps full

  -- after a wait none of them had room, and all that is held is owed
  pub given_full : (mid new : EngineView) → WaitsOwing (stream_of old) (stream_of mid) → OwesHeld (stream_of mid) (stream_of new) → NoRoom old (length own) → 0 < length own → IsFull (stream_of new).owed (stream_of new).place new.window.size → GivesOutcome old given (Err (fault.WouldBlock 0)) (record new { short = true })
  given_full mid new waits fills no_room gives full = fills_with_none (stream_of old) (stream_of mid) (stream_of new) (call_of given) may (roomless_there old own is opened no_room) waits.goes waits.waited waits.some gives fills full
