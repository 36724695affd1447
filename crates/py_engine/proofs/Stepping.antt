-- What a step of a stream that is written leaves: by its raw, where that stands, its window and its life.
use Rattle.std.proofs.Common.{[], ◌≡◌, ◌≢◌, ℕ, ◌+◌, ◌-◌, ◌<◌, ◌≤◌, IsTrue, List, ◌++◌, length, take, Option, None, Some, Result, Ok, Err, refl, sym, ap, ◌∙◌, subst, arith, add-zero, length-append}
use Rattle.std.proofs.lemmas.List.{append-nil, length-take-le, take_all, drop_all}
use Rattle.py_flat.specs.declared.fault.IoFault.{IoFault}
use Rattle.py_flat.specs.declared.fault.IoFault.TheVariants as fault
use Rattle.py_flat.specs.declared.life.Life.TheVariants as life
use Rattle.py_flat.specs.Bytes.{lay}
use Rattle.py_raw.specs.RawStream.{Raw, tells as tells_of, WhereTold, Keeps, StaysOpen, KeepsReads, AsksToWait, WritesBytes}
use Rattle.py_stream.specs.LiveRaw.{LiveView, Calls, FailsGiven, GiveOutcome}
use Rattle.py_stream.proofs.Pieces.{some_taken}
use Rattle.py_raw.proofs.Telling.{keeps_same, tells_still, tells_its_place, tells_its_bytes}
use Rattle.py_stream.specs.Access.{is_written}
use Rattle.py_stream.specs.Keeping.{KeepsOn}
use Rattle.py_stream.specs.Writing.{OwesBehind}
use Rattle.py_stream.specs.Taking.{Took, FailsTaking, CutsBack}
use Rattle.py_stream.proofs.Taking.{calm_of}
use Rattle.py_window.specs.Window.{WindowView, place_of, pending_of, pushed, emptied_at, cut_at, room_of}
use Rattle.py_engine.specs.Engine.{EngineView, stream_of, HoldsRead, Stands, IsBehind}
use Rattle.py_window.proofs.Collecting.{Shows, shows_itself, pushed_shows, cut_shows, room_left}
use Rattle.py_engine.specs.Passing.{room_behind, HandOnOutcome}
use Rattle.py_engine.proofs.Standing.{owes_behind, is_sound}
use Rattle.py_engine.proofs.Holding.{behind_shape, holds_none, holds_pushed, holds_cut}

-- By what the stream is opened for.

-- What holds of an engine after a step.

-- what an engine's window shows is what the stream owes, and the raw stands where that begins
pub record Leaves (old new : EngineView) (place : ℕ) (owed : List ℕ) : Type 0 where
  pub access : new.access ≡ old.access
  pub short : new.short ≡ old.short
  pub raw : Keeps old.raw new.raw
  pub stays : StaysOpen old.raw new.raw
  pub reads : KeepsReads old.raw new.raw
  pub shows : Shows new.window old.window.size place owed
  pub raw_place : new.raw_place ≡ place
  pub attached : new.life ≢ life.Detached
  pub stands : new.life ≡ life.Live → IsTrue new.raw.tells_place → new.raw.place ≡ place
  pub lives : new.life ≡ life.Live → old.life ≡ life.Live
  pub holds : WhereTold new.raw (new.life ≡ life.Live → HoldsRead new.access new.raw.bytes new.window)

-- the stream after a step, with what it owes
pub record Stepped (old new : EngineView) (place : ℕ) (owed : List ℕ) : Type 0 where
  pub is : Stands new
  pub kept : KeepsOn (stream_of old) (stream_of new)
  pub was : OwesBehind (stream_of old)
  pub behind : OwesBehind (stream_of new)
  pub place_is : (stream_of new).owed.place ≡ place
  pub bytes_are : (stream_of new).owed.bytes ≡ owed
  pub writes : IsBehind new

-- what a step leaves of an engine makes the stream after the step
pub stepped : (old new : EngineView) (place : ℕ) (owed : List ℕ) → Stands old → IsBehind old → Leaves old new place owed → Stepped old new place owed
stepped old new place owed is writes leaves =
    let behind : IsBehind new = record { writes = ap is_written leaves.access ∙ writes.writes; owes = record { collects = leaves.shows.collects; stands = leaves.raw_place ∙ sym leaves.shows.place_is } } in
    let stands : Stands new = record {
      window_is = leaves.shows.is;
      is_open = λ live. leaves.stays ∙ is.is_open (leaves.lives live);
      attached = leaves.attached;
      shape = behind_shape new.access new.raw_place new.window behind.writes leaves.shows.is behind.owes;
      stands = λ tells live. leaves.stands live tells ∙ sym leaves.raw_place;
      told = leaves.holds;
    } in
    record {
      is = stands;
      kept = record { raw = leaves.raw; stays = leaves.stays; reads = leaves.reads; buffer = ap Some leaves.shows.size_is; can = rw (leaves.access, leaves.raw.seekable) refl; short = leaves.short; sound = is_sound new stands };
      was = owes_behind old is writes;
      behind = owes_behind new stands behind;
      place_is = leaves.shows.place_is;
      bytes_are = leaves.shows.bytes_are;
      writes = behind;
    }

-- what the window of a stream that is written shows
pub shows_now : (engine : EngineView) → Stands engine → IsBehind engine → Shows engine.window engine.window.size (stream_of engine).owed.place (stream_of engine).owed.bytes
shows_now engine is writes = shows_itself engine.window is.window_is writes.owes.collects

-- told, the raw of a live engine stands where what it is owed begins
pub stands_there : (engine : EngineView) → Stands engine → IsBehind engine → engine.life ≡ life.Live → IsTrue engine.raw.tells_place → engine.raw.place ≡ (stream_of engine).owed.place
stands_there engine is writes live tells = is.stands tells live ∙ writes.owes.stands

-- a step that leaves the life as it was
steps_on : (old : EngineView) (raw : Raw) (raw_place : ℕ) (window : WindowView) (place : ℕ) (owed : List ℕ) → Stands old → IsBehind old → Keeps old.raw raw → StaysOpen old.raw raw → KeepsReads old.raw raw → Shows window old.window.size place owed → raw_place ≡ place → (old.life ≡ life.Live → IsTrue raw.tells_place → raw.place ≡ place) → WhereTold raw (old.life ≡ life.Live → HoldsRead old.access raw.bytes window) → Stepped old (record old { raw = raw; raw_place = raw_place; window = window }) place owed
steps_on old raw raw_place window place owed is writes keeps stays reads shows at there holds = stepped old (record old { raw = raw; raw_place = raw_place; window = window }) place owed is writes (record { access = refl; short = refl; raw = keeps; stays = stays; reads = reads; shows = shows; raw_place = at; attached = is.attached; stands = there; lives = λ live. live; holds = holds })

-- The raw would have blocked.

-- the stream took nothing, and passed nothing on, where the raw would have blocked
pub waited : (old : EngineView) (raw : Raw) → Stands old → IsBehind old → old.life ≡ life.Live → Keeps old.raw raw → StaysOpen old.raw raw → AsksToWait old.raw raw → Took (stream_of old) [] (stream_of (record old { raw = raw }))
waited old raw is writes live keeps stays waits =
    let step = steps_on old raw old.raw_place old.window (stream_of old).owed.place (stream_of old).owed.bytes is writes keeps stays waits.reads (shows_now old is writes) writes.owes.stands
    (λ lives tells.
    let told : IsTrue old.raw.tells_place = sym keeps.tells_place ∙ tells in
    waits.still.place told ∙ stands_there old is writes live told)
    (λ tells lives.
    let told : IsTrue (tells_of old.raw) = subst IsTrue (tells_still old.raw raw keeps) tells in
    subst (λ (bytes : List ℕ). HoldsRead old.access bytes old.window) (sym (waits.still.bytes (tells_its_bytes old.raw told))) (is.told told live)) in
    grind (arith, add-zero, append-nil, tells_its_bytes)

-- The raw failed while it was given what it was owed and some bytes more, or took none of them.

-- a stream whose raw fails while it is given bytes fails too, and owes what it owed
pub fails_giving : (old : EngineView) (raw : Raw) (bytes : List ℕ) → Stands old → IsBehind old → old.life ≡ life.Live → (0 < length (pending_of old.window) → bytes ≡ []) → Keeps old.raw raw → StaysOpen old.raw raw → FailsGiven old.raw (pending_of old.window ++ bytes) raw → FailsTaking (stream_of old) bytes (stream_of (record old { raw = raw; life = life.Failed }))
fails_giving old raw bytes is writes live alone keeps stays faults =
    let owed : List ℕ = pending_of old.window in
    let step = stepped old (record old { raw = raw; life = life.Failed }) (stream_of old).owed.place owed is writes (grind (arith, shows_now old is writes)) in
    record {
      kept = step.kept;
      was = step.was;
      behind = step.behind;
      failed = refl;
      cause = faults.cause;
      calm = calm_of (Some old.window.size) old.raw raw faults.no_wait;
      taken = 0;
      fits = omega arith;
      passed = 0;
      within = omega arith;
      answered = faults.written;
      place = sym (add-zero (stream_of old).owed.place);
      owed = sym (append-nil owed);
      told = λ tells.
          let laid = faults.told tells in
          record {
            laid = laid.0;
            least_is = omega arith;
            most = laid.1;
            owes = λ some. omega (arith, laid.1, length-append owed bytes, length-append owed [], ap length (alone (omega (arith, some, length-append owed []))));
            bytes = laid.2 ∙ ap (λ (place : ℕ). lay old.raw.bytes place (take laid.0 (owed ++ bytes))) (stands_there old is writes live (tells_its_place old.raw tells));
          };
    }

-- of a caller's bytes, while nothing is owed
pub fails_passing : (old : EngineView) (raw : Raw) (bytes : List ℕ) → Stands old → IsBehind old → old.life ≡ life.Live → pending_of old.window ≡ [] → Keeps old.raw raw → StaysOpen old.raw raw → FailsGiven old.raw bytes raw → FailsTaking (stream_of old) bytes (stream_of (record old { raw = raw; life = life.Failed }))
fails_passing old raw bytes is writes live none keeps stays faults =
    fails_giving old raw bytes is writes live (λ some. absurd (omega (arith, some, ap length none))) keeps stays (subst (λ (owed : List ℕ). FailsGiven old.raw (owed ++ bytes) raw) (sym none) faults)

-- Bytes are kept behind what is owed.

-- the engine after bytes were put behind those that it owed
pub kept_behind : (old : EngineView) (bytes : List ℕ) → Stands old → IsBehind old → 0 < length bytes → length bytes ≤ room_of old.window → place_of old.window + length bytes ≤ 9223372036854775807 →
    Stepped old (record old { window = pushed bytes old.window }) (stream_of old).owed.place (pending_of old.window ++ bytes)
kept_behind old bytes is writes some room far =
    steps_on old old.raw old.raw_place (pushed bytes old.window) (stream_of old).owed.place (pending_of old.window ++ bytes) is writes (keeps_same old.raw) refl (λ tells. refl)
    (pushed_shows old.window bytes old.window.size (stream_of old).owed.place (pending_of old.window) some room far (shows_now old is writes))
    writes.owes.stands (stands_there old is writes)
    (λ tells lives. holds_pushed old.access old.raw.bytes bytes old.window writes.writes is.window_is some room far (is.told tells lives))

-- the stream took bytes that the buffer has room for
pub took_kept : (old : EngineView) (bytes : List ℕ) → Stands old → IsBehind old → old.life ≡ life.Live → 0 < length bytes → length bytes ≤ room_of old.window → place_of old.window + length bytes ≤ 9223372036854775807 →
    Took (stream_of old) bytes (stream_of (record old { window = pushed bytes old.window }))
took_kept old bytes is writes live some room far =
    let step = kept_behind old bytes is writes some room far in
    grind (arith, add-zero)

-- Bytes are given straight to the raw, while nothing is owed.

-- where nothing is owed, its place is the stream's
at_place : (old : EngineView) → Stands old → IsBehind old → pending_of old.window ≡ [] → (stream_of old).owed.place ≡ place_of old.window
at_place old is writes none = omega (arith, (owes_behind old is writes).ends, ap length none)

-- the stream took n bytes that went straight to the raw
pub took_given : (old : EngineView) (raw : Raw) (bytes : List ℕ) (count : ℕ) → Stands old → IsBehind old → old.life ≡ life.Live → pending_of old.window ≡ [] → Keeps old.raw raw → StaysOpen old.raw raw → place_of old.window + length bytes ≤ 9223372036854775807 → 0 < count → WritesBytes old.raw bytes count raw →
    Took (stream_of old) (take count bytes) (stream_of (record old { raw = raw; raw_place = place_of old.window + count; window = emptied_at (place_of old.window + count) old.window }))
took_given old raw bytes count is writes live none keeps stays far some wrote =
    let place : ℕ = place_of old.window + count in
    let step = steps_on old raw place (emptied_at place old.window) place [] is writes keeps stays wrote.reads
    (record { is = record { some = is.window_is.some; cursor = omega arith; held = omega arith; far = omega (arith, far, wrote.fits); ordered = omega arith; within = omega arith; rests = λ _. refl }; collects = record { to = refl; end = refl }; size_is = refl; place_is = add-zero place; bytes_are = refl }) refl
    (λ lives tells.
    let told : IsTrue old.raw.tells_place = sym keeps.tells_place ∙ tells in
    wrote.place told ∙ ap (λ (n : ℕ). n + count) (stands_there old is writes live told ∙ at_place old is writes none))
    (λ tells lives. holds_none old.access raw.bytes place old.window) in
    let at : (stream_of old).owed.place ≡ place_of old.window = at_place old is writes none in
    grind (arith, length-take-le, drop_all, stands_there, tells_its_place, take_all)

-- What is owed is cut back.

-- the engine after what it owed was cut back to a place
pub cut_step : (old : EngineView) (start : ℕ) → Stands old → IsBehind old → (stream_of old).owed.place ≤ start → start ≤ place_of old.window → Stepped old (record old { window = cut_at start old.window }) (stream_of old).owed.place (take (start - (stream_of old).owed.place) (pending_of old.window))
cut_step old start is writes behind within = steps_on old old.raw old.raw_place (cut_at start old.window) (stream_of old).owed.place (take (start - (stream_of old).owed.place) (pending_of old.window)) is writes (keeps_same old.raw) refl (λ tells. refl)
    (cut_shows old.window start is.window_is writes.owes.collects.to behind within)
    writes.owes.stands (stands_there old is writes)
    (λ tells lives. holds_cut old.access old.raw.bytes start old.window writes.writes is.window_is writes.owes.collects.to behind within (is.told tells lives))

-- the stream drops what it owes from a place on
pub cut_back : (old : EngineView) (start : ℕ) → Stands old → IsBehind old → (stream_of old).owed.place ≤ start → start ≤ place_of old.window → CutsBack start (stream_of old) (stream_of (record old { window = cut_at start old.window }))
cut_back old start is writes behind within =
    let step = cut_step old start is writes behind within in
    record { kept = step.kept; behind = step.behind; raw = refl; life_is = refl; place = step.place_is; owed = step.bytes_are }

-- the room behind what is owed is the window's
pub room_there : (engine : EngineView) (bytes : List ℕ) → Stands engine → IsBehind engine → length bytes ≤ room_behind (stream_of engine) → length bytes ≤ room_of engine.window
room_there engine bytes is writes room = omega (arith, room, room_left engine.window writes.owes.collects)

-- What giving the raw some bytes makes of an engine.

-- an engine by its raw, with what became of its stream, by where that raw stands, and by its window
abbrev pub engine_of : LiveView → ℕ → WindowView → EngineView
engine_of live at window = record { raw = live.raw; raw_place = at; window = window; access = live.access; life = live.life; short = live.short }

-- one transfer of a piece to the raw of an engine that is written
abbrev pub Gives : LiveView → List ℕ → Result (Option ℕ) IoFault → LiveView → Type 0
Gives live piece result new = Calls (GiveOutcome live.raw piece) live.life life.Failed live.life live result new

module _ (live : LiveView) (at : ℕ) (window : WindowView) (new : LiveView) (is : Stands (engine_of live at window)) (writes : IsBehind (engine_of live at window)) (lives : live.life ≡ life.Live) (keeps : Keeps live.raw new.raw) (stays : StaysOpen live.raw new.raw) where
  -- some of a caller's bytes went
  pub hands_some : (bytes : List ℕ) (count : ℕ) → 0 < length bytes → pending_of window ≡ [] → place_of window + length bytes ≤ 9223372036854775807 → Gives live bytes (Ok (Some count)) new → HandOnOutcome (stream_of (engine_of live at window)) bytes (Ok (Some count)) (stream_of (engine_of new (place_of window + count) (emptied_at (place_of window + count) window)))
  hands_some bytes count some none far gives =
      let old : EngineView = engine_of live at window in
      let more : 0 < count = some_taken bytes count some gives.0.1 in
      subst (λ (seen : LiveView). HandOnOutcome (stream_of old) bytes (Ok (Some count)) (stream_of (engine_of seen (place_of window + count) (emptied_at (place_of window + count) window)))) (sym gives.1)
      (took_given old new.raw bytes count is writes lives none keeps stays far more gives.0.0, more, gives.0.0.fits, refl)

  -- the raw would have blocked
  pub hands_none : (bytes : List ℕ) → Gives live bytes (Ok None) new → HandOnOutcome (stream_of (engine_of live at window)) bytes (Ok None) (stream_of (engine_of new at window))
  hands_none bytes gives =
      subst (λ (seen : LiveView). HandOnOutcome (stream_of (engine_of live at window)) bytes (Ok None) (stream_of (engine_of seen at window))) (sym gives.1)
      (waited (engine_of live at window) new.raw is writes lives keeps stays gives.0, gives.0.cause)

  -- the raw refused a caller's bytes
  pub hands_not : (bytes : List ℕ) (why : IoFault) → pending_of window ≡ [] → Gives live bytes (Err why) new → HandOnOutcome (stream_of (engine_of live at window)) bytes (Err why) (stream_of (engine_of new at window))
  hands_not bytes fault.RawFault none gives =
      subst (λ (seen : LiveView). HandOnOutcome (stream_of (engine_of live at window)) bytes (Err fault.RawFault) (stream_of (engine_of seen at window))) (sym gives.1)
      (fails_passing (engine_of live at window) new.raw bytes is writes lives none keeps stays gives.0, none)
  hands_not bytes fault.NoMemory none gives = (gives.0.takes, ap (λ (seen : LiveView). stream_of (engine_of seen at window)) gives.1)
  hands_not bytes why none gives = absurd gives
