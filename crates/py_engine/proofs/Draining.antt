-- Passing on what a stream owes, transfer by transfer, wherever it lies in the window, and standing where a call needs the raw to stand.
use Rattle.std.proofs.Common.{[], ◌≡◌, ℕ, ◌<◌, IsTrue, Bool, true, List, length, Ok, Err, refl, ap, sym, ◌∙◌, subst, arith, length-drop, ◌≢◌, ◌+◌, ◌-◌, ◌≤◌, take, drop, ⊎_elim, Some, None, add-zero, Result}
use Rattle.py_flat.specs.declared.fault.IoFault.{IoFault}
use Rattle.py_flat.specs.declared.fault.IoFault.TheVariants as fault
use Rattle.py_flat.specs.declared.life.Life.TheVariants as life
use Rattle.py_raw.specs.RawStream.{NoWait, Raw, tells as tells_of, Keeps, StaysOpen, StandsStill, WhereTold, AsksToWait, WritesBytes}
use Rattle.py_raw.proofs.ReadingOn.{no_wait_then, no_fault_then}
use Rattle.py_stream.specs.Stream.{Stream}
use Rattle.py_stream.specs.Keeping.{IsSound}
use Rattle.py_stream.specs.Writing.{OwesBehind, NoneAtPlace, HasJust}
use Rattle.py_stream.specs.Taking.{Took, FailsTaking, Lacks}
use Rattle.py_stream.specs.Settling.{PassesJust, LivesOn, SettleOutcome, PassesSome, FailsBack}
use Rattle.py_stream.proofs.PassingOn.{just_none, just_then, just_some, just_passes, just_passed, just_took, some_fails, laid_there, lays_some, passes_nothing, moves_still, settles_then}
use Rattle.py_stream.proofs.Taking.{waited_then, waits_once_then, faulted_then, keeps_itself, keeps_then, answers_still}
use Rattle.py_engine.specs.declared.data.passing_on.Passed.TheVariants as passing
use Rattle.py_engine.specs.Passing.{StandsAtOwed, DrainOutcome, FlushOutcome, FailsPassing, WaitsPassing, OwedOutcome, StandsHere, StandsHereOutcome, AlignsOutcome, PassesAll}
use Rattle.std.proofs.lemmas.Bool.{cases_lt}
use Rattle.std.proofs.lemmas.Bool.Decides.{eqb_tells}
use Rattle.std.proofs.lemmas.List.{length-drop, drop-take, drop-drop, drop_all, length-take-le, take-take}
use Rattle.py_flat.specs.Bytes.{lay}
use Rattle.py_flat.proofs.Laying.{lay_resumes}
use Rattle.py_raw.proofs.Telling.{tells_still, tells_its_place, tells_its_bytes, keeps_same}
use Rattle.py_stream.specs.LiveRaw.{LiveView, FailsGiven}
use Rattle.py_stream.specs.declared.access.Access.{Access}
use Rattle.py_stream.specs.declared.access.Access.TheVariants as access
use Rattle.py_stream.specs.Access.{can_of, is_written}
use Rattle.py_window.specs.Window.{WindowView, IsWindow, pending_of, passed_on, flat_over, place_of, end_of, ended_at, HoldsBytes}
use Rattle.py_engine.specs.Engine.{EngineView, stream_of, HasShape, HoldsRead, Stands}
use Rattle.py_window.proofs.Collecting.{shows_itself, passed_shows}
use Rattle.py_window.proofs.Overlaying.{pending_many}
use Rattle.py_engine.proofs.Standing.{is_sound, none_over}
use Rattle.py_engine.proofs.Stepping.{engine_of, Gives}
use Rattle.py_stream.proofs.Pieces.{some_taken}
use Rattle.py_flat.specs.Owed.{Owed}
use Rattle.py_stream.specs.Answers.{moves_back}
use Rattle.py_stream.specs.Moving.{MovesRaw, MoveRawOutcome}
use Rattle.py_stream.proofs.Going.{passes_still}
use Rattle.py_engine.specs.Reading.{IsReading}
use Rattle.py_engine.specs.declared.data.passing_on.Passed.{Passed}

-- how far a passing on came: no wait was asked for yet, and the raw stands where what is left begins
pub record PassesSoFar (old now : Stream) : Type 0 where
  pub just : PassesJust old now
  pub no_wait : NoWait old.raw now.raw
  pub there : StandsAtOwed now

-- a passing on begins
pub passes_none : (old : Stream) → IsSound old → old.life ≡ life.Live → NoneAtPlace old → StandsAtOwed old → PassesSoFar old old
passes_none old sound live at there = record { just = just_none old sound live at; no_wait = λ _. refl; there = there }

-- where the raw stands once some was passed on
stands_still : (now new : Stream) → StandsAtOwed now → PassesJust now new → StandsAtOwed new
stands_still now new there just some = omega (arith, just.raw_place, there (omega (arith, subst (λ (bytes : List ℕ). 0 < length bytes) just.owed some, length-drop just.passed now.owed.bytes)), just.place (λ none. omega (arith, some, ap length none)))

-- one more transfer of what is owed went
pub passes_more : (old now new : Stream) → PassesSoFar old now → DrainOutcome now (Ok passing.All) new → PassesSoFar old new
passes_more old now new so drained = record { just = just_then old now new so.just drained.0; no_wait = no_wait_then old.raw now.raw new.raw so.just.kept.raw so.no_wait drained.1; there = stands_still now new so.there drained.0 }

-- a passing on that a wait stops
pub passes_waiting : (old now new : Stream) → PassesSoFar old now → DrainOutcome now (Ok passing.Waits) new → FlushOutcome old (Ok passing.Waits) new
passes_waiting old now new so waits = record {
  just = just_then old now new so.just waits.just;
  cause = waited_then old.raw now.raw new.raw so.just.kept.raw waits.cause;
  once = waits_once_then old.raw now.raw new.raw so.just.kept.raw so.no_wait waits.once;
  some = waits.some;
}

-- a passing on that is refused
pub passes_refused : (old now new : Stream) (why : IoFault) → PassesSoFar old now → DrainOutcome now (Err why) new → FlushOutcome old (Err why) new
passes_refused old now new fault.RawFault so fails = record {
  passes = just_some old now new so.just fails.passes;
  failed = fails.failed;
  cause = faulted_then old.raw now.raw new.raw so.just.kept.raw fails.cause;
  no_wait = no_wait_then old.raw now.raw new.raw so.just.kept.raw so.no_wait fails.no_wait;
  some = fails.some;
}
passes_refused old now new fault.NoMemory so wants = subst (λ (view : Stream). IsTrue old.raw.takes_memory × PassesJust old view × NoWait old.raw view.raw) (sym wants.1) (sym so.just.kept.raw.takes_memory ∙ wants.0, so.just, so.no_wait)
passes_refused old now new why so never = absurd never

-- Passing on all that is owed, for a call that needs it.

-- a stream that passed on just what the raw answered for lives on
pub lives_on : (old new : Stream) → PassesJust old new → LivesOn old new
lives_on old new just = record { passes = just_passes old new just; live = just.live; no_fault = just.no_fault; just = just_passed old new just.passed just.within just.owed just.told }

-- a wait is remembered
lives_waiting : (old new : Stream) → PassesJust old new → LivesOn old (record (record new { short = true }) { short = old.short })
lives_waiting old new just = subst (LivesOn old) (ap (λ (short : Bool). record new { short = short }) just.kept.short) (lives_on old new just)

-- what a passing on of all came to
pub settles : (old new : Stream) → FlushOutcome old (Ok passing.All) new → SettleOutcome old (Ok tt) new
settles old new passed = (lives_on old new passed.0, passed.1, passed.2)

pub settles_later : (old mid : Stream) → FlushOutcome old (Ok passing.Waits) mid → SettleOutcome old (Err (fault.WouldBlock 0)) (record mid { short = true })
settles_later old mid waits = (refl, lives_waiting old mid waits.just, refl, waits.cause, waits.once, waits.some)

-- a passing on of all that is refused
pub settling_refused : (old new : Stream) (why : IoFault) → FlushOutcome old (Err why) new → SettleOutcome old (Err why) new
settling_refused old new fault.RawFault fails = (fails.passes, fails.failed, fails.cause, fails.no_wait, λ none. absurd (omega (arith, fails.some, ap length none)))
settling_refused old new fault.NoMemory lacks = (lacks.0, lives_on old new lacks.1, lacks.2)
settling_refused old new why never = absurd never

-- Of a stream that owes what lies right before its place.

-- what a passing on of all is to it, which took nothing
pub flush_took : (old new : Stream) → OwesBehind old → FlushOutcome old (Ok passing.All) new → Took old [] new
flush_took old new behind passed = just_took old new behind passed.0

-- what running out of memory left of it
pub flush_lacks : (old new : Stream) → OwesBehind old → FlushOutcome old (Err fault.NoMemory) new → Lacks old [] new
flush_lacks old new behind lacks = record { takes = lacks.0; took = just_took old new behind lacks.1 }

-- what a failing of the raw left of it
pub flush_fails : (old new : Stream) → OwesBehind old → FlushOutcome old (Err fault.RawFault) new → FailsTaking old [] new
flush_fails old new behind fails = some_fails old new behind fails.passes fails.failed fails.cause fails.no_wait fails.some

-- A window of whose pending bytes some were passed on.

-- where nothing is pending, the empty range stands at the cursor
pub none_at_cursor : (window : WindowView) → IsWindow window → pending_of window ≡ [] → window.from ≡ window.to
none_at_cursor window is none = omega (arith, is.ordered, pending_many window is, ap length none)

-- the first n pending bytes were passed on
pub passed_window : (window : WindowView) (count : ℕ) → IsWindow window → count ≤ window.to - window.from → IsWindow (passed_on count window)
passed_window window count is fits = grind (arith, eqb_tells)

-- the range that is left, where some is, and where none is
passed_range : (window : WindowView) (count : ℕ) → window.from + count < window.to → ((passed_on count window).from ≡ window.from + count) × ((passed_on count window).to ≡ window.to)
passed_range window count less = grind (arith, eqb_tells)

passed_rest : (window : WindowView) (count : ℕ) → window.from + count ≡ window.to → ((passed_on count window).from ≡ window.cursor) × ((passed_on count window).to ≡ window.cursor)
passed_rest window count all = grind (arith, eqb_tells)

some_left : (window : WindowView) (count : ℕ) → window.from + count < window.to → pending_of (passed_on count window) ≡ drop count (pending_of window)
some_left window count less =
    let ends = passed_range window count less in
    let start : ℕ = window.from + count in
    let parts : count + (window.to - start) ≡ window.to - window.from = omega arith in
    ap (λ (n : ℕ). take ((passed_on count window).to - n) (drop n window.held)) ends.0
    ∙ (ap (λ (n : ℕ). take (n - start) (drop start window.held)) ends.1
    ∙ (ap (take (window.to - start)) (sym (drop-drop count window.from window.held))
    ∙ (sym (drop-take count (window.to - start) (drop window.from window.held))
    ∙ ap (λ (n : ℕ). drop count (take n (drop window.from window.held))) parts)))

none_left : (window : WindowView) (count : ℕ) → window.from + count ≡ window.to → pending_of (passed_on count window) ≡ []
none_left window count all =
    let ends = passed_rest window count all in
    let none : window.cursor - window.cursor ≡ 0 = omega arith in
    ap (λ (n : ℕ). take ((passed_on count window).to - n) (drop n window.held)) ends.0
    ∙ (ap (λ (n : ℕ). take (n - window.cursor) (drop window.cursor window.held)) ends.1
    ∙ ap (λ (n : ℕ). take n (drop window.cursor window.held)) none)

passed_within : (window : WindowView) (count : ℕ) → IsWindow window → count ≤ length (pending_of window) → window.to ≤ window.from + count → window.from + count ≡ window.to
passed_within window count is fits all = omega (arith, fits, all, pending_many window is, is.ordered)

pub pending_passed : (window : WindowView) (count : ℕ) → IsWindow window → count ≤ length (pending_of window) → pending_of (passed_on count window) ≡ drop count (pending_of window)
pending_passed window count is fits = ⊎_elim (some_left window count)
    (λ (all : window.to ≤ window.from + count). none_left window count (passed_within window count is fits all) ∙ sym (drop_all count (pending_of window) (omega (arith, all, pending_many window is))))
    (cases_lt (window.from + count) window.to)

-- those that are left stand where they stood
pub passed_there : (window : WindowView) (count : ℕ) → IsWindow window → count ≤ length (pending_of window) → pending_of (passed_on count window) ≢ [] → window.begin + (passed_on count window).from ≡ window.begin + window.from + count
passed_there window count is fits some = ⊎_elim
    (λ (less : window.from + count < window.to). omega (arith, (passed_range window count less).0))
    (λ (all : window.to ≤ window.from + count). absurd (some (none_left window count (passed_within window count is fits all))))
    (cases_lt (window.from + count) window.to)

-- where nothing is owed, its place is the stream's
pub none_at_place : (engine : EngineView) → IsWindow engine.window → NoneAtPlace (stream_of engine)
none_at_place engine is none = omega (arith, none_at_cursor engine.window is none, is.rests (none_at_cursor engine.window is none))

-- The raw took some of what it was owed.

-- where the raw of a stream that is written stands after it took n of the pending bytes
passed_shape : (opened : Access) (raw_place count : ℕ) (window : WindowView) → is_written opened ≡ true → IsWindow window → count ≤ length (pending_of window) → raw_place ≡ window.begin + window.from → HasShape opened raw_place window → HasShape opened (raw_place + count) (passed_on count window)
passed_shape access.Read raw_place count window writes is fits there shape = absurd (cc)
passed_shape access.Update raw_place count window writes is fits there shape = ⊎_elim
    (λ (less : window.from + count < window.to). let ends = passed_range window count less in record { after_begin = omega (arith, there); before_end = omega (arith, there, less, is.within); owed = λ _. omega (arith, there, ends.0) })
    (λ (all : window.to ≤ window.from + count). let same = passed_within window count is fits all in let ends = passed_rest window count same in record { after_begin = omega (arith, there); before_end = omega (arith, there, same, is.within); owed = λ some. absurd (some (ends.0 ∙ sym ends.1)) })
    (cases_lt (window.from + count) window.to)
passed_shape other raw_place count window writes is fits there shape = record { collects = (passed_shows window count window.size (window.begin + window.from) (pending_of window) fits (shows_itself window is shape.collects)).collects; stands = omega (arith, there, (passed_shows window count window.size (window.begin + window.from) (pending_of window) fits (shows_itself window is shape.collects)).place_is) }

-- what is held of a stream that is read stays the flat bytes
holds_still : (opened : Access) (before after : List ℕ) (old new : WindowView) → is_written opened ≡ true → new.begin ≡ old.begin → new.held ≡ old.held → flat_over after new ≡ flat_over before old → HoldsRead opened before old → HoldsRead opened after new
holds_still access.Read before after old new writes begin held flat holds = absurd (cc)
holds_still access.Update before after old new writes begin held flat holds = grind arith
holds_still other before after old new writes begin held flat holds = tt

module _ (old : EngineView) (raw : Raw) (count : ℕ) (is : Stands old) (writes : is_written old.access ≡ true) (live : old.life ≡ life.Live) (there : old.raw_place ≡ (stream_of old).owed.place) (keeps : Keeps old.raw raw) (stays : StaysOpen old.raw raw) (some : 0 < count) (wrote : WritesBytes old.raw (pending_of old.window) count raw) where
  -- the engine after that
  abbrev pub drained : EngineView
  drained = record old { raw = raw; raw_place = old.raw_place + count; window = passed_on count old.window }

  laid : WhereTold old.raw (raw.bytes ≡ lay old.raw.bytes (stream_of old).owed.place (take count (pending_of old.window)))
  laid tells = wrote.told tells ∙ ap (λ (place : ℕ). lay old.raw.bytes place (take count (pending_of old.window))) (is.stands (tells_its_place old.raw tells) live ∙ there)

  -- the flat bytes are as they were
  flat : WhereTold old.raw (flat_over raw.bytes (passed_on count old.window) ≡ flat_over old.raw.bytes old.window)
  flat tells =
      let place : ℕ = (stream_of old).owed.place in
      let left : List ℕ = pending_of (passed_on count old.window) in
      ap (λ (bytes : List ℕ). lay bytes (old.window.begin + (passed_on count old.window).from) left) (laid tells)
      ∙ (laid_there (lay old.raw.bytes place (take count (pending_of old.window))) (old.window.begin + (passed_on count old.window).from) (place + count) left (passed_there old.window count is.window_is wrote.fits)
      ∙ (ap (lay (lay old.raw.bytes place (take count (pending_of old.window))) (place + count)) (pending_passed old.window count is.window_is wrote.fits)
      ∙ lay_resumes old.raw.bytes place (pending_of old.window) count count (omega arith) wrote.fits))

  -- the engine stands as each does
  pub drained_stands : Stands drained
  drained_stands = record {
    window_is = passed_window old.window count is.window_is (omega (arith, wrote.fits, pending_many old.window is.window_is));
    is_open = λ lives. stays ∙ is.is_open live;
    attached = is.attached;
    shape = passed_shape old.access old.raw_place count old.window writes is.window_is wrote.fits there is.shape;
    stands = λ tells lives. let told : IsTrue old.raw.tells_place = sym keeps.tells_place ∙ tells in wrote.place told ∙ ap (λ (n : ℕ). n + count) (is.stands told live);
    told = λ tells lives. let told : IsTrue (tells_of old.raw) = subst IsTrue (tells_still old.raw raw keeps) tells in holds_still old.access old.raw.bytes raw.bytes old.window (passed_on count old.window) writes refl refl (flat told) (is.told told live);
  }

  pub drained_just : PassesJust (stream_of old) (stream_of drained)
  drained_just = record {
    kept = record { raw = keeps; stays = stays; reads = wrote.reads; buffer = refl; can = ap (can_of old.access) keeps.seekable; short = refl; sound = is_sound drained drained_stands };
    live = live;
    no_fault = wrote.no_fault (λ none. absurd (omega (arith, none, some)));
    passed = count;
    within = wrote.fits;
    answered = wrote.written;
    place = passed_there old.window count is.window_is wrote.fits;
    owed = pending_passed old.window count is.window_is wrote.fits;
    still = refl;
    at = none_at_place drained drained_stands.window_is;
    raw_place = refl;
    told = laid;
  }

-- The raw would have blocked, or failed.

-- an engine stands as it stood, where its raw's bytes and place are as they were
stands_on : (old : EngineView) (raw : Raw) → Stands old → Keeps old.raw raw → StaysOpen old.raw raw → StandsStill 1 old.raw raw → Stands (record old { raw = raw })
stands_on old raw is keeps stays still = grind (arith, tells_its_bytes, tells_still)

waits_passing : (old : EngineView) (raw : Raw) → Stands old → old.life ≡ life.Live → 0 < length (pending_of old.window) → Keeps old.raw raw → StaysOpen old.raw raw → AsksToWait old.raw raw → WaitsPassing (stream_of old) (stream_of (record old { raw = raw }))
waits_passing old raw is live some keeps stays waits =
    let stands = stands_on old raw is keeps stays waits.still in
    record {
      just = record {
        kept = record { raw = keeps; stays = stays; reads = waits.reads; buffer = refl; can = ap (can_of old.access) keeps.seekable; short = refl; sound = is_sound (record old { raw = raw }) stands };
        live = live;
        no_fault = waits.no_fault;
        passed = 0;
        within = omega arith;
        answered = waits.written;
        place = λ _. sym (add-zero (stream_of old).owed.place);
        owed = refl;
        still = refl;
        at = none_at_place (record old { raw = raw }) is.window_is;
        raw_place = sym (add-zero old.raw_place);
        told = λ tells. waits.still.bytes (tells_its_bytes old.raw tells);
      };
      cause = waits.cause;
      once = waits.once;
      some = some;
    }

fails_passing : (old : EngineView) (raw : Raw) → Stands old → old.life ≡ life.Live → old.raw_place ≡ (stream_of old).owed.place → 0 < length (pending_of old.window) → Keeps old.raw raw → StaysOpen old.raw raw → FailsGiven old.raw (pending_of old.window) raw → FailsPassing (stream_of old) (stream_of (record old { raw = raw; life = life.Failed }))
fails_passing old raw is live there some keeps stays fails =
    let failed : EngineView = record old { raw = raw; life = life.Failed } in
    let laid : WhereTold old.raw ((count : ℕ) × (count ≤ length (pending_of old.window)) × (raw.bytes ≡ lay old.raw.bytes (stream_of old).owed.place (take count (pending_of old.window)))) = λ tells.
    let told = fails.told tells in
    (told.0, told.1, told.2 ∙ ap (λ (place : ℕ). lay old.raw.bytes place (take told.0 (pending_of old.window))) (is.stands (tells_its_place old.raw tells) live ∙ there)) in
    record {
      passes = record {
        kept = record { raw = keeps; stays = stays; reads = fails.reads; buffer = refl; can = ap (can_of old.access) keeps.seekable; short = refl; sound = is_sound failed (grind arith) };
        passed = 0;
        within = omega arith;
        answered = fails.written;
        place = λ _. sym (add-zero (stream_of old).owed.place);
        owed = refl;
        still = refl;
        at = λ _. none_at_place failed is.window_is;
        stands = λ behind. there;
        lays = lays_some (stream_of old) (stream_of failed) (λ tells. ((laid tells).0, (laid tells).2));
        told = λ tells. ((laid tells).0, omega arith, (laid tells).1, (laid tells).2);
      };
      failed = refl;
      cause = fails.cause;
      no_wait = fails.no_wait;
      some = some;
    }

-- What one transfer of what is owed makes of an engine.

module _ (live : LiveView) (at : ℕ) (window : WindowView) (new : LiveView) (is : Stands (engine_of live at window)) (writes : is_written live.access ≡ true) (lives : live.life ≡ life.Live) (there : at ≡ window.begin + window.from) (some : 0 < length (pending_of window)) (keeps : Keeps live.raw new.raw) (stays : StaysOpen live.raw new.raw) where
  -- some went
  pub drains_some : (piece : List ℕ) (count : ℕ) → piece ≡ pending_of window → Gives live piece (Ok (Some count)) new → DrainOutcome (stream_of (engine_of live at window)) (Ok passing.All) (stream_of (engine_of new (at + count) (passed_on count window)))
  drains_some piece count same gives =
      let old : EngineView = engine_of live at window in
      let gave : Gives live (pending_of window) (Ok (Some count)) new = subst (λ (all : List ℕ). Gives live all (Ok (Some count)) new) same gives in
      let more : 0 < count = some_taken (pending_of window) count some gave.0.1 in
      let just = drained_just old new.raw count is writes lives there keeps stays more gave.0.0 in
      subst (λ (seen : LiveView). DrainOutcome (stream_of old) (Ok passing.All) (stream_of (engine_of seen (at + count) (passed_on count window)))) (sym gave.1)
      (just, gave.0.0.no_wait, omega (arith, ap length (pending_passed window count is.window_is gave.0.0.fits), length-drop count (pending_of window), more, gave.0.0.fits))

  pub drains_stands : (piece : List ℕ) (count : ℕ) → piece ≡ pending_of window → Gives live piece (Ok (Some count)) new → Stands (engine_of new (at + count) (passed_on count window))
  drains_stands piece count same gives =
      let gave : Gives live (pending_of window) (Ok (Some count)) new = subst (λ (all : List ℕ). Gives live all (Ok (Some count)) new) same gives in
      let more : 0 < count = some_taken (pending_of window) count some gave.0.1 in
      subst (λ (seen : LiveView). Stands (engine_of seen (at + count) (passed_on count window))) (sym gave.1)
      (drained_stands (engine_of live at window) new.raw count is writes lives there keeps stays more gave.0.0)

  -- the raw would have blocked
  pub drains_none : (piece : List ℕ) → Gives live piece (Ok None) new → DrainOutcome (stream_of (engine_of live at window)) (Ok passing.Waits) (stream_of (engine_of new at window))
  drains_none piece gives =
      subst (λ (seen : LiveView). DrainOutcome (stream_of (engine_of live at window)) (Ok passing.Waits) (stream_of (engine_of seen at window))) (sym gives.1)
      (waits_passing (engine_of live at window) new.raw is lives some keeps stays gives.0)

  -- the raw refused
  pub drains_not : (piece : List ℕ) (why : IoFault) → piece ≡ pending_of window → Gives live piece (Err why) new → DrainOutcome (stream_of (engine_of live at window)) (Err why) (stream_of (engine_of new at window))
  drains_not piece fault.RawFault same gives =
      subst (λ (seen : LiveView). DrainOutcome (stream_of (engine_of live at window)) (Err fault.RawFault) (stream_of (engine_of seen at window))) (sym gives.1)
      (fails_passing (engine_of live at window) new.raw is lives there some keeps stays (subst (λ (all : List ℕ). FailsGiven live.raw all new.raw) same gives.0))
  drains_not piece fault.NoMemory same gives = (gives.0.takes, ap (λ (seen : LiveView). stream_of (engine_of seen at window)) gives.1)
  drains_not piece why same gives = absurd gives

-- Before: the raw stands where what is owed begins.

-- all was passed on once it stands there
pub settles_moved : (old mid new : Stream) (result : Result (Unit {0}) IoFault) → MovesRaw old old.owed.place mid → SettleOutcome mid result new → SettleOutcome old result new
settles_moved old mid new result moves settles = settles_then old mid new result (grind arith) settles

-- an engine that stays as it is passed nothing on
pub stays_itself : (engine : EngineView) → Stands engine → PassesSome (stream_of engine) (stream_of engine)
stays_itself engine is = passes_nothing (stream_of engine) (stream_of engine) (record { kept = keeps_itself (stream_of engine) (is_sound engine is); bytes = λ _. refl; answered = λ _. refl; place = refl; raw_place = refl; owed = refl; held = refl })

-- nothing was passed on
lives_itself : (old : Stream) → old.life ≡ life.Live → PassesSome old old → LivesOn old old
lives_itself old live passes = record { passes = passes; live = live; no_fault = λ _. refl; just = λ tells. ap (λ (count : ℕ). lay old.raw.bytes old.owed.place (take count old.owed.bytes)) (let none : 0 ≡ length old.owed.bytes - length old.owed.bytes = omega arith in none) }

-- an engine that owes nothing has nothing to pass on
pub settles_nothing : (engine : EngineView) → Stands engine → engine.life ≡ life.Live → (stream_of engine).owed.bytes ≡ [] → SettleOutcome (stream_of engine) (Ok tt) (stream_of engine)
settles_nothing engine is live none = (lives_itself (stream_of engine) live (stays_itself engine is), λ _. refl, none)

-- the raw failed to be moved there, or wanted memory
pub settles_unmoved : (old new : Stream) (why : IoFault) (place : ℕ) → old.life ≡ life.Live → PassesSome old old → 0 < length old.owed.bytes → MoveRawOutcome old place (Err why) new → SettleOutcome old (Err why) new
settles_unmoved old new fault.RawFault place live none some fails = (passes_nothing old new fails.0.stands, fails.0.failed, fails.0.cause, fails.0.no_wait, λ left. absurd (omega (arith, some, ap length left, ap (λ (owed : Owed). length owed.bytes) fails.0.stands.owed)))
settles_unmoved old new fault.NoMemory place live none some wants = subst (λ (stream : Stream). SettleOutcome old (Err fault.NoMemory) stream) (sym wants.1) (wants.0, lives_itself old live none, λ _. refl)
settles_unmoved old new why place live none some never = absurd never

-- After: the raw stands where the call needs it.

-- what a stream owed right before its place, once nothing of it is left
none_behind : (old mid : Stream) → PassesSome old mid → mid.owed.bytes ≡ [] → OwesBehind old → OwesBehind mid
none_behind old mid passes none behind = grind arith

-- the raw stands there, once all was passed on
passes_here : (old mid new : Stream) → PassesSome old mid → mid.owed.bytes ≡ [] → StandsHere mid new → PassesSome old new
passes_here old mid new passes none here = grind (arith, keeps_then, answers_still, none_behind, tells_its_bytes)

-- told, the raw has just that still
just_here : (old mid new : Stream) → LivesOn old mid → StandsHere mid new → HasJust old new
just_here old mid new goes here tells =
    here.bytes (tells_its_bytes mid.raw (tells_still old.raw mid.raw goes.passes.kept.raw ∙ tells))
    ∙ (goes.just tells
    ∙ ap (λ (owed : Owed). lay old.raw.bytes old.owed.place (take (length old.owed.bytes - length owed.bytes) old.owed.bytes)) (sym here.owed))

pub settles_here : (old mid new : Stream) → SettleOutcome old (Ok tt) mid → StandsHere mid new → SettleOutcome old (Ok tt) new
settles_here old mid new settled here = (
  record { passes = passes_here old mid new settled.0.passes settled.2 here; live = here.life_is ∙ settled.0.live; no_fault = no_fault_then old.raw mid.raw new.raw settled.0.passes.kept.raw settled.0.no_fault here.counts.no_fault; just = just_here old mid new settled.0 here },
  no_wait_then old.raw mid.raw new.raw settled.0.passes.kept.raw settled.1 here.counts.no_wait,
  ap (λ (owed : Owed). owed.bytes) here.owed ∙ settled.2,
)

-- it failed to be moved there, or wanted memory
pub settles_not_here : (old mid new : Stream) (why : IoFault) (place : ℕ) → SettleOutcome old (Ok tt) mid → (mid.raw_place ≢ place → FailsBack mid mid) → MoveRawOutcome mid place (Err why) new → SettleOutcome old (Err why) new
settles_not_here old mid new fault.RawFault place settled back fails = (
  passes_still old mid new settled.0.passes fails.0.stands,
  fails.0.failed,
  faulted_then old.raw mid.raw new.raw settled.0.passes.kept.raw fails.0.cause,
  no_wait_then old.raw mid.raw new.raw settled.0.passes.kept.raw settled.1 fails.0.no_wait,
  λ _. let failed : FailsBack mid mid = back fails.1 in record { moves = moves_still old mid settled.0.passes.kept failed.moves; elsewhere = λ same. failed.elsewhere (sym fails.0.stands.raw_place ∙ same ∙ fails.0.stands.place) },
)
settles_not_here old mid new fault.NoMemory place settled back wants = subst (λ (stream : Stream). SettleOutcome old (Err fault.NoMemory) stream) (sym wants.1) (sym settled.0.passes.kept.raw.takes_memory ∙ wants.0, settled.0, settled.1)
settles_not_here old mid new why place settled back never = absurd never

-- Where an engine's raw has to be moved.

-- where nothing is owed, the raw of one that is only written stands at its place
pub moves_both : (engine : EngineView) → Stands engine → is_written engine.access ≡ true → (stream_of engine).owed.bytes ≡ [] → engine.raw_place ≢ place_of engine.window → moves_back (stream_of engine) ≡ true
moves_both engine is writes none elsewhere = grind (arith, none_at_cursor)

-- all was passed on, and the raw is to stand at the place
pub settles_by_here : (old mid new : EngineView) (result : Result (Unit {0}) IoFault) → SettleOutcome (stream_of old) (Ok tt) (stream_of mid) → Stands mid → is_written mid.access ≡ true → StandsHereOutcome (stream_of mid) result (stream_of new) → SettleOutcome (stream_of old) result (stream_of new)
settles_by_here old mid new (Ok done) settled is writes here = settles_here (stream_of old) (stream_of mid) (stream_of new) settled here.0
settles_by_here old mid new (Err why) settled is writes here = settles_not_here (stream_of old) (stream_of mid) (stream_of new) why (place_of mid.window) settled (λ elsewhere. record { moves = moves_both mid is writes settled.2 elsewhere; elsewhere = elsewhere }) here

-- a stream that is written passes all on
pub passes_all : (opened : Access) (old new : Stream) (result : Result (Unit {0}) IoFault) → is_written opened ≡ true → SettleOutcome old result new → PassesAll opened old result new
passes_all access.Read old new result writes passed = absurd (cc)
passes_all access.Write old new result writes passed = passed
passes_all access.Append old new result writes passed = passed
passes_all access.Update old new result writes passed = passed

-- all was passed on, and the raw is to stand after the bytes held
pub settles_by_aligning : (old mid new : EngineView) (result : Result (Unit {0}) IoFault) → SettleOutcome (stream_of old) (Ok tt) (stream_of mid) → mid.access ≡ access.Update → AlignsOutcome (stream_of mid) result (stream_of new) → SettleOutcome (stream_of old) result (stream_of new)
settles_by_aligning old mid new (Ok done) settled opened aligns = settles_here (stream_of old) (stream_of mid) (stream_of new) settled aligns
settles_by_aligning old mid new (Err why) settled opened aligns = settles_not_here (stream_of old) (stream_of mid) (stream_of new) why (end_of mid.window) settled (λ _. record { moves = grind arith; elsewhere = λ same. omega (arith, aligns.1, same) }) aligns.0

-- Letting go of the bytes held after the raw.

-- the bytes held up to a place are the raw's
ended_told : (bytes : List ℕ) (place : ℕ) (window : WindowView) → place ≤ end_of window → HoldsBytes bytes window → HoldsBytes bytes (ended_at place window)
ended_told bytes place window within holds = grind (arith, length-take-le, take-take)

-- an engine that is opened to be read and written reads on from the bytes held up to where its raw stands
pub ends_reading : (engine : EngineView) → Stands engine → engine.access ≡ access.Update → (stream_of engine).owed.bytes ≡ [] → place_of engine.window ≤ engine.raw_place → IsReading (record engine { window = ended_at engine.raw_place engine.window })
ends_reading engine is opened none behind = grind (arith, none_at_cursor, none_over, ended_told, length-take-le)

pub ends_here : (engine : EngineView) → Stands engine → IsReading (record engine { window = ended_at engine.raw_place engine.window }) → (stream_of engine).owed.bytes ≡ [] → StandsHere (stream_of engine) (stream_of (record engine { window = ended_at engine.raw_place engine.window }))
ends_here engine is reads none = grind (arith, keeps_same, none_at_place)

-- Passing on all that is owed, which no answer notes yet.

-- the raw wasn't moved where it belongs
pub owed_unmoved : (old new : Stream) (why : IoFault) (place : ℕ) → old.life ≡ life.Live → PassesSome old old → 0 < length old.owed.bytes → MoveRawOutcome old place (Err why) new → OwedOutcome old (Err why) new
owed_unmoved old new fault.RawFault place live none some fails = settles_unmoved old new fault.RawFault place live none some fails
owed_unmoved old new fault.NoMemory place live none some wants = settles_unmoved old new fault.NoMemory place live none some wants
owed_unmoved old new why place live none some never = absurd never

-- it was
pub owed_moved : (old mid new : Stream) (result : Result Passed IoFault) → MovesRaw old old.owed.place mid → FlushOutcome mid result new → OwedOutcome old result new
owed_moved old mid new (Ok passing.All) moves passed = settles_moved old mid new (Ok tt) moves (settles mid new passed)
owed_moved old mid new (Ok passing.Waits) moves waits = (settles_moved old mid (record new { short = true }) (Err (fault.WouldBlock 0)) moves (settles_later mid new waits), waits.just.kept.short ∙ moves.kept.short)
owed_moved old mid new (Err fault.RawFault) moves fails = settles_moved old mid new (Err fault.RawFault) moves (settling_refused mid new fault.RawFault fails)
owed_moved old mid new (Err fault.NoMemory) moves lacks = settles_moved old mid new (Err fault.NoMemory) moves (settling_refused mid new fault.NoMemory lacks)
owed_moved old mid new (Err why) moves never = absurd never

-- it was refused
pub owed_refused : (old new : Stream) (why : IoFault) → OwedOutcome old (Err why) new → SettleOutcome old (Err why) new
owed_refused old new fault.RawFault fails = fails
owed_refused old new fault.NoMemory lacks = lacks
owed_refused old new why never = absurd never

-- all was passed on, and the raw didn't come to stand at the place
pub owed_not_here : (old mid new : EngineView) (why : IoFault) → SettleOutcome (stream_of old) (Ok tt) (stream_of mid) → Stands mid → is_written mid.access ≡ true → StandsHereOutcome (stream_of mid) (Err why) (stream_of new) → OwedOutcome (stream_of old) (Err why) (stream_of new)
owed_not_here old mid new fault.RawFault settled is writes fails = settles_by_here old mid new (Err fault.RawFault) settled is writes fails
owed_not_here old mid new fault.NoMemory settled is writes wants = settles_by_here old mid new (Err fault.NoMemory) settled is writes wants
owed_not_here old mid new why settled is writes never = absurd never
