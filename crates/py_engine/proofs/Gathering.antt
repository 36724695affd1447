-- How a gathering comes from one piece to the next, and what it ends with.
use Rattle.std.proofs.Common.{[], ◌≡◌, ℕ, ◌+◌, ◌<◌, ◌≤◌, Bool, true, false, List, ◌∷◌, ◌++◌, length, take, inl, inr, ◌≢◌, Ok, Err, refl, sym, ap, subst, ◌∙◌, arith, append_assoc}
use Rattle.std.proofs.lemmas.List.{length-append, length-take, length-take-le, length-drop, take_all}
use Rattle.py_flat.specs.declared.fault.IoFault.{IoFault}
use Rattle.py_flat.specs.declared.fault.IoFault.TheVariants as fault
use Rattle.py_flat.specs.declared.life.Life.TheVariants as life
use Rattle.py_flat.specs.Bytes.{left_at}
use Rattle.py_flat.specs.Causes.{Rose}
use Rattle.py_flat.specs.BinaryStep.{IsFrontOf}
use Rattle.py_raw.specs.RawStream.{WhereTold, WherePlace, WhereTransfers, NoFault, NoWait, WaitsOnce, LeavesCounts}
use Rattle.py_stream.specs.declared.stop.Stop.TheVariants as stop
use Rattle.py_stream.proofs.Begun.{each_seen}
use Rattle.py_stream.specs.Answers.{ahead, EachBrings, LastIsNeeded}
use Rattle.py_stream.specs.Reading.{ComesNext, Gives, GathersEnough, WantsHeld, GatherOutcome}
use Rattle.py_stream.proofs.ReadingStops.{next_behind, next_parts, next_reaches, waits_once_then}
use Rattle.py_stream.proofs.ReadingOn.{WantsOn, gathers_at_end, gathers_waiting, open_asking, gathers_ok, wants_past}
use Rattle.py_window.specs.Window.{place_of, end_of, ahead_of, advanced}
use Rattle.py_engine.specs.Engine.{EngineView}
use Rattle.py_engine.specs.Reading.{reading_of, KeepsEngine, UsesUp, IsLast, Fills, FillsOutcome, StarvesWith}
use Rattle.py_lines.specs.Collecting.{HasEnough, WantsMore}
use Rattle.py_raw.proofs.ReadingOn.{no_fault_then, no_wait_then}
use Rattle.py_engine.proofs.Transfers.{held_next, keeps_then, keeps_reading, still_tells, keeps_told, keeps_advanced, keeps_failed, each_then, each_but_last, each_but_failed}

-- a part was collected, up to the cursor; where no byte was moved yet, all is as it was, and else the window holds bytes that weren't
-- held
pub record GatheredTo (old : EngineView) (part : List ℕ) (moved : Bool) (now : EngineView) : Type 0 where
  pub kept : KeepsEngine old now
  pub no_fault : NoFault old.raw now.raw
  pub live : now.life ≡ life.Live
  pub place : place_of now.window ≡ place_of old.window + length part
  pub told : WhereTold old.raw (ComesNext (reading_of old) part)
  pub no_wait : NoWait old.raw now.raw
  pub each : EachBrings 0 0 (reading_of old) (reading_of now)
  pub last : moved ≡ true → WhereTransfers old.raw (now.raw.reads.last ≡ length (ahead_of now.window))
  pub unmoved : moved ≡ false → now ≡ old
  pub further : moved ≡ true → end_of old.window ≤ place_of now.window
  pub ahead : moved ≡ true → 0 < length (ahead_of now.window)
  pub forth : moved ≡ true → end_of old.window < end_of now.window
  pub raw_forth : moved ≡ true → WherePlace old.raw (old.raw.place < now.raw.place)

-- where bytes were moved, more is wanted than was held, and all of what was collected, and some of whatever comes after it; some were
-- left, and some of them are wanted
pub record MovedSome (wanted : List ℕ → List ℕ) (old : EngineView) (part : List ℕ) (moved : Bool) : Type 0 where
  pub wants : moved ≡ true → WantsHeld wanted (reading_of old) → ⊥
  pub alone : moved ≡ true → wanted part ≡ part
  pub asks : moved ≡ true → (more : List ℕ) → more ≢ [] → length part < length (wanted (part ++ more))
  pub left : moved ≡ true → WhereTold old.raw (left_at old.raw.bytes (place_of old.window) ≢ [])
  pub asked : moved ≡ true → WhereTold old.raw (wanted (left_at old.raw.bytes (place_of old.window)) ≢ [])

-- where no more is wanted than was held, no byte was moved
unmoved_for_held : (old now : EngineView) (part : List ℕ) (moved : Bool) (wanted : List ℕ → List ℕ) → GatheredTo old part moved now → MovedSome wanted old part moved → WantsHeld wanted (reading_of old) → now ≡ old
unmoved_for_held old now part true wanted gathered some held = absurd (some.wants refl held)
unmoved_for_held old now part false wanted gathered some held = gathered.unmoved refl

-- what stands after some bytes is nothing where all is
none_behind : (xs ys : List ℕ) → xs ++ ys ≡ [] → ys ≡ []
none_behind [] ys none = none
none_behind (x ∷ xs) ys none = absurd (cc)

-- a collector that took all of a piece wants some of whatever comes
still_asks : (wanted : List ℕ → List ℕ) (before piece after behind : List ℕ) → WantsMore wanted before piece after → behind ≢ [] → wanted (after ++ behind) ≢ []
still_asks wanted before piece after behind more some none = absurd (let longer : length after < length (wanted (after ++ behind)) = more.asks behind some in omega (arith, ap length none))

-- a collector that took all of a piece also wants more by what was wanted at first
asks_first : (wanted first : List ℕ → List ℕ) (before piece after : List ℕ) → ((rest : List ℕ) → wanted rest ≡ first rest) → WantsMore wanted before piece after → WantsOn first after
asks_first wanted first before piece after same more rest some = omega (arith, more.asks rest some, ap length (same (after ++ rest)))

-- What comes next.

-- a gathering has taken a part, which is all up to the end of the window; the cursor hasn't moved over the last piece
record Took (old : EngineView) (part : List ℕ) (moved : Bool) (now : EngineView) : Type 0 where
  kept : KeepsEngine old now
  counts : LeavesCounts old.raw now.raw
  live : now.life ≡ life.Live
  place : place_of old.window ≤ place_of now.window
  end : end_of now.window ≡ place_of old.window + length part
  unmoved : moved ≡ false → now ≡ old
  told : WhereTold old.raw (ComesNext (reading_of old) part)
  each : EachBrings 0 0 (reading_of old) (reading_of now)
  forth : moved ≡ true → end_of old.window < end_of now.window
  raw_forth : moved ≡ true → WherePlace old.raw (old.raw.place < now.raw.place)

module _ (old now : EngineView) (part : List ℕ) (moved : Bool) (gathered : GatheredTo old part moved now) where
  -- what is held after the bytes that were collected comes next
  held_behind : (used : ℕ) → used ≤ length (ahead_of now.window) → WhereTold old.raw (take used (left_at old.raw.bytes (place_of old.window + length part)) ≡ take used (ahead_of now.window))
  held_behind used fits = grind (arith, keeps_told, held_next, still_tells)

  comes_with : (used : ℕ) → used ≤ length (ahead_of now.window) → WhereTold old.raw (ComesNext (reading_of old) (part ++ take used (ahead_of now.window)))
  comes_with used fits = grind (arith, length-append, length-take-le, next_behind, held_behind)

  comes_with_all : WhereTold old.raw (ComesNext (reading_of old) (part ++ ahead_of now.window))
  comes_with_all = λ tells. subst (λ (t : List ℕ). ComesNext (reading_of old) (part ++ t)) (take_all (length (ahead_of now.window)) (ahead_of now.window) (omega arith)) (comes_with (length (ahead_of now.window)) (omega arith) tells)

  -- the collector has enough with some of what is held
  gives_some : (used : ℕ) (after : List ℕ) → used ≤ length (ahead_of now.window) → after ≡ part ++ take used (ahead_of now.window) → Gives (reading_of old) after (reading_of (record now { window = advanced used now.window }))
  gives_some used after fits is =
      let kept : KeepsEngine old now = gathered.kept in
      let size : length after ≡ length part + used = ap length is ∙ (length-append part (take used (ahead_of now.window)) ∙ ap (λ (n : ℕ). length part + n) (length-take-le used (ahead_of now.window) fits)) in
      grind (arith, keeps_reading old (record now { window = advanced used now.window }) (keeps_then old now (record now { window = advanced used now.window }) kept (keeps_advanced now used kept.is fits)), gathered.place, size, comes_with)

  -- a collector that has enough wants no more of all that comes
  gathers_enough : (wanted first : List ℕ → List ℕ) (used : ℕ) (after : List ℕ) → ((rest : List ℕ) → wanted rest ≡ first rest) → HasEnough wanted part (ahead_of now.window) used after → GathersEnough first (reading_of old) after
  gathers_enough wanted first used after same enough =
      let whole : List ℕ = part ++ ahead_of now.window in
      record {
        alone = sym (same after) ∙ enough.alone;
        exact = λ tells.
            let behind : List ℕ = left_at old.raw.bytes (place_of old.window + length whole) in
            sym (same (left_at old.raw.bytes (place_of old.window)))
            ∙ (ap wanted (next_parts old.raw.bytes whole (place_of old.window) (comes_with_all tells) ∙ append_assoc part (ahead_of now.window) behind)
            ∙ enough.exact behind);
      }

  -- where bytes were moved, some of the last of them are taken
  uses_some : moved ≡ true → (wanted first : List ℕ → List ℕ) (used : ℕ) (after : List ℕ) → ((rest : List ℕ) → wanted rest ≡ first rest) → MovedSome first old part moved → HasEnough wanted part (ahead_of now.window) used after → 0 < used
  uses_some e wanted first used after same some enough =
      let rest : List ℕ = ahead_of now.window ++ [] in
      let asked : length part < length (first (part ++ rest)) = some.asks e rest (λ none. absurd (omega (arith, gathered.ahead e, ap length none, length-append (ahead_of now.window) []))) in
      let size : length after ≡ length part + used = ap length enough.takes ∙ (length-append part (take used (ahead_of now.window)) ∙ ap (λ (n : ℕ). length part + n) (length-take-le used (ahead_of now.window) enough.fits)) in
      omega (arith, ap length (sym (same (part ++ rest)) ∙ enough.exact []))

  -- a collector has enough without a call of the raw where all of it was held
  needed_enough : (is : Bool) → moved ≡ is → (wanted first : List ℕ → List ℕ) (used : ℕ) (after : List ℕ) → ((rest : List ℕ) → wanted rest ≡ first rest) → MovedSome first old part moved → HasEnough wanted part (ahead_of now.window) used after → place_of now.window + used ≤ end_of old.window → now.raw ≡ old.raw
  needed_enough false e wanted first used after same some enough within = ap (λ (engine : EngineView). engine.raw) (gathered.unmoved e)
  needed_enough true e wanted first used after same some enough within = absurd (omega (arith, gathered.further e, uses_some e wanted first used after same some enough))

  -- the last transfer was made for what the collector has
  last_needed : (is : Bool) → moved ≡ is → (wanted first : List ℕ → List ℕ) (used : ℕ) (after : List ℕ) → ((rest : List ℕ) → wanted rest ≡ first rest) → MovedSome first old part moved → HasEnough wanted part (ahead_of now.window) used after → LastIsNeeded (reading_of old) (reading_of (record now { window = advanced used now.window }))
  last_needed false e wanted first used after same some enough = inl (ap (λ (engine : EngineView). engine.raw) (gathered.unmoved e))
  last_needed true e wanted first used after same some enough = inr (λ tells. omega (arith, gathered.last e tells, gathered.kept.is.window_is.cursor, length-drop now.window.cursor now.window.held, uses_some e wanted first used after same some enough))

  -- a gathering that has enough gives what was asked for
  pub stops_enough : (new : EngineView) (wanted first : List ℕ → List ℕ) (used : ℕ) (after : List ℕ) → ((rest : List ℕ) → wanted rest ≡ first rest) → MovedSome first old part moved → record now { window = advanced used now.window } ≡ new → HasEnough wanted part (ahead_of now.window) used after → GatherOutcome first (reading_of old) (Ok stop.Enough) after (reading_of new)
  stops_enough new wanted first used after same some is enough =
      let raw : new.raw ≡ now.raw = sym (ap (λ (engine : EngineView). engine.raw) is) in
      gathers_ok first (reading_of old) stop.Enough after (reading_of new) (
        subst (λ (engine : EngineView). Gives (reading_of old) after (reading_of engine)) is (gives_some used after enough.fits enough.takes),
        subst (λ (engine : EngineView). NoWait old.raw engine.raw) is gathered.no_wait,
        subst (λ (engine : EngineView). EachBrings 0 0 (reading_of old) (reading_of engine)) is (each_seen (reading_of old) (reading_of old) (reading_of now) (reading_of (record now { window = advanced used now.window })) 0 0 refl refl refl refl gathered.each),
        record {
          held = λ _ within. raw ∙ needed_enough moved refl wanted first used after same some enough (omega (arith, within, ap (λ (engine : EngineView). place_of engine.window) is));
          last = subst (λ (engine : EngineView). LastIsNeeded (reading_of old) (reading_of engine)) is (last_needed moved refl wanted first used after same some enough);
        },
      ) (gathers_enough wanted first used after same enough) (λ held. let same : now ≡ old = unmoved_for_held old now part moved first gathered some held in
      record { raw = raw ∙ ap (λ (engine : EngineView). engine.raw) same; held = ap (λ (engine : EngineView). (reading_of engine).held) (sym is) ∙ ap (λ (engine : EngineView). (reading_of engine).held) same })

  -- the collector took all that is held
  takes_all : (after : List ℕ) → after ≡ part ++ ahead_of now.window → Took old after moved now
  takes_all after is = grind (arith, length-drop, length-append, comes_with_all)

module _ (old now : EngineView) (part : List ℕ) (moved : Bool) (took : Took old part moved now) where
  end_not_back : (is : Bool) → moved ≡ is → end_of old.window ≤ end_of now.window
  end_not_back has_moved is = grind arith

  not_back : (is : Bool) → moved ≡ is → WherePlace old.raw (old.raw.place ≤ now.raw.place)
  not_back has_moved is = grind arith

  -- all that was held was taken
  all_held : ahead (reading_of old) ≤ length part
  all_held = omega (arith, took.end, end_not_back moved refl)

  -- the window was filled anew
  filled_on : (new : EngineView) (count : ℕ) → Fills now count new → GatheredTo old part true new
  filled_on new count fills = grind (arith, keeps_then, no_fault_then, no_wait_then, each_then, end_not_back, length-drop, not_back)

  -- a window that was filled anew shows that something came after what was collected
  some_behind : (new : EngineView) (count : ℕ) → Fills now count new → WhereTold old.raw (left_at old.raw.bytes (place_of old.window + length part) ≢ [])
  some_behind new count fills = grind (arith, keeps_told, still_tells, length-take)

  -- nothing more comes, or not yet: all that was collected is given
  gives_all : (new : EngineView) (empties : ℕ) → UsesUp empties now new → Gives (reading_of old) part (reading_of new)
  gives_all new empties used = grind (arith, keeps_reading, keeps_then, no_fault_then)

  last_of : (new : EngineView) → UsesUp 1 now new → IsLast now → WhereTold old.raw (length old.raw.bytes ≤ place_of new.window)
  last_of new used last = grind (arith, keeps_told, still_tells)

  ends_at_last : (new : EngineView) (first : List ℕ → List ℕ) → first part ≡ part → WantsOn first part → UsesUp 1 now new → IsLast now → NoWait now.raw new.raw → GatherOutcome first (reading_of old) (Ok stop.End) part (reading_of new)
  ends_at_last new first alone asks used last no_wait =
      gathers_ok first (reading_of old) stop.End part (reading_of new) (
        gives_all new 1 used,
        no_wait_then old.raw now.raw new.raw took.kept.raw took.counts.no_wait no_wait,
        last_of new used last,
        each_then old now new 1 1 took.kept took.each (each_but_last now new 1 used),
      ) (gathers_at_end first (reading_of old) part alone took.told (λ tells. omega (arith, took.end, used.place, last_of new used last tells)), open_asking first part asks) (λ held. absurd (wants_past first (reading_of old) part asks all_held took.told held))

  waits_at : (new : EngineView) (first : List ℕ → List ℕ) → first part ≡ part → ((more : List ℕ) → IsFrontOf part (first (part ++ more))) → WantsOn first part → UsesUp 0 now new → Rose now.raw.waits new.raw.waits → WaitsOnce now.raw new.raw → GatherOutcome first (reading_of old) (Ok stop.Waits) part (reading_of new)
  waits_at new first alone goes_on asks used waits once =
      gathers_ok first (reading_of old) stop.Waits part (reading_of new) (
        gives_all new 0 used,
        omega (arith, took.kept.raw.waits, waits),
        used.end ∙ sym used.place,
        waits_once_then (reading_of old) (reading_of now) (reading_of new) (keeps_reading old now took.kept) took.counts.no_wait once,
        each_then old now new 1 0 took.kept took.each (each_but_last now new 0 used),
      ) (gathers_waiting first (reading_of old) part alone goes_on took.told, open_asking first part asks) (λ held. absurd (wants_past first (reading_of old) part asks all_held took.told held))

-- A piece of which all was taken.

module _ (old now : EngineView) (part after piece : List ℕ) (moved : Bool) (gathered : GatheredTo old part moved now) (wanted : List ℕ → List ℕ) (lent : piece ≡ ahead_of now.window) (more : WantsMore wanted part piece after) (new : EngineView) where
  took_piece : Took old after moved now
  took_piece = takes_all old now part moved gathered after (more.takes ∙ ap (λ (t : List ℕ). part ++ t) lent)

  -- a gathering whose window was filled anew has collected all that was held before
  pub goes_on : (count : ℕ) → Fills now count new → GatheredTo old after true new
  goes_on count fills = filled_on old now after moved took_piece new count fills

  -- a gathering whose window was filled anew wanted more than was held at first
  pub moved_some : (first : List ℕ → List ℕ) (count : ℕ) → ((rest : List ℕ) → wanted rest ≡ first rest) → Fills now count new → MovedSome first old after true
  moved_some first count same fills =
      let place : ℕ = place_of old.window in
      let behind : List ℕ = left_at old.raw.bytes (place + length after) in
      let parts : WhereTold old.raw (left_at old.raw.bytes place ≡ after ++ behind) = λ tells. next_parts old.raw.bytes after place (took_piece.told tells) in
      let some : WhereTold old.raw (behind ≢ []) = some_behind old now after moved took_piece new count fills in
      record {
        wants = λ is. wants_past first (reading_of old) after (asks_first wanted first part piece after same more) (all_held old now after moved took_piece) took_piece.told;
        alone = λ is. sym (same after) ∙ more.alone;
        asks = λ is. asks_first wanted first part piece after same more;
        left = λ is tells none. some tells (none_behind after behind (sym (parts tells) ∙ none));
        asked = λ is tells none. still_asks wanted part piece after behind more (some tells) (ap wanted (sym (parts tells)) ∙ (same (left_at old.raw.bytes place) ∙ none));
      }

  -- a gathering that comes to the end gives all that was collected
  pub stops_at_end : (first : List ℕ → List ℕ) → ((rest : List ℕ) → wanted rest ≡ first rest) → UsesUp 1 now new → IsLast now → NoWait now.raw new.raw → GatherOutcome first (reading_of old) (Ok stop.End) after (reading_of new)
  stops_at_end first same used last no_wait = ends_at_last old now after moved took_piece new first (sym (same after) ∙ more.alone) (asks_first wanted first part piece after same more) used last no_wait

  -- a gathering that a wait stops gives all that was collected
  pub stops_waiting : (first : List ℕ → List ℕ) → ((rest : List ℕ) → wanted rest ≡ first rest) → UsesUp 0 now new → Rose now.raw.waits new.raw.waits → WaitsOnce now.raw new.raw → GatherOutcome first (reading_of old) (Ok stop.Waits) after (reading_of new)
  stops_waiting first same used waits once = waits_at old now after moved took_piece new first (sym (same after) ∙ more.alone)
      (λ rest. subst (IsFrontOf after) (same (after ++ rest)) (more.goes_on rest)) (asks_first wanted first part piece after same more) used waits once

-- Where a gathering ends without enough.

-- memory ran out
pub starves_so_far : (old now new : EngineView) (part after : List ℕ) (moved : Bool) (first : List ℕ → List ℕ) → GatheredTo old part moved now → MovedSome first old part moved → StarvesWith moved now new → GatherOutcome first (reading_of old) (Err fault.NoMemory) after (reading_of new)
starves_so_far old now new part after false first gathered some starves = grind arith
starves_so_far old now new part after true first gathered some starves =
    subst (λ (engine : EngineView). GatherOutcome first (reading_of old) (Err fault.NoMemory) after (reading_of engine)) (sym starves) (record {
      stops = inr (record {
        kept = keeps_reading old (record now { life = life.Failed }) (keeps_then old now (record now { life = life.Failed }) gathered.kept (keeps_failed now gathered.kept.is));
        counts = record { no_fault = gathered.no_fault; no_wait = gathered.no_wait };
        failed = refl;
        forth = omega (arith, gathered.place);
        reach = next_reaches (reading_of old) (reading_of (record now { life = life.Failed })) part gathered.place gathered.told;
        further = gathered.forth refl;
        stands = gathered.raw_forth refl;
        some = some.left refl;
        each = each_seen (reading_of old) (reading_of old) (reading_of now) (reading_of (record now { life = life.Failed })) 0 0 refl refl refl refl gathered.each;
      });
      gathers = tt;
      starves = λ failed. some.asked refl;
      idle = λ held. absurd (some.wants refl held);
      within = λ most bound. omega (arith, gathered.place, bound part, ap length (some.alone refl));
    })

-- the raw failed, which is called only where something is wanted
pub fails_so_far : (old now new : EngineView) (part after : List ℕ) (moved : Bool) (wanted first : List ℕ → List ℕ) (piece : List ℕ) (why : IoFault) → GatheredTo old part moved now → MovedSome first old part moved → piece ≡ ahead_of now.window → ((rest : List ℕ) → wanted rest ≡ first rest) → WantsMore wanted part piece after → FillsOutcome now moved (Err why) new → GatherOutcome first (reading_of old) (Err why) after (reading_of new)
fails_so_far old now new part after moved wanted first piece fault.RawFault gathered some lent same more fails =
    let took : Took old after moved now = takes_all old now part moved gathered after (more.takes ∙ ap (λ (t : List ℕ). part ++ t) lent) in
    let place : place_of new.window ≡ place_of old.window + length after = omega (arith, took.end, fails.place) in
    record {
      stops = record {
        kept = keeps_reading old new (keeps_then old now new gathered.kept fails.kept);
        cause = omega (arith, gathered.kept.raw.faults, fails.cause);
        no_wait = no_wait_then old.raw now.raw new.raw gathered.kept.raw gathered.no_wait fails.no_wait;
        failed = fails.failed;
        forth = omega (arith, place);
        reach = next_reaches (reading_of old) (reading_of new) after place took.told;
        each = each_then old now new 1 0 gathered.kept gathered.each (each_but_failed now new fails);
      };
      gathers = tt;
      starves = tt;
      idle = λ held. absurd (wants_past first (reading_of old) after (asks_first wanted first part piece after same more) (all_held old now after moved took) took.told held);
      within = λ most bound. omega (arith, place, bound after, ap length (sym (same after) ∙ more.alone));
    }
fails_so_far old now new part after moved wanted first piece fault.NoMemory gathered some lent same more fails = starves_so_far old now new part after moved first gathered some fails.1
fails_so_far old now new part after moved wanted first piece why gathered some lent same more fails = absurd fails
