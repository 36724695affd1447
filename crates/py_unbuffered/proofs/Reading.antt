-- Readings of an engine without a buffer, as readings of the stream that it is, from one transfer or byte to the next.
use Rattle.std.proofs.Common.{[], ◌≡◌, ◌≢◌, ℕ, ◌+◌, ◌<◌, ◌≤◌, inl, inr, Bool, true, false, IsTrue, List, ◌∷◌, ◌++◌, length, take, Ok, refl, sym, ap, ◌∙◌, subst, arith, not, Option, Some, None, is_none, Err, append_assoc}
use Rattle.std.proofs.lemmas.List.{length-append, length-take, length-take-le, take_all, take-take, drop_all, append-nil}
use Rattle.py_flat.specs.declared.life.Life.TheVariants as life
use Rattle.py_flat.specs.Bytes.{left_at}
use Rattle.py_lines.proofs.Asking.{some_length}
use Rattle.py_raw.specs.RawStream.{LeavesCounts, AnswersFor, WhereTold, WherePlace, WhereTransfers, KeepsBytes, KeepsReads, tells}
use Rattle.py_raw.proofs.Telling.{tells_its_bytes, tells_still}
use Rattle.py_stream.specs.declared.stop.Stop.TheVariants as stop
use Rattle.py_stream.specs.Answers.{EachBrings, LastIsNeeded, Answers}
use Rattle.py_stream.proofs.Begun.{came_unread, came_none, each_still, each_seen, each_then, each_brought, each_but_one, last_brought, came_once, read_once, one_unread}
use Rattle.py_stream.specs.Reading.{KeepsReading, ComesNext, FailsReading, FailsMoved, StarvesReading, StopOutcome, Gives, WantsHeld, StarvesWanting, GatherOutcome}
use Rattle.py_stream.proofs.ReadingStops.{uncounted, next_behind, next_reaches, keeps_then as keeps_then_reading, reads_once, asks_for, moves_by, answers_once, unready_once, faulted_once, unmoved_once, next_parts}
use Rattle.py_unbuffered.specs.Engine.{EngineView, stream_of, IsEngine, KeepsEngine, Waits, Fails, StarvesWith, Brings, TransferOutcome}
use Rattle.py_unbuffered.proofs.Begun.{bufferless, keeps_self, keeps_then, keeps_failed, keeps_reading, answers_none, answers_none_then}
use Rattle.py_raw.proofs.ReadingOn.{no_fault_then, no_wait_then, uncounted_then}
use Rattle.std.specs.Option.{is_some}
use Rattle.py_flat.specs.declared.fault.IoFault.{IoFault}
use Rattle.py_flat.specs.declared.fault.IoFault.TheVariants as fault
use Rattle.py_flat.specs.Calls.{FileCall, Read, ReadInto, Refused}
use Rattle.py_stream.specs.Kinds.{asks_none}
use Rattle.py_stream.specs.Replies.{into_reply}
use Rattle.py_stream.proofs.ReadingAnswers.{Reads}
use Rattle.py_stream.proofs.ReadingOn.{comes_front, WantsOn, gathers_at_end, gathers_waiting, open_asking, gathers_ok, wants_past}
use Rattle.py_flat.specs.BinaryStep.{IsFrontOf}
use Rattle.py_lines.specs.Collecting.{HasEnough, WantsMore}

-- a reading has taken a part, at least one byte by each transfer, the last too: told, the next ones; it began live, where its raw stood
pub record Took (old : EngineView) (part : List ℕ) (now : EngineView) : Type 0 where
  pub began : old.life ≡ life.Live
  pub stands : WherePlace old.raw (old.raw.place ≡ old.place)
  pub kept : KeepsEngine old now
  pub counts : LeavesCounts old.raw now.raw
  pub answered : AnswersFor 0 old.raw now.raw
  pub live : now.life ≡ life.Live
  pub place : now.place ≡ old.place + length part
  pub none : part ≡ [] → now ≡ old
  pub bytes : KeepsBytes old.raw now.raw
  pub told : WhereTold old.raw (ComesNext (stream_of old) part)
  pub each : EachBrings 0 0 (stream_of old) (stream_of now)
  pub last : part ≢ [] → WhereTransfers old.raw (0 < now.raw.reads.last)

-- a reading has taken nothing before the first transfer
pub took_none : (old : EngineView) → IsEngine old.raw old.place old.access old.life → old.life ≡ life.Live → Took old [] old
took_none old is live = grind (arith, keeps_self, uncounted, answers_none, each_still)

module _ (old now : EngineView) (part : List ℕ) (took : Took old part now) where
  -- a raw that told its bytes and its place tells both still
  still_tells : IsTrue (tells old.raw) → IsTrue (tells now.raw)
  still_tells told = tells_still old.raw now.raw took.kept.raw ∙ told

  -- a step that leaves the raw's bytes leaves those with which the reading began
  bytes_then : (new : EngineView) → KeepsBytes now.raw new.raw → KeepsBytes old.raw new.raw
  bytes_then new same = λ tells. same (took.kept.raw.tells_bytes ∙ tells) ∙ took.bytes tells

  -- what a transfer brings comes after what was taken
  brings_next : (before : List ℕ) (count : ℕ) (after : List ℕ) (new : EngineView) → Brings now before count after new → WhereTold old.raw (take (length (part ++ take count after)) (left_at old.raw.bytes old.place) ≡ part ++ take count after)
  brings_next before count after new brings = grind (arith, length-append, length-take-le, next_behind, tells_its_bytes, still_tells)

  -- one more transfer brought some bytes
  pub took_on : (before : List ℕ) (count : ℕ) (after : List ℕ) (new : EngineView) → Brings now before count after new → 0 < count → Took old (part ++ take count after) new
  took_on before count after new brings some =
      let long : length (part ++ take count after) ≡ length part + count = length-append part (take count after) ∙ ap (λ (n : ℕ). length part + n) (length-take-le count after brings.fits) in
      grind (arith, keeps_then, uncounted_then, answers_none_then, bytes_then, brings_next, each_then, each_brought, last_brought)

  -- the last transfer was made for what was taken
  last_needed : (came : List ℕ) → part ≡ came → LastIsNeeded (stream_of old) (stream_of now)
  last_needed [] is = inl (ap (λ (engine : EngineView). engine.raw) (took.none is))
  last_needed (byte ∷ more) is = inr (λ tells. omega (arith, took.last (λ none. absurd (let both : byte ∷ more ≡ [] = sym is ∙ none in cc)) tells))

  -- what was taken is given
  pub gives_taken : StopOutcome (stream_of old) part (Ok stop.Enough) (stream_of now)
  gives_taken = grind (arith, last_needed, keeps_reading, bufferless)

  -- what a step after what was taken keeps of the engine
  keeps_on : (new : EngineView) → KeepsEngine now new → KeepsBytes now.raw new.raw → AnswersFor 0 now.raw new.raw → KeepsReading (stream_of old) (stream_of new)
  keeps_on new kept bytes answered = keeps_then_reading (stream_of old) (stream_of now) (stream_of new) (keeps_reading old now took.kept took.bytes took.answered) (keeps_reading now new kept bytes answered)

  -- nothing came any more
  pub stops_at_end : (before : List ℕ) (after : List ℕ) (new : EngineView) → Brings now before 0 after new → before ≢ [] → StopOutcome (stream_of old) part (Ok stop.End) (stream_of new)
  stops_at_end before after new brings asked = grind (arith, each_then, each_but_one, came_none, keeps_on, no_fault_then, no_wait_then, still_tells, tells_its_bytes)

  -- a transfer more, which would have blocked or failed
  each_unread : (new : EngineView) → new.place ≡ now.place → WhereTransfers now.raw (new.raw.transfers ≤ now.raw.transfers + 1) → KeepsReads now.raw new.raw → EachBrings 1 0 (stream_of old) (stream_of new)
  each_unread new place transfers reads = each_then (stream_of old) (stream_of now) (stream_of new) 1 0 took.kept.raw took.each (each_but_one (stream_of now) (stream_of new) 0 place transfers (came_unread (stream_of now) (stream_of new) place reads))

  -- the raw would have blocked
  pub stops_waiting : (new : EngineView) → Waits now new → StopOutcome (stream_of old) part (Ok stop.Waits) (stream_of new)
  stops_waiting new waits = grind (arith, each_unread, keeps_on, no_fault_then)

  -- the raw failed
  pub fails_after : (new : EngineView) → Fails now new → FailsReading (stream_of old) (stream_of new)
  fails_after new fails = record {
    kept = keeps_on new fails.kept fails.bytes fails.answered;
    cause = omega (arith, took.kept.raw.faults, fails.cause);
    no_wait = no_wait_then old.raw now.raw new.raw took.kept.raw took.counts.no_wait fails.no_wait;
    failed = fails.failed;
    forth = omega (arith, fails.place, took.place);
    reach = next_reaches (stream_of old) (stream_of new) part (fails.place ∙ took.place) took.told;
    each = each_unread new fails.place fails.transfers fails.reads;
  }

  -- memory ran out once bytes had moved
  starves_moved : part ≢ [] → FailsMoved (stream_of old) (stream_of (record now { life = life.Failed }))
  starves_moved some = record {
    kept = keeps_on (record now { life = life.Failed }) (keeps_failed now took.kept.is) (λ tells. refl) (answers_none now.raw now.raw refl);
    counts = took.counts;
    failed = refl;
    forth = omega (arith, took.place);
    reach = next_reaches (stream_of old) (stream_of (record now { life = life.Failed })) part took.place took.told;
    further = omega (arith, took.place, some_length part some);
    stands = λ tells. omega (arith, took.place, some_length part some, took.stands tells, took.kept.is.stands (took.kept.raw.tells_place ∙ tells) took.live);
    some = λ tells none. absurd (omega (arith, some_length part some, ap length (took.told tells), ap (λ (left : List ℕ). length (take (length part) left)) none, length-take {A = ℕ} (length part) []));
    each = each_seen (stream_of old) (stream_of old) (stream_of now) (stream_of (record now { life = life.Failed })) 0 0 refl refl refl refl took.each;
  }

  -- memory ran out, which fails the stream where bytes had moved
  pub starves_after : (moved : Bool) (new : EngineView) → (moved ≡ true → part ≢ []) → (moved ≡ false → part ≡ []) → StarvesWith moved now new → StarvesReading (stream_of old) (stream_of new)
  starves_after true new some none starves = inr (subst (λ (engine : EngineView). FailsMoved (stream_of old) (stream_of engine)) (sym starves) (starves_moved (some refl)))
  starves_after false new some none starves = inl (ap stream_of (starves ∙ took.none (none refl)))

-- Readings by one transfer.

-- no byte came into a buffer: the buffer is empty, or nothing is left
none_left : (before bytes : List ℕ) (size place : ℕ) → length before ≡ size → (before ≢ [] → length bytes ≤ place) → take size (left_at bytes place) ≡ []
none_left [] bytes size place long end = let none : size ≡ 0 = sym long in ap (λ (n : ℕ). take n (left_at bytes place)) none
none_left (byte ∷ before) bytes size place long end = ap (take size) (drop_all place bytes (end (λ none. cc))) ∙ take_all size [] (omega arith)

moves_all : (call : FileCall) (count : ℕ) → reads_once None call ≡ true → moves_by call count ≡ count
moves_all call count once = grind arith

asks_always : (call : FileCall) → reads_once None call ≡ true → asks_none None call ≡ false
asks_always (Read (Some size)) once = refl
asks_always (ReadInto size) once = refl
asks_always call once = absurd (cc)

module _ (old mid : EngineView) (call : FileCall) (before after : List ℕ) (once : reads_once None call ≡ true) (begun : Reads (stream_of old)) where
  -- a reading by one transfer was answered
  pub once_came : (count : Option ℕ) → length before ≡ asks_for 0 call → length after ≡ asks_for 0 call → TransferOutcome old false before (Ok count) after mid → Answers (stream_of old) call (into_reply (Ok count) after) (stream_of (record mid { short = is_none count }))
  once_came (Some count) long same_long came =
      let part : List ℕ = take count after in
      let left : List ℕ = left_at old.raw.bytes old.place in
      let size : length part ≡ count = length-take-le count after came.fits in
      answers_once (stream_of old) (stream_of mid) call part once begun (grind (arith, keeps_reading, asks_always, bufferless, moves_all, came_once, read_once, comes_front, asks_for, take-take, none_left))
  once_came None long same_long came =
      let given : Gives (stream_of old) [] (stream_of mid) = record { kept = keeps_reading old mid came.kept came.bytes came.answered; no_fault = came.no_fault; live = came.live; place = omega (arith, came.place); told = λ _. refl } in
      unready_once (stream_of old) (stream_of mid) call once (asks_always call once) begun given came.cause refl came.once (one_unread (stream_of old) (stream_of mid) came.place came.transfers came.reads) (λ buffered. absurd (cc))

  -- the transfer of a reading was refused
  pub once_refused : (why : IoFault) → TransferOutcome old false before (Err why) after mid → Answers (stream_of old) call (Refused why) (stream_of mid)
  once_refused fault.RawFault fails =
      let came = came_unread (stream_of old) (stream_of mid) fails.place fails.reads in
      let failed : FailsReading (stream_of old) (stream_of mid) = record { kept = keeps_reading old mid fails.kept fails.bytes fails.answered; cause = fails.cause; no_wait = fails.no_wait; failed = fails.failed; forth = omega (arith, fails.place); reach = λ _. omega (arith, fails.place); each = each_but_one (stream_of old) (stream_of mid) 0 fails.place fails.transfers came } in
      faulted_once (stream_of old) (stream_of mid) call once (asks_always call once) begun failed fails.place (one_unread (stream_of old) (stream_of mid) fails.place fails.transfers fails.reads) (λ buffered. absurd (cc))
  once_refused fault.NoMemory wants = subst (λ (engine : EngineView). Answers (stream_of old) call (Refused fault.NoMemory) (stream_of engine)) (sym wants.1) (unmoved_once (stream_of old) call once begun wants.0)
  once_refused why never = absurd never

-- a count is none where the test says so
none_is : (count : Option ℕ) (none : Bool) → is_some count ≡ not none → none ≡ is_none count
none_is None true is = refl
none_is None false is = absurd (cc)
none_is (Some count) true is = absurd (cc)
none_is (Some count) false is = refl

-- a reading by one transfer was answered, by what was found of the count
pub once_counted : (old mid new : EngineView) (call : FileCall) (before after : List ℕ) (count : Option ℕ) (none : Bool) → reads_once None call ≡ true → length before ≡ asks_for 0 call → length after ≡ asks_for 0 call → Reads (stream_of old) → TransferOutcome old false before (Ok count) after mid → is_some count ≡ not none → record mid { short = none } ≡ new → Answers (stream_of old) call (into_reply (Ok count) after) (stream_of new)
once_counted old mid new call before after count none once long same_long begun came found is =
    let same : record mid { short = is_none count } ≡ new = ap (λ (cut : Bool). let cut_engine : EngineView = record mid { short = cut } in cut_engine) (sym (none_is count none found)) ∙ is in
    subst (λ (engine : EngineView). Answers (stream_of old) call (into_reply (Ok count) after) (stream_of engine)) same (once_came old mid call before after once begun count long same_long came)

-- what was taken was collected, and all of it is wanted, with some of whatever comes after it; nothing was taken where no byte was moved
pub record GatheredTo (wanted : List ℕ → List ℕ) (old : EngineView) (part : List ℕ) (moved : Bool) (now : EngineView) : Type 0 where
  pub took : Took old part now
  pub alone : wanted part ≡ part
  pub goes_on : (more : List ℕ) → IsFrontOf part (wanted (part ++ more))
  pub asks : WantsOn wanted part
  pub some : moved ≡ true → part ≢ []
  pub none : moved ≡ false → part ≡ []

-- nothing is gathered before the first byte
pub gathered_none : (wanted : List ℕ → List ℕ) (old : EngineView) (part : List ℕ) → part ≡ [] → IsEngine old.raw old.place old.access old.life → old.life ≡ life.Live → wanted [] ≡ [] → ((more : List ℕ) → more ≢ [] → wanted more ≢ []) → GatheredTo wanted old part false old
gathered_none wanted old part nothing is live alone asks = subst (λ (xs : List ℕ). GatheredTo wanted old xs false old) (sym nothing) (grind (arith, took_none, some_length))

module _ (wanted : List ℕ → List ℕ) (old now : EngineView) (part : List ℕ) (moved : Bool) (gathered : GatheredTo wanted old part moved now) where
  -- more is wanted than is held, which is nothing
  past_held : WantsHeld wanted (stream_of old) → ⊥
  past_held held = wants_past wanted (stream_of old) part gathered.asks (omega arith) gathered.took.told held

  -- nothing came any more
  pub gather_ends : (before : List ℕ) (count : ℕ) (after : List ℕ) (new : EngineView) → count ≡ 0 → Brings now before count after new → before ≢ [] → GatherOutcome wanted (stream_of old) (Ok stop.End) part (stream_of new)
  gather_ends before count after new none brings asked =
      let last : Brings now before 0 after new = subst (λ (n : ℕ). Brings now before n after new) none brings in
      let stopped = stops_at_end old now part gathered.took before after new last asked in
      gathers_ok wanted (stream_of old) stop.End part (stream_of new) stopped (gathers_at_end wanted (stream_of old) part gathered.alone gathered.took.told (λ tells. let place = stopped.0.place in omega (arith, place, stopped.2 tells)), open_asking wanted part gathered.asks) (λ held. absurd (past_held held))

  -- the raw would have blocked
  pub gather_waits : (new : EngineView) → Waits now new → GatherOutcome wanted (stream_of old) (Ok stop.Waits) part (stream_of new)
  gather_waits new waits = gathers_ok wanted (stream_of old) stop.Waits part (stream_of new) (stops_waiting old now part gathered.took new waits) (gathers_waiting wanted (stream_of old) part gathered.alone gathered.goes_on gathered.took.told, open_asking wanted part gathered.asks) (λ held. absurd (past_held held))

  -- what was collected is no more than may be wanted
  within_collected : (place : ℕ) → place ≡ old.place + length part → (most : ℕ) → ((bytes : List ℕ) → length (wanted bytes) ≤ most) → place ≤ old.place + most
  within_collected place is most bound = omega (arith, is, bound part, ap length gathered.alone)

  -- where something was collected, something is wanted
  some_wanted : part ≢ [] → WhereTold old.raw (wanted (left_at old.raw.bytes old.place) ≢ [])
  some_wanted some tells none =
      let front = (gathers_waiting wanted (stream_of old) part gathered.alone gathered.goes_on gathered.took.told).front tells in
      absurd (omega (arith, some_length part some, length-append part front.0, ap length front.1, ap length none))

  starves_wanting : (flag : Bool) (new : EngineView) → (flag ≡ true → part ≢ []) → StarvesWith flag now new → StarvesWanting wanted (stream_of old) (Err fault.NoMemory) (stream_of new)
  starves_wanting true new some starves failed = some_wanted (some refl)
  starves_wanting false new some starves failed = absurd (let both : life.Failed ≡ life.Live = sym failed ∙ ap (λ (e : EngineView). e.life) starves ∙ gathered.took.live in cc)

  -- the raw failed, or ran out of memory
  pub gather_refused : (before : List ℕ) (why : IoFault) (after any : List ℕ) (new : EngineView) → TransferOutcome now moved before (Err why) after new → GatherOutcome wanted (stream_of old) (Err why) any (stream_of new)
  gather_refused before fault.RawFault after any new outcome = grind (arith, fails_after, past_held, within_collected)
  gather_refused before fault.NoMemory after any new outcome = record {
    stops = starves_after old now part gathered.took moved new gathered.some gathered.none outcome.1;
    gathers = tt;
    starves = starves_wanting moved new gathered.some outcome.1;
    idle = λ held. absurd (past_held held);
    within = within_collected new.place (ap (λ (e : EngineView). e.place) outcome.1 ∙ gathered.took.place);
  }
  gather_refused before why after any new outcome = absurd outcome

  module _ (before : List ℕ) (count : ℕ) (piece : List ℕ) (new : EngineView) (brings : Brings now before count piece new) (some : 0 < count) (single : length piece ≡ 1) where
    -- all of the piece came
    whole_came : take count piece ≡ piece
    whole_came = take_all count piece (omega arith)

    -- a piece that came was taken
    took_piece : Took old (part ++ piece) new
    took_piece = subst (λ (xs : List ℕ). Took old (part ++ xs) new) whole_came (took_on old now part gathered.took before count piece new brings some)

    -- a piece that came is not empty
    piece_is_some : piece ≢ []
    piece_is_some none = absurd (omega (arith, ap length none))

    -- a piece that came was collected
    pub gathered_more : (wants : List ℕ → List ℕ) (after : List ℕ) → ((rest : List ℕ) → wants rest ≡ wanted rest) → WantsMore wants part piece after → GatheredTo wanted old after true new
    gathered_more wants after same more =
        let is : after ≡ part ++ piece = more.takes in
        record {
          took = subst (λ (xs : List ℕ). Took old xs new) (sym is) took_piece;
          alone = sym (same after) ∙ more.alone;
          goes_on = λ rest. subst (IsFrontOf after) (same (after ++ rest)) (more.goes_on rest);
          asks = λ rest left. subst (λ (xs : List ℕ). length after < length xs) (same (after ++ rest)) (more.asks rest left);
          some = λ came none. absurd (omega (arith, ap length none, ap length is, length-append part piece));
          none = λ unmoved. absurd (cc);
        }

    -- a collector that has enough with a piece that came
    pub gather_enough : (wants : List ℕ → List ℕ) (used : ℕ) (after : List ℕ) → ((rest : List ℕ) → wants rest ≡ wanted rest) → HasEnough wants part piece used after → GatherOutcome wanted (stream_of old) (Ok stop.Enough) after (stream_of new)
    gather_enough wants used after same enough =
        let whole : wanted (part ++ piece) ≡ after = sym (same (part ++ piece)) ∙ (ap (λ (xs : List ℕ). wants (part ++ xs)) (sym (append-nil piece)) ∙ enough.exact []) in
        let longer : length part < length after = subst (λ (xs : List ℕ). length part < length xs) whole (gathered.asks piece piece_is_some) in
        let size : length after ≡ length part + used = ap length enough.takes ∙ (length-append part (take used piece) ∙ ap (λ (n : ℕ). length part + n) (length-take-le used piece enough.fits)) in
        let is : after ≡ part ++ piece = enough.takes ∙ ap (λ (xs : List ℕ). part ++ xs) (take_all used piece (omega (arith, size, longer))) in
        let took : Took old after new = subst (λ (xs : List ℕ). Took old xs new) (sym is) took_piece in
        gathers_ok wanted (stream_of old) stop.Enough after (stream_of new) (gives_taken old new after took) (record {
          alone = sym (same after) ∙ enough.alone;
          exact = λ tells.
              let behind : List ℕ = left_at old.raw.bytes (old.place + length after) in
              sym (same (left_at old.raw.bytes old.place))
              ∙ (ap wants (next_parts old.raw.bytes after old.place (took.told tells) ∙ (ap (λ (xs : List ℕ). xs ++ behind) is ∙ append_assoc part piece behind))
              ∙ enough.exact behind);
        }) (λ held. absurd (past_held held))

    -- memory ran out for a piece that had left the raw
    pub gather_starves : (after : EngineView) (why : IoFault) (any : List ℕ) → why ≡ fault.NoMemory → StarvesWith true new after → GatherOutcome wanted (stream_of old) (Err why) any (stream_of after)
    gather_starves after why any says starves =
        let place : after.place ≡ old.place + (length part + 1) = ap (λ (e : EngineView). e.place) starves ∙ omega (arith, took_piece.place, length-append part piece) in
        let none : part ++ piece ≢ [] = λ nothing. absurd (omega (arith, ap length nothing, length-append part piece)) in
        subst (λ (w : IoFault). GatherOutcome wanted (stream_of old) (Err w) any (stream_of after)) (sym says) (record {
          stops = starves_after old new (part ++ piece) took_piece true after (λ came. none) (λ unmoved. absurd (cc)) starves;
          gathers = tt;
          starves = λ failed tells nothing.
              let behind : List ℕ = left_at old.raw.bytes (old.place + length (part ++ piece)) in
              let left : left_at old.raw.bytes old.place ≡ part ++ (piece ++ behind) = next_parts old.raw.bytes (part ++ piece) old.place (took_piece.told tells) ∙ append_assoc part piece behind in
              let more : piece ++ behind ≢ [] = λ gone. absurd (omega (arith, ap length gone, length-append piece behind)) in
              absurd (omega (arith, gathered.asks (piece ++ behind) more, ap length (ap wanted (sym left) ∙ nothing)));
          idle = λ held. absurd (past_held held);
          within = λ most bound. omega (arith, place, gathered.asks piece piece_is_some, bound (part ++ piece));
        })
