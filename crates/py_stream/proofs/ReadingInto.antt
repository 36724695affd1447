-- How a reading into a buffer comes from one transfer to the next, and one of all that is left from one buffer to the next.
use Rattle.std.proofs.Common.{◌≡◌, ◌≢◌, ℕ, ◌+◌, ◌-◌, ◌^◌, ◌<◌, ◌≤◌, ◌⊎◌, replicate, inl, inr, ⊎_elim, Bool, true, false, List, [], ◌++◌, length, take, drop, min, max, Ok, Err, refl, sym, ap, ◌∙◌, subst, arith}
use Rattle.std.specs.Bool.{◌==◌}
use Rattle.std.proofs.lemmas.Bool.{true≢false}
use Rattle.std.proofs.lemmas.List.{append-nil, append_assoc, replicate-append-replicate, take-take, take-append-le, take-append-drop, take_all, length-replicate, length-take, length-take-le, length-append, drop_all, length-drop, take_at}
use borrow.Rule.Slice.PartMut.{put_mid}
use Rattle.py_flat.specs.declared.fault.IoFault.{IoFault}
use Rattle.py_flat.specs.declared.fault.IoFault.TheVariants as fault
use Rattle.py_flat.specs.declared.life.Life.TheVariants as life
use Rattle.py_flat.specs.Bytes.{left_at}
use Rattle.py_flat.specs.ExactStep.{rest}
use Rattle.py_raw.specs.RawStream.{WhereTold, WherePlace, WhereTransfers, NoWait, LeavesCounts}
use Rattle.py_raw.proofs.ReadingOn.{no_fault_then, no_wait_then, uncounted_then}
use Rattle.py_stream.specs.declared.stop.Stop.{Stop}
use Rattle.py_stream.specs.declared.stop.Stop.TheVariants as stop
use Rattle.py_stream.specs.declared.stop.Progress.{Progress}
use Rattle.py_stream.specs.declared.stop.Step.TheVariants as step
use Rattle.py_flat.specs.Calls.{FileCall, NotReady, Refused}
use Rattle.py_stream.specs.Kinds.{by_several}
use Rattle.py_stream.specs.Stream.{Stream, file_of}
use Rattle.py_stream.specs.Answers.{Answers, EachBrings, ahead}
use Rattle.py_stream.specs.Reading.{KeepsReading, Reaches, IsNeeded, Gives, FailsReading, FailsMoved, StarvesReading, StopOutcome, RestOutcome, wanted_by, reply_by, has_answer, answered_at, GatherOutcome}
use Rattle.py_stream.specs.ReadingOn.{MayRead, StepsOn, StepsNone, StepFails, StarvesWith, StepOutcome, ReadsInto, FailsStarved, StarvesIn, ReadIntoOutcome, ReadsMore, ReadMoreOutcome}
use Rattle.py_stream.proofs.Begun.{each_seen, each_then}
use Rattle.py_stream.proofs.ReadingStops.{more_taken, next_behind, within_end, next_reaches, same_bytes, gives_then, waits_once_then, still_tells, keeps_then, keeps_failed}
use Rattle.py_stream.proofs.ReadingAnswers.{Reads, ReadingBegins}
use Rattle.py_stream.proofs.ReadingOn.{none_counted, some_counted, answered_from, unready_from, WantsSize, gathers_size, refuses_size, refused_stop}

-- a buffer after what is left of it was written
pub end_written : (count : ℕ) (buffer left : List ℕ) → count < length buffer → length left ≡ length (take (length buffer - count) (drop count buffer)) → put_mid count (length buffer - count) buffer left ≡ take count buffer ++ left
end_written count buffer left fits long = grind (arith, drop_all, length-drop, append-nil)

-- a list that was lengthened by zeros
abbrev pub lengthened : ℕ → List ℕ → List ℕ
lengthened more before = before ++ replicate more 0

-- a list that was lengthened by no zeros is as it was
pub lengthened_by_none : (count : ℕ) (before : List ℕ) → count ≡ 0 → before ≡ lengthened count before
lengthened_by_none count before none = sym (append-nil before) ∙ ap (λ (n : ℕ). lengthened n before) (sym none)

-- zeros after those that a list was lengthened by: it is lengthened by as many more
pub lengthened_on : (before now : List ℕ) (count more end : ℕ) → now ≡ lengthened count before → length now ≡ end → take (end + more) now ++ replicate (end + more - end) 0 ≡ lengthened (count + more) before
lengthened_on before now count more end is size =
    ap (λ (xs : List ℕ). xs ++ replicate (end + more - end) 0) (take_all (end + more) now (omega arith) ∙ is)
    ∙ (append_assoc before (replicate count 0) (replicate (end + more - end) 0)
    ∙ ap (λ (zeros : List ℕ). before ++ zeros) (replicate-append-replicate count (end + more - end) 0 ∙ ap (λ (n : ℕ). replicate n 0) (omega arith)))

-- a list that was lengthened by zeros is as much longer
pub length-lengthened : (more : ℕ) (before : List ℕ) → length (lengthened more before) ≡ length before + more
length-lengthened more before = length-append before (replicate more 0) ∙ omega (arith, length-replicate {A = ℕ} more 0)

-- a vector that was lengthened, read into and cut after the bytes that came has what it had, then these
pub vector_read : (before resized buffer after : List ℕ) (start more count long : ℕ) → length before ≡ start → resized ≡ lengthened more before → length buffer ≡ length resized → take start buffer ≡ take start resized → long ≡ length resized → count ≤ length (drop start buffer) → after ≡ take (start + count) (take long (buffer ++ drop (length buffer) resized)) → after ≡ before ++ take count (drop start buffer)
vector_read before resized buffer after start more count long size is same front whole fits cut =
    let all : length resized ≡ start + more = omega (arith, ap length is, length-lengthened more before, size) in
    let begins : take start buffer ≡ before = front ∙ (ap (take start) is ∙ take_at before (replicate more 0) start size) in
    cut
    ∙ (take-take (start + count) long (buffer ++ drop (length buffer) resized) (omega (arith, length-drop start buffer))
    ∙ (take-append-le (start + count) buffer (drop (length buffer) resized) (omega (arith, length-drop start buffer))
    ∙ (ap (take (start + count)) (sym (take-append-drop start buffer))
    ∙ (more_taken start count (take start buffer) (drop start buffer) (length-take-le start buffer (omega arith))
    ∙ ap (λ (xs : List ℕ). xs ++ take count (drop start buffer)) begins))))

-- n bytes have come into the front of a buffer that isn't full: all that were held, and those of the transfers since
pub record ReadsTo (old : Stream) (was : Bool) (count : ℕ) (buffer : List ℕ) (moved : Bool) (now : Stream) : Type 0 where
  pub may : MayRead old
  pub kept : KeepsReading old now
  pub counts : LeavesCounts old.raw now.raw
  pub live : now.life ≡ life.Live
  pub less : count < length buffer
  pub from : old.place ≤ now.place
  pub to : now.place ≤ now.raw_place
  pub stands : now.raw_place ≡ old.place + count
  pub told : WhereTold old.raw (take count (left_at (file_of old).bytes old.place) ≡ take count buffer)
  pub all : ahead old ≤ count
  pub each : EachBrings 0 0 old now
  pub stepped : ((moved ≡ was) × (now ≡ old)) ⊎ ((moved ≡ true) × (0 < count) × (old.raw_place < now.raw_place) × WherePlace old.raw (old.raw.place < now.raw.place))

module _ (old : Stream) (was : Bool) (count : ℕ) (buffer : List ℕ) (moved : Bool) (now : Stream) (reads : ReadsTo old was count buffer moved now) where
  -- the raw doesn't go back
  not_back : WherePlace old.raw (old.raw.place ≤ now.raw.place)
  not_back tells = ⊎_elim (λ same. omega (arith, ap (λ (stream : Stream). stream.raw.place) same.1)) (λ forth. omega (arith, forth.3 tells)) reads.stepped

  -- nor does it by the stream's own count
  count_not_back : old.raw_place ≤ now.raw_place
  count_not_back = ⊎_elim (λ same. omega (arith, ap (λ (stream : Stream). stream.raw_place) same.1)) (λ forth. omega (arith, forth.2)) reads.stepped

  -- what came is as long as was counted
  came_length : length (take count buffer) ≡ count
  came_length = length-take-le count buffer (omega (arith, reads.less))

  -- told, what came lies before the end
  came_within : WhereTold old.raw (old.place + count ≤ max old.place (length (file_of old).bytes))
  came_within tells = within_end (file_of old).bytes (take count buffer) old.place count (reads.told tells) came_length

  -- a place of what came, or before it, reaches no further than the end
  reaches_come : (new : Stream) → new.place ≤ old.place + count → Reaches old new
  reaches_come new within tells = omega (arith, within, came_within tells)

  -- what one more transfer brings, after what came
  behind_told : (more : ℕ) (left : List ℕ) (new : Stream) → StepsOn now more left new → WhereTold old.raw (take (count + more) (left_at (file_of old).bytes old.place) ≡ take (count + more) (take count buffer ++ left))
  behind_told more left new steps tells = grind (arith, same_bytes, still_tells, next_behind, came_length, more_taken)

  -- how far a reading is after one more transfer
  pub reads_on : (more : ℕ) (left : List ℕ) (new : Stream) → StepOutcome now moved (Ok (step.On more)) left new → ReadsTo old was (count + more) (take count buffer ++ left) true new
  reads_on more left new outcome = grind (arith, keeps_then, uncounted_then, length-append, came_length, behind_told, each_then, count_not_back, not_back)

  -- the last transfer filled the buffer
  reads_enough : (more : ℕ) (left : List ℕ) (new : Stream) → StepsOn now more left new → more ≡ length left → new.place ≡ now.raw_place + more → WhereTransfers now.raw (new.raw_place < new.place + new.raw.reads.last) → ReadsInto old (record { count = count + more; stop = stop.Enough }) (take count buffer ++ left) new
  reads_enough more left new steps all place last =
      let long : length (take count buffer ++ left) ≡ count + more = length-append (take count buffer) left ∙ omega (arith, came_length) in
      let whole : take (count + more) (take count buffer ++ left) ≡ take count buffer ++ left = take_all (count + more) (take count buffer ++ left) (omega (arith, long)) in
      let part : List ℕ = take (count + more) (take count buffer ++ left) in
      let gives : Gives old part new = grind (arith, keeps_then, no_fault_then, behind_told) in
      let needed : IsNeeded old new = grind arith in
      grind (arith, no_wait_then, each_then)

  -- no more came: what came is given
  reads_given : (left : List ℕ) (new : Stream) (empties : ℕ) → StepsNone empties now new → Gives old (take count (take count buffer ++ left)) new
  reads_given left new empties none = grind (arith, take_at, came_length, keeps_then, no_fault_then)

  -- a reading into a buffer that isn't full stops
  stops_less : (left : List ℕ) (new : Stream) (why : Stop) → why ≢ stop.Enough → 0 < length left → new.place ≤ new.raw_place → StopOutcome old (take count (take count buffer ++ left)) (Ok why) new → ReadsInto old (record { count = count; stop = why }) (take count buffer ++ left) new
  stops_less left new why other some to outcome = grind (arith, length-append, came_length)

  -- the last transfer brought nothing
  reads_none : (left : List ℕ) (new : Stream) (why : Stop) → why ≢ stop.Enough → 0 < length left → StepOutcome now moved (Ok (step.Stopped 0 why)) left new → ReadsInto old (record { count = count; stop = why }) (take count buffer ++ left) new
  reads_none left new stop.Enough other some outcome = absurd (other refl)
  reads_none left new stop.End other some outcome = stops_less left new stop.End other some (omega (arith, outcome.1.place, outcome.1.stands)) (
    reads_given left new 1 outcome.1,
    no_wait_then old.raw now.raw new.raw reads.kept.raw reads.counts.no_wait outcome.3,
    λ tells. let end = outcome.2 (still_tells old now reads.kept tells) in let place = outcome.1.place in omega (arith, end, place, ap length (same_bytes old now reads.may.bare reads.kept tells)),
    each_then old now new 1 1 reads.kept.raw reads.each outcome.1.each,
  )
  reads_none left new stop.Waits other some outcome = stops_less left new stop.Waits other some (omega (arith, outcome.1.place, outcome.1.stands)) (
    reads_given left new 0 outcome.1,
    omega (arith, reads.kept.raw.waits, outcome.2),
    outcome.1.stands ∙ sym outcome.1.place,
    waits_once_then old now new reads.kept reads.counts.no_wait outcome.3,
    each_then old now new 1 0 reads.kept.raw reads.each outcome.1.each,
  )

  stopped_none : (more : ℕ) (left : List ℕ) (new : Stream) (why : Stop) → more ≡ 0 → ReadsInto old (record { count = count; stop = why }) (take count buffer ++ left) new → ReadsInto old (record { count = count + more; stop = why }) (take count buffer ++ left) new
  stopped_none more left new why none reads_so = subst (λ (n : ℕ). ReadsInto old (record { count = n; stop = why }) (take count buffer ++ left) new) (omega (arith, none)) reads_so

  -- the reading stops
  pub reads_stopped : (more : ℕ) (why : Stop) (left : List ℕ) (new : Stream) → 0 < length left → StepOutcome now moved (Ok (step.Stopped more why)) left new → ReadsInto old (record { count = count + more; stop = why }) (take count buffer ++ left) new
  reads_stopped more stop.Enough left new some outcome = reads_enough more left new outcome.0 outcome.1 outcome.2 outcome.3
  reads_stopped more stop.End left new some outcome = stopped_none more left new stop.End outcome.0 (reads_none left new stop.End (λ (e : stop.End ≡ stop.Enough). cc) some (refl, outcome.1, outcome.2, outcome.3))
  reads_stopped more stop.Waits left new some outcome = stopped_none more left new stop.Waits outcome.0 (reads_none left new stop.Waits (λ (e : stop.Waits ≡ stop.Enough). cc) some (refl, outcome.1, outcome.2, outcome.3))

  -- the transfer failed
  reads_failed : (new : Stream) → StepFails now new → FailsReading old new
  reads_failed new fails = record {
    kept = keeps_then old now new reads.kept fails.kept;
    cause = omega (arith, reads.kept.raw.faults, fails.cause);
    no_wait = no_wait_then old.raw now.raw new.raw reads.kept.raw reads.counts.no_wait fails.no_wait;
    failed = fails.failed;
    forth = omega (arith, fails.place, reads.stands);
    reach = reaches_come new (omega (arith, fails.place, reads.stands));
    each = each_then old now new 1 0 reads.kept.raw reads.each fails.each;
  }

  -- memory ran out once bytes had moved
  reads_starved : moved ≡ true → FailsStarved was old (record now { life = life.Failed })
  reads_starved on =
      let left : was ≡ false → (0 < count) × (old.raw_place < now.raw_place) × WherePlace old.raw (old.raw.place < now.raw.place) = λ none. ⊎_elim (λ same. absurd (true≢false (sym on ∙ same.0 ∙ none))) (λ forth. (forth.1, forth.2, forth.3)) reads.stepped in
      record {
        kept = keeps_then old now (record now { life = life.Failed }) reads.kept (keeps_failed now reads.kept.owed reads.kept.ahead (record { far = reads.kept.far; near = reads.kept.near }));
        counts = reads.counts;
        failed = refl;
        forth = reads.from;
        reach = reaches_come (record now { life = life.Failed }) (omega (arith, reads.to, reads.stands));
        raw_forth = count_not_back;
        further = λ none. (left none).1;
        stands = not_back;
        stands_further = λ none. (left none).2;
        some = λ none tells nothing. absurd (omega (arith, (left none).0, ap length (reads.told tells), ap (λ (bytes : List ℕ). length (take count bytes)) nothing, length-take {A = ℕ} count [], came_length));
        each = each_seen old old now (record now { life = life.Failed }) 0 0 refl refl refl refl reads.each;
      }

-- running out of memory, by whether bytes had moved
reads_wanting : (old : Stream) (was : Bool) (count : ℕ) (buffer : List ℕ) (moved : Bool) (now new : Stream) → ReadsTo old was count buffer moved now → StarvesWith moved now new → ((was ≡ false) × (new ≡ old)) ⊎ FailsStarved was old new
reads_wanting old was count buffer false now new reads starves = ⊎_elim (λ same. inl (sym same.0, starves ∙ same.1)) (λ forth. absurd (true≢false (sym forth.0))) reads.stepped
reads_wanting old was count buffer true now new reads starves = inr (subst (FailsStarved was old) (sym starves) (reads_starved old was count buffer true now reads refl))

-- a reading into a buffer whose last transfer was refused is refused
pub reads_refused : (old : Stream) (was : Bool) (count : ℕ) (buffer : List ℕ) (moved : Bool) (now : Stream) (why : IoFault) (left : List ℕ) (new : Stream) → 0 < length left → ReadsTo old was count buffer moved now → StepOutcome now moved (Err why) left new → ReadIntoOutcome old was (Err why) (take count buffer ++ left) new
reads_refused old was count buffer moved now fault.RawFault left new some reads fails =
    let long : length (take count buffer ++ left) ≡ count + length left = length-append (take count buffer) left ∙ omega (arith, length-take-le count buffer (omega (arith, reads.less))) in
    (reads_failed old was count buffer moved now reads new fails, (omega (arith, fails.place, reads.stands, long), omega (arith, reads.all, some, long)))
reads_refused old was count buffer moved now fault.NoMemory left new some reads wants =
    let long : length (take count buffer ++ left) ≡ count + length left = length-append (take count buffer) left ∙ omega (arith, length-take-le count buffer (omega (arith, reads.less))) in (
      (sym reads.kept.raw.takes_memory ∙ wants.0, reads_wanting old was count buffer moved now new reads wants.1),
      (omega (arith, ap (λ (stream : Stream). stream.place) wants.1, reads.to, reads.stands, long), omega (arith, reads.all, some, long)),
    )
reads_refused old was count buffer moved now why left new some reads never = absurd never

-- Into a buffer.

-- a reading into a buffer gathers as one of the buffer's size
gathers_into : (old new : Stream) (call : FileCall) (size : ℕ) (progress : Progress) (buffer : List ℕ) → WantsSize call size → length buffer ≡ size → ReadsInto old progress buffer new → GatherOutcome (wanted_by call) old (Ok progress.stop) (take progress.count buffer) new
gathers_into old new call size progress buffer wants long read =
    let taken : length (take progress.count buffer) ≡ progress.count = length-take-le progress.count buffer read.fits in
    gathers_size old new call size (take progress.count buffer) progress.stop wants (omega (arith, taken, read.fits, long)) (λ enough. omega (arith, taken, read.full enough, long)) (λ other. omega (arith, taken, read.less other, long)) read.stops (λ held. read.idle (omega (arith, held, long)))

module _ (first old mid new : Stream) (call : FileCall) (size : ℕ) (progress : Progress) (buffer : List ℕ) (several : by_several old.buffer call ≡ true) (wants : WantsSize call size) (long : length buffer ≡ size) (begun : ReadingBegins first old) (read : ReadsInto old progress buffer mid) where
  -- a reading into a buffer that has an answer gives what came into its front
  pub into_answered : has_answer progress.stop (progress.count == 0) ≡ true → new ≡ answered_at progress.stop mid → Answers first call (reply_by call (take progress.count buffer)) new
  into_answered has is =
      answered_from first old mid new call (take progress.count buffer) progress.stop (progress.count == 0) several begun (gathers_into old mid call size progress buffer wants long read)
      (some_counted (take progress.count buffer) progress.count (progress.count == 0) (sym (length-take-le progress.count buffer read.fits)) refl) has is

  -- one that has none isn't ready
  pub into_unready : has_answer progress.stop (progress.count == 0) ≡ false → new ≡ answered_at progress.stop mid → Answers first call NotReady new
  into_unready none is =
      unready_from first old mid new call (take progress.count buffer) progress.stop (progress.count == 0) several begun (gathers_into old mid call size progress buffer wants long read)
      (none_counted (take progress.count buffer) progress.count (progress.count == 0) (sym (length-take-le progress.count buffer read.fits)) refl) none is

starves_into : (old new : Stream) → StarvesIn false old new → StarvesReading old new
starves_into old new starves = grind arith

-- a reading into a buffer that was refused moved no further than the buffer's size
pub refused_into : (old new : Stream) (call : FileCall) (size : ℕ) (buffer : List ℕ) (why : IoFault) → by_several old.buffer call ≡ true → WantsSize call size → length buffer ≡ size → Reads old → ReadIntoOutcome old false (Err why) buffer new → Answers old call (Refused why) new
refused_into old new call size buffer fault.RawFault several wants long begun outcome =
    refused_stop old new call [] fault.RawFault several begun (refuses_size old new call size [] fault.RawFault wants (omega (arith, outcome.1.1, long)) begun.live (omega (arith, outcome.1.0, long)) outcome.0) (λ wanting. absurd (cc))
refused_into old new call size buffer fault.NoMemory several wants long begun outcome =
    refused_stop old new call [] fault.NoMemory several begun (refuses_size old new call size [] fault.NoMemory wants (omega (arith, outcome.1.1, long)) begun.live (omega (arith, outcome.1.0, long)) (starves_into old new outcome.0)) (λ wanting takes. outcome.0.0)
refused_into old new call size buffer why several wants long begun outcome = absurd outcome

-- Readings of all that is left.

-- all that was asked for so far has come: nothing was, at first; then some bytes
pub record ReadsAll (before : Stream) (bytes : List ℕ) (more : ℕ) (moved : Bool) (now : Stream) : Type 0 where
  pub may : MayRead before
  pub gives : Gives before bytes now
  pub to : now.place ≤ now.raw_place
  pub no_wait : NoWait before.raw now.raw
  pub each : EachBrings 0 0 before now
  pub some : 0 < more
  pub fits : length bytes + more < 2 ^ 64
  pub first : moved ≡ false → (now ≡ before) × (before.raw_place < before.place + more)
  pub later : moved ≡ true → (0 < length bytes) × (before.raw_place < now.place)

module _ (before : Stream) (bytes : List ℕ) (more : ℕ) (moved : Bool) (now new : Stream) (reads : ReadsAll before bytes more moved now) where
  -- told, a place that lies before the end after what was given lies before it at first
  reaches_on : Reaches now new → Reaches before new
  reaches_on reach tells = omega (arith, next_reaches before now bytes reads.gives.place reads.gives.told tells, reach (still_tells before now reads.gives.kept tells), ap length (same_bytes before now reads.may.bare reads.gives.kept tells))

  -- what is asked for reaches after the bytes that were held at first
  past_held : (is : Bool) → moved ≡ is → before.raw_place < now.place + more
  past_held false is = omega (arith, ap (λ (stream : Stream). stream.place) (reads.first is).0, (reads.first is).1)
  past_held true is = omega (arith, (reads.later is).1)

  -- a turn of a reading brought all that it asked for
  pub all_on : (after : List ℕ) (next : ℕ) → ReadsMore now bytes more stop.Enough after new → 0 < next → length after + next < 2 ^ 64 → ReadsAll before after next true new
  all_on after next brings some fits = grind (arith, length-append, gives_then, no_wait_then, each_then, true≢false, past_held)

  -- a turn that brought all that it asked for has as many bytes more
  pub long_after : (after : List ℕ) → ReadsMore now bytes more stop.Enough after new → length after ≡ length bytes + more
  long_after after brings = omega (arith, brings.full refl, ap length brings.behind, length-append bytes brings.part)

  -- a turn of a reading brought the last bytes
  pub all_read : (why : Stop) (after : List ℕ) → why ≢ stop.Enough → ReadsMore now bytes more why after new → RestOutcome before (Ok why) after new
  all_read stop.Enough after other brings = absurd (other refl)
  all_read stop.End after other brings = grind (arith, gives_then, no_wait_then, same_bytes, still_tells, each_then)
  all_read stop.Waits after other brings = grind (arith, gives_then, waits_once_then, each_then)

  -- a turn found no memory, once bytes had left the raw
  fails_on : (was : Bool) → FailsStarved was now new → before.raw_place < new.raw_place → WherePlace before.raw (before.raw.place < new.raw.place) → WhereTold before.raw (rest (file_of before) ≢ []) → FailsMoved before new
  fails_on was fails further stands some = grind (arith, keeps_then, uncounted_then, reaches_on, each_then)

  -- in a turn after the first
  all_moved : moved ≡ true → FailsStarved true now new → FailsMoved before new
  all_moved is fails =
      let later = reads.later is in
      fails_on true fails (omega (arith, later.1, reads.to, fails.raw_forth))
      (λ tells.
      let told = reads.gives.kept.raw.tells_place ∙ tells in
      omega (arith, reads.may.near.stands tells, later.1, reads.to, (reads.gives.kept.near reads.gives.live).stands told, fails.stands told))
      (λ tells none. absurd (omega (arith, later.0, ap length (reads.gives.told tells), ap (λ (left : List ℕ). length (take (length bytes) left)) none, length-take {A = ℕ} (length bytes) [])))

  -- in the first
  first_moved : moved ≡ false → FailsStarved false now new → FailsMoved before new
  first_moved is fails = grind (arith, fails_on, still_tells, same_bytes)

-- a turn asks for one piece of what is wanted, which is more than was held at first
pub all_cut : (before : Stream) (bytes : List ℕ) (wanted piece more : ℕ) (moved : Bool) (now : Stream) → ReadsAll before bytes wanted moved now → before.raw_place < before.place + piece → more ≡ min wanted piece → ReadsAll before bytes more moved now
all_cut before bytes wanted piece more moved now reads past is = grind arith

-- a stream that memory failed between two turns
fails_between : (before : Stream) (bytes : List ℕ) (more : ℕ) (now : Stream) → ReadsAll before bytes more true now → FailsStarved true now (record now { life = life.Failed })
fails_between before bytes more now reads = grind (arith, keeps_failed)

all_wanting : (before : Stream) (bytes : List ℕ) (more : ℕ) (moved : Bool) (now new : Stream) → ReadsAll before bytes more moved now → StarvesWith moved now new ⊎ FailsStarved moved now new → RestOutcome before (Err fault.NoMemory) bytes new
all_wanting before bytes more false now new reads (inl same) = inl (same ∙ (reads.first refl).0)
all_wanting before bytes more false now new reads (inr fails) = inr (first_moved before bytes more false now new reads refl fails)
all_wanting before bytes more true now new reads (inl same) =
    let failed : Stream = record now { life = life.Failed } in
    subst (RestOutcome before (Err fault.NoMemory) bytes) (sym same) (inr (all_moved before bytes more true now failed reads refl (fails_between before bytes more now reads)))
all_wanting before bytes more true now new reads (inr fails) = inr (all_moved before bytes more true now new reads refl fails)

-- a turn was refused
pub all_refused : (before : Stream) (bytes : List ℕ) (more : ℕ) (moved : Bool) (now new : Stream) (why : IoFault) (after : List ℕ) → ReadsAll before bytes more moved now → ReadMoreOutcome now moved bytes more (Err why) after new → RestOutcome before (Err why) after new
all_refused before bytes more moved now new fault.RawFault after reads fails = grind (arith, keeps_then before now new reads.gives.kept fails.kept, reads.gives.kept.raw.faults, fails.cause, no_wait_then before.raw now.raw new.raw reads.gives.kept.raw reads.no_wait fails.no_wait, reads.gives.place, fails.forth, reaches_on before bytes more moved now new reads fails.reach, each_then before now new 1 0 reads.gives.kept.raw reads.each fails.each)
all_refused before bytes more moved now new fault.NoMemory after reads wants = all_wanting before bytes more moved now new reads wants
all_refused before bytes more moved now new why after reads never = absurd never
