-- A call that gives bytes to a stream that may owe bytes anywhere among those that its buffer holds: the buffer takes them.
use Rattle.std.proofs.Common.{◌≡◌, ◌≢◌, ℕ, ◌+◌, ◌-◌, ◌<◌, ◌≤◌, ◌⊎◌, inl, inr, ⊎_elim, Bool, true, false, IsTrue, List, [], ◌++◌, length, take, drop, Some, None, Err, refl, sym, ap, ◌∙◌, subst, arith, rules}
use Rattle.std.proofs.lemmas.List.{take_all, drop-append-le, take-append-le, length-drop, length-take-le}
use Rattle.py_flat.specs.declared.fault.IoFault.{IoFault}
use Rattle.py_flat.specs.declared.fault.IoFault.TheVariants as fault
use Rattle.py_flat.specs.declared.life.Life.TheVariants as life
use Rattle.py_flat.specs.Bytes.{lay}
use Rattle.py_flat.specs.Causes.{Rose}
use Rattle.py_flat.specs.Owed.{Owed}
use Rattle.py_flat.specs.Calls.{FileCall, FileReply, Refused}
use Rattle.py_flat.specs.ExactStep.{is_closed, after_write}
use Rattle.py_flat.specs.AllowedStep.{raw_faulted, out_of_memory}
use Rattle.py_flat.specs.BinaryStep.{payload}
use Rattle.py_raw.specs.RawStream.{Raw, WhereTold, AnswersFor}
use Rattle.py_raw.proofs.Telling.{tells_still}
use Rattle.py_stream.specs.Stream.{Stream, size_of, file_of}
use Rattle.py_stream.specs.Kinds.{outlasts, makes_one, says_fault, says_no_memory, is_writing}
use Rattle.py_stream.specs.Writing.{HasJust, OwesUpTo, first_place, CoversBoth, OwesAll, OwesTheRest, LeavesUpTo, OwesBoth, Takes, OwesNoneOfIts, LaysFront, IsFull, BlocksFull, HasRoom, TakesAlone, Writes, LaysInOrder, TookOwn}
use Rattle.py_stream.specs.Answers.{Answers, LifeMoves, PlaceMoves, refused_by}
use Rattle.py_stream.specs.Keeping.{IsSound, KeepsOn}
use Rattle.py_stream.specs.Held.{TakesOver, KeepsBoth, OwesHeld}
use Rattle.py_stream.specs.Moving.{StandsAsBefore}
use Rattle.py_stream.specs.Settling.{PassesSome, LivesOn, SettleOutcome}
use Rattle.py_stream.proofs.Refused.{nothing_blocked, work_reaches, says_short, fails_there, fault_answers, starves_alive, starves_there, starve_answers}
use Rattle.py_stream.proofs.Refusing.{refused_alone}
use Rattle.py_stream.proofs.Taking.{keeps_itself, keeps_then}
use Rattle.py_stream.proofs.Flat.{flat_of, file_now, failed_file}
use Rattle.py_stream.proofs.PassingOn.{passes_nothing, just_nothing, passing_keeps_bytes, passing_file}
use Rattle.py_stream.proofs.Giving.{IsGiving, is_giving, MayGive, Left, answers_left, accepted, works, IsPart, taken_reply, says_all, waited_reply, is_taken, is_blocked, is_faulted, no_tell}
use Rattle.py_stream.proofs.Given.{part_steps, said_short, GoesOn, goes_on_all}
use Rattle.py_stream.proofs.Owing.{first_left}
use Rattle.py_stream.proofs.LeftOwed.{covers_rest, left_up_to, left_behind, left_forth, left_old, left_both, left_takes, left_lays}

-- A call of a stream with a buffer.

-- a call that gives bytes, of a live stream with a buffer that may place them
pub record MayKeep (before : Stream) (call : FileCall) : Type 0 where
  pub gives : MayGive before call
  pub whole : before.short ≡ false
  pub size : ℕ
  pub buffered : before.buffer ≡ Some size

-- a call of a stream with a buffer goes on until all bytes are taken
goes_over : (before : Stream) (call : FileCall) → MayKeep before call → GoesOn before.buffer call
goes_over before call may = goes_on_all before.buffer call may.gives.writing (grind (arith, may.gives.writing, may.buffered))

-- it may go on over a wait, and make several transfers
outlasting : (before : Stream) (call : FileCall) → MayKeep before call → outlasts before.buffer call ≡ true
outlasting before call may = grind arith

not_one : (before : Stream) (call : FileCall) → MayKeep before call → makes_one before.buffer call ≡ false
not_one before call may = grind arith

-- where no wait cut the answer short, the stream is as its steps left it
answers_unshort : (before new : Stream) (call : FileCall) (reply : FileReply) → MayKeep before call → Left before call reply false new → Writes before call reply (record new { short = false }) → Answers before call reply new
answers_unshort before new call reply may left writes = subst (λ (after : Stream). Answers before call reply after) (said_short new false (left.kept.short ∙ may.whole)) (answers_left before new call reply false may.gives left writes)

-- What the buffer takes, after a passing on of some.

-- before a front of a call's bytes is taken nothing was passed on; or some is left of what was owed, and the front reaches to where that
-- begins
abbrev ReachesRest : Stream → Stream → List ℕ → Type 0
ReachesRest before mid front = (mid.owed ≡ before.owed) ⊎ ((mid.owed.bytes ≢ []) × (mid.owed.place ≤ before.place + length front))

module _ (before mid after : Stream) (own : List ℕ) (count : ℕ) (fits : count ≤ length own) (goes : LivesOn before mid) (over : TakesOver mid (take count own) after) where
  passes : PassesSome before mid
  passes = goes.passes

  long : length (take count own) ≡ count
  long = length-take-le count own fits

  -- the place is behind what was taken
  kept_place : after.place ≡ before.place + count
  kept_place = omega (arith, over.place, passes.still, long)

  -- what is owed covers what was owed and what was taken
  kept_covers : OwesAll mid.owed mid.place (take count own) after.owed → ReachesRest before mid (take count own) → after.owed.bytes ≢ [] → CoversBoth before.owed before.place (take count own) after.owed
  kept_covers owes reach some =
      let covers : CoversBoth mid.owed before.place (take count own) after.owed = subst (λ (place : ℕ). CoversBoth mid.owed place (take count own) after.owed) passes.still (owes.covers some) in
      ⊎_elim
      (λ (same : mid.owed ≡ before.owed). subst (λ (was : Owed). CoversBoth was before.place (take count own) after.owed) same covers)
      (λ (rest : (mid.owed.bytes ≢ []) × (mid.owed.place ≤ before.place + length (take count own))).
      covers_rest before.owed mid.owed passes.passed before.place passes.owed (passes.place rest.0) rest.0 (take count own) after.owed rest.1 covers)
      reach

  -- the raw answered for what was passed on before
  kept_answered : AnswersFor passes.passed before.raw after.raw
  kept_answered = subst (λ (raw : Raw). AnswersFor passes.passed before.raw raw) (sym over.raw) passes.answered

  -- so many bytes are left of what was owed
  left_many : length mid.owed.bytes ≡ length before.owed.bytes - passes.passed
  left_many = ap length passes.owed ∙ length-drop passes.passed before.owed.bytes

  -- it begins where the first begins of what is left of what was owed, and what was taken
  kept_rest : OwesAll mid.owed mid.place (take count own) after.owed → (short : Bool) → ReachesRest before mid (take count own) → after.owed.bytes ≢ [] → OwesTheRest before (take count own) (record after { short = short })
  kept_rest owes short reach some =
      let from : after.owed.place ≡ first_place mid.owed (take count own) before.place = subst (λ (place : ℕ). after.owed.place ≡ first_place mid.owed (take count own) place) passes.still (owes.from some) in
      record {
        passed = passes.passed;
        answered = kept_answered;
        leaves = record {
          most = passes.within;
          from = first_left (drop passes.passed before.owed.bytes) mid.owed.bytes (before.owed.place + passes.passed) mid.owed.place (take count own) before.place after.owed.place passes.owed passes.place from;
          covers = kept_covers owes reach some;
        };
      }

  -- told: the flat file has what was taken, at the place
  kept_bytes : WhereTold before.raw (flat_of after ≡ lay (flat_of before) before.place (take count own))
  kept_bytes tells =
      over.told (tells_still before.raw mid.raw passes.kept.raw ∙ tells)
      ∙ ap (λ (place : ℕ). lay (flat_of mid) place (take count own)) passes.still
      ∙ ap (λ (bytes : List ℕ). lay bytes before.place (take count own)) (passing_keeps_bytes before mid passes tells)

  -- all of both are owed
  kept_both : OwesAll mid.owed mid.place (take count own) after.owed → (short : Bool) → ReachesRest before mid (take count own) → OwesBoth before own (record after { short = short })
  kept_both owes short reach = record {
    taken = count;
    within = fits;
    place = kept_place;
    owes = λ some. inl (kept_rest owes short reach some);
    none = λ none. let nothing = owes.none none in subst (λ (sent : ℕ). AnswersFor sent before.raw after.raw) (omega (arith, passes.within, left_many, ap length nothing.0, ap length nothing.1, long)) kept_answered;
    told = λ tells. (count, omega arith, fits, kept_bytes tells);
  }

  -- where none are taken, what is left of what was owed goes on up to the place
  filled_both : mid.owed.bytes ≢ [] → after.owed.bytes ≢ [] → LeavesUpTo 0 mid.owed mid.place (take count own) after.owed → OwesBoth before own (record after { short = true })
  filled_both left some leaves = record {
    taken = count;
    within = fits;
    place = kept_place;
    owes = λ _. inr (inr (record {
      passed = passes.passed;
      answered = kept_answered;
      cut = refl;
      leaves = record {
        nothing = leaves.nothing;
        most = passes.within;
        from = omega (arith, leaves.from, passes.place left);
        front = ap (λ (n : ℕ). take n after.owed.bytes) (let many : length before.owed.bytes - passes.passed ≡ length mid.owed.bytes - 0 = omega (arith, left_many) in many) ∙ leaves.front ∙ passes.owed;
        ends = leaves.ends ∙ passes.still;
      };
    }));
    none = λ none. absurd (some none);
    told = λ tells. (count, omega arith, fits, kept_bytes tells);
  }

  -- told: the raw has just those of what was owed that were passed on before
  kept_just : WhereTold before.raw (after.raw.bytes ≡ lay before.raw.bytes before.owed.place (take passes.passed (before.owed.bytes ++ take count own)))
  kept_just tells =
      ap (λ (raw : Raw). raw.bytes) over.raw
      ∙ goes.just tells
      ∙ ap (λ (sent : ℕ). lay before.raw.bytes before.owed.place (take sent before.owed.bytes)) (let many : length before.owed.bytes - length mid.owed.bytes ≡ passes.passed = omega (arith, left_many, passes.within) in many)
      ∙ ap (lay before.raw.bytes before.owed.place) (sym (take-append-le passes.passed before.owed.bytes (take count own) passes.within))

  -- where what was owed ended at the place, the first were taken after it
  kept_takes : (short : Bool) → OwesUpTo before.owed before.place → Takes before own (record after { short = short })
  kept_takes short up_to =
      let behind = over.behind (left_up_to before mid passes up_to) in
      record {
        taken = count;
        within = fits;
        place = kept_place;
        passed = passes.passed;
        most = omega (arith, passes.within);
        answered = kept_answered;
        forth = λ stands. over.raw_place ∙ left_forth before mid passes stands;
        owed = behind.0 ∙ ap (λ (bytes : List ℕ). bytes ++ take count own) passes.owed ∙ sym (drop-append-le passes.passed before.owed.bytes (take count own) passes.within);
        up_to = behind.1;
        told = λ tells. (count, omega arith, fits, kept_bytes tells);
        just = λ lives stands tells. kept_just tells;
      }

  -- the raw has a front of what was owed alone
  kept_lays : WhereTold before.raw (LaysFront before own after.raw.bytes)
  kept_lays = subst (λ (raw : Raw). WhereTold before.raw (LaysFront before own raw.bytes)) (sym over.raw) (left_lays before mid passes own)

  kept_all : KeepsOn before after
  kept_all = keeps_then before mid after passes.kept over.kept

  -- told: the flat file is as after a write
  kept_file : before.life ≡ life.Live → WhereTold before.raw (file_of after ≡ after_write (file_of before) (take count own))
  kept_file live tells =
      file_now before after kept_all (over.life_is ∙ goes.live ∙ sym live)
      ∙ ap (λ (bytes : List ℕ). record (file_of before) { bytes = bytes; place = after.place }) (kept_bytes tells)
      ∙ ap (λ (place : ℕ). record (after_write (file_of before) (take count own)) { place = place }) (omega (arith, kept_place, long))

-- What answers a call of which the buffer took bytes.

module _ (before mid after : Stream) (call : FileCall) (reply : FileReply) (count : ℕ) (short : Bool) (may : MayKeep before call) (fits : count ≤ length (payload call)) (is : IsPart before count before.buffer call reply short) (goes : LivesOn before mid) (over : TakesOver mid (take count (payload call)) after) (both : OwesBoth before (payload call) (record after { short = short })) (full : IsTrue short → IsFull after.owed after.place (size_of after)) (waited : IsTrue short → Rose before.raw.waits mid.raw.waits) (room : HasRoom before (payload call) → TakesAlone before call reply (record after { short = short })) where
  kept_writes : Writes before call reply (record after { short = short })
  kept_writes =
      let left : Stream = record after { short = short } in
      let giving : IsGiving call = is_giving call may.gives.writing in
      let kept : KeepsOn before after = kept_all before mid after (payload call) count fits goes over in
      record {
        owes = λ _. both;
        takes = λ _. kept_takes before mid after (payload call) count fits goes over short;
        room = λ _. room;
        leaves = λ spares. absurd (cc (may.gives.writing));
        stands = λ behind reads some. (over.stands (left_behind before mid goes.passes behind)).stands;
        lays = λ tells. giving.lays before after.raw.bytes (kept_lays before mid after (payload call) count fits goes over tells);
        passes = giving.passes before reply left;
        full = is.full left full;
        starves = λ wanting. absurd (cc (is.no_want));
        straight = is.straight left;
        settles = λ none. over.at (goes.passes.at none);
        unclosed = λ some. kept.stays;
        rests = λ dead. absurd (dead may.gives.live);
      }

  -- a call of which the buffer took a front of the bytes is answered by that
  keeps_answers : Answers before call reply (record after { short = short })
  keeps_answers =
      let own : List ℕ = payload call in
      let kept : KeepsOn before after = kept_all before mid after own count fits goes over in
      let lives : after.life ≡ before.life = over.life_is ∙ goes.live ∙ sym may.gives.live in
      answers_left before after call reply short may.gives (record {
        kept = kept;
        is_open = ap is_closed (lives ∙ may.gives.live);
        causes = record { waits = λ cut. subst (λ (raw : Raw). Rose before.raw.waits raw.waits) (sym over.raw) (waited cut); faults = λ faulted. absurd (cc (is.no_fault)) };
        counted = λ exact. record {
          faults = λ _. ap (λ (raw : Raw). raw.faults) over.raw ∙ goes.no_fault exact;
          waits = λ _ ends. absurd (cc (outlasting before call may));
          once = λ _ ends. absurd (cc (outlasting before call may));
        };
        shorts = is.shorts;
        life_is = is.life_is before.life after.life lives;
        place = is.place after.life before.place after.place (kept_place before mid after own count fits goes over);
        wants = λ wanting. absurd (cc (is.no_want));
        one = λ one. absurd (cc (not_one before call may));
        answers = is.answers;
        told = λ tells. part_steps (file_of before) (file_of after) call reply short (says_fault reply) (works before call may.gives) (accepted before call may.gives) (is.steps (file_of after) (kept_file before mid after own count fits goes over may.gives.live tells));
      }) kept_writes

-- nothing is passed on of a stream that lives
lives_itself : (stream : Stream) → IsSound stream → stream.life ≡ life.Live → LivesOn stream stream
lives_itself stream sound live =
    let stands : StandsAsBefore stream stream = record { kept = keeps_itself stream sound; bytes = λ told. refl; answered = λ told. refl; place = refl; raw_place = refl; owed = refl; held = refl } in
    record { passes = passes_nothing stream stream stands; live = live; no_fault = λ exact. refl; just = just_nothing stream stream stands }

-- bytes that are all taken into the buffer
all_answers : (before mid after : Stream) (call : FileCall) → MayKeep before call → LivesOn before mid → ReachesRest before mid (payload call) → KeepsBoth mid (payload call) after → (HasRoom before (payload call) → TakesAlone before call (taken_reply call (length (payload call))) (record after { short = false })) → Answers before call (taken_reply call (length (payload call))) after
all_answers before mid after call may goes reach keeps room =
    let own : List ℕ = payload call in
    let all : ℕ = length own in
    let same : own ≡ take all own = sym (take_all all own (omega arith)) in
    let fits : all ≤ length (payload call) = omega arith in
    let is = is_taken before all before.buffer call may.gives.writing fits (goes_over before call may).all in
    subst (λ (left : Stream). Answers before call (taken_reply call all) left) (said_short after false (keeps.over.kept.short ∙ goes.passes.kept.short ∙ may.whole))
    (keeps_answers before mid after call (taken_reply call all) all false may fits is goes (subst (λ (bytes : List ℕ). TakesOver mid bytes after) same keeps.over)
    (kept_both before mid after own all fits goes (subst (λ (bytes : List ℕ). TakesOver mid bytes after) same keeps.over) (subst (λ (bytes : List ℕ). OwesAll mid.owed mid.place bytes after.owed) same keeps.owes) false (subst (ReachesRest before mid) same reach))
    (λ cut. absurd (cc)) (λ cut. absurd (cc)) room)

-- bytes that fit the buffer with no call of the raw are all taken
pub fits_answers : (before after : Stream) (call : FileCall) → MayKeep before call → KeepsBoth before (payload call) after → Answers before call (taken_reply call (length (payload call))) after
fits_answers before after call may keeps =
    all_answers before before after call may (lives_itself before may.gives.sound may.gives.live) (inl refl) keeps
    (λ _. record { says = says_all call may.gives.writing; whole = refl; raw = keeps.over.raw; raw_place = keeps.over.raw_place; owes = keeps.owes; held = keeps.held })

-- bytes that fit the buffer once the raw took some of what was owed, and then would have blocked, are all taken
pub fits_after_wait : (before mid after : Stream) (call : FileCall) → MayKeep before call → (HasRoom before (payload call) → ⊥) → LivesOn before mid → 0 < length mid.owed.bytes → mid.owed.place ≤ before.place + length (payload call) → KeepsBoth mid (payload call) after → Answers before call (taken_reply call (length (payload call))) after
fits_after_wait before mid after call may roomless goes some reach keeps = all_answers before mid after call may goes (inr (λ none. omega (arith, some, ap length none), reach)) keeps (λ has. absurd (roomless has))

-- the buffer is full, as the raw would have blocked: the call is refused by how many of its bytes the buffer took
blocked_after_wait : (before mid after : Stream) (call : FileCall) (taken : ℕ) → MayKeep before call → (HasRoom before (payload call) → ⊥) → LivesOn before mid → Rose before.raw.waits mid.raw.waits → taken < length (payload call) → TakesOver mid (take taken (payload call)) after → OwesBoth before (payload call) (record after { short = true }) → IsFull after.owed after.place (size_of after) → Answers before call (Refused (fault.WouldBlock taken)) (record after { short = true })
blocked_after_wait before mid after call taken may roomless goes waited less over both full =
    let fits : taken ≤ length (payload call) = omega (arith, less) in
    let on : GoesOn before.buffer call = goes_over before call may in
    subst (λ (reply : FileReply). Answers before call reply (record after { short = true })) (on.says taken)
    (keeps_answers before mid after call (waited_reply before.buffer call taken) taken true may fits (is_blocked before taken before.buffer call may.gives.writing (on.waits taken less)) goes over both (λ _. full) (λ _. waited) (λ has. absurd (roomless has)))

-- it took the first of them
pub fills_after_wait : (before mid after : Stream) (call : FileCall) (taken : ℕ) → MayKeep before call → (HasRoom before (payload call) → ⊥) → LivesOn before mid → Rose before.raw.waits mid.raw.waits → 0 < length mid.owed.bytes → mid.owed.place ≤ before.place + taken → taken < length (payload call) → KeepsBoth mid (take taken (payload call)) after → IsFull after.owed after.place (size_of after) → Answers before call (Refused (fault.WouldBlock taken)) (record after { short = true })
fills_after_wait before mid after call taken may roomless goes waited some reach less keeps full =
    let own : List ℕ = payload call in
    let fits : taken ≤ length own = omega (arith, less) in
    let reaches_rest : ReachesRest before mid (take taken own) = inr (λ none. omega (arith, some, ap length none), omega (arith, reach, length-take-le taken own fits)) in
    blocked_after_wait before mid after call taken may roomless goes waited less keeps.over (kept_both before mid after own taken fits goes keeps.over keeps.owes true reaches_rest) full

-- it took none of them, and owes all that it holds up to the place
pub fills_with_none : (before mid after : Stream) (call : FileCall) → MayKeep before call → (HasRoom before (payload call) → ⊥) → LivesOn before mid → Rose before.raw.waits mid.raw.waits → 0 < length mid.owed.bytes → 0 < length (payload call) → OwesHeld mid after → IsFull after.owed after.place (size_of after) → Answers before call (Refused (fault.WouldBlock 0)) (record after { short = true })
fills_with_none before mid after call may roomless goes waited some gives fills full =
    blocked_after_wait before mid after call 0 may roomless goes waited gives fills.over (filled_both before mid after (payload call) 0 (omega arith) goes fills.over (λ none. omega (arith, some, ap length none)) fills.some fills.leaves) full

-- What stops the passing on before a call takes anything.

module _ (before new : Stream) (call : FileCall) (why : IoFault) (may : MayKeep before call) (roomless : HasRoom before (payload call) → ⊥) (passes : PassesSome before new) (just : new.life ≡ life.Live → HasJust before new) where
  stopped_writes : (new.life ≡ life.Failed → IsTrue (says_no_memory (Refused why)) → ⊥) → BlocksFull call (Refused why) (record new { short = false }) → Writes before call (Refused why) (record new { short = false })
  stopped_writes alive unblocked =
      let left : Stream = record new { short = false } in
      let giving : IsGiving call = is_giving call may.gives.writing in
      let owes : IsTrue (is_writing call) → OwesBoth before (payload call) left = λ _. left_both before new passes (payload call) false in
      let takes : IsTrue (is_writing call) → OwesUpTo before.owed before.place → Takes before (payload call) left = λ _. left_takes before new passes (payload call) false just in
      let room : IsTrue (is_writing call) → HasRoom before (payload call) → TakesAlone before call (Refused why) left = λ _ has. absurd (roomless has) in
      let lays : WhereTold before.raw (LaysInOrder before call new.raw.bytes) = λ tells. giving.lays before new.raw.bytes (left_lays before new passes (payload call) tells) in
      let starves : IsTrue (says_no_memory (Refused why)) → IsTrue (is_writing call) → new.life ≡ life.Failed → TookOwn before left = λ wanting writes failed. absurd (alive failed wanting) in
      let straight : OwesNoneOfIts before call (Refused why) left = grind (arith, left_old before new passes false) in
      let rests : before.life ≢ life.Live → new.raw ≡ before.raw = λ dead. absurd (dead may.gives.live) in
      search (rules)

-- the raw failed before anything was taken
pub stops_failed : (before after : Stream) (call : FileCall) → MayKeep before call → (HasRoom before (payload call) → ⊥) → SettleOutcome before (Err fault.RawFault) after → Answers before call (Refused fault.RawFault) after
stops_failed before after call may roomless fails =
    let is = is_faulted before 0 before.buffer call may.gives.writing in
    answers_unshort before after call (Refused fault.RawFault) may (record {
      kept = fails.0.kept;
      is_open = ap is_closed fails.1;
      causes = record { waits = λ cut. absurd (cc); faults = λ _. fails.2 };
      counted = λ exact. record { faults = λ sound. absurd (cc); waits = λ _ _. fails.3 exact; once = λ cut. absurd (cc) };
      shorts = says_short call fault.RawFault;
      life_is = subst (LifeMoves before.buffer call (Refused fault.RawFault) before.life) (sym fails.1) (is.life_is before.life);
      place = subst (PlaceMoves before.buffer call (Refused fault.RawFault) after.life before.place) (sym fails.0.still) (fails_there before.buffer call after.life before.place);
      wants = λ wanting. absurd (cc);
      one = λ one. absurd (cc (not_one before call may));
      answers = fault_answers before.buffer true call (no_tell call may.gives.writing);
      told = λ tells. raw_faulted refl refl (
        work_reaches (file_of before) call (works before call may.gives),
        is.faulted (file_of after) (0, omega arith, failed_file before after life.Failed (flat_of before) fails.0.kept fails.1 (passing_keeps_bytes before after fails.0 tells)),
      );
    }) (stopped_writes before after call fault.RawFault may roomless fails.0 (λ lives. absurd (let never : life.Live ≡ life.Failed = sym lives ∙ fails.1 in cc)) (λ failed wanting. absurd (cc)) (nothing_blocked (record after { short = false }) call fault.RawFault refl))

-- memory ran out before anything was taken
pub stops_starved : (before after : Stream) (call : FileCall) → MayKeep before call → (HasRoom before (payload call) → ⊥) → SettleOutcome before (Err fault.NoMemory) after → Answers before call (Refused fault.NoMemory) after
stops_starved before after call may roomless lacks =
    let goes : LivesOn before after = lacks.1 in
    let passes : PassesSome before after = goes.passes in
    let lives : after.life ≡ before.life = goes.live ∙ sym may.gives.live in
    let is = is_faulted before 0 before.buffer call may.gives.writing in
    answers_unshort before after call (Refused fault.NoMemory) may (record {
      kept = passes.kept;
      is_open = ap is_closed goes.live;
      causes = record { waits = λ cut. absurd (cc); faults = λ faulted. absurd (cc) };
      counted = λ exact. record { faults = λ _. goes.no_fault exact; waits = λ _ _. lacks.2 exact; once = λ cut. absurd (cc) };
      shorts = says_short call fault.NoMemory;
      life_is = subst (LifeMoves before.buffer call (Refused fault.NoMemory) before.life) (sym lives) (starves_alive before.buffer call before.life);
      place = subst (PlaceMoves before.buffer call (Refused fault.NoMemory) after.life before.place) (sym passes.still) (starves_there before.buffer call after.life before.place);
      wants = λ _. lacks.0;
      one = λ one. absurd (cc (not_one before call may));
      answers = starve_answers before.buffer true call (no_tell call may.gives.writing);
      told = λ tells. out_of_memory refl (work_reaches (file_of before) call (works before call may.gives), is.same (file_of after) (passing_file before after passes lives tells));
    }) (stopped_writes before after call fault.NoMemory may roomless passes (λ lives. goes.just) (λ failed wanting. let wrong : life.Live ≡ life.Failed = sym goes.live ∙ failed in cc) (nothing_blocked (record after { short = false }) call fault.NoMemory refl))

-- such a call isn't refused before the raw is called
pub accepts_kept : (before : Stream) (call : FileCall) → MayKeep before call → refused_by before call ≡ None
accepts_kept before call may = refused_alone before call ((is_giving call may.gives.writing).asks (file_of before)) ∙ accepted before call may.gives
