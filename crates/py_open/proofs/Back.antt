-- A text goes back to where it told.
use Rattle.std.proofs.Common.{inl, inr, ◌≡◌, ◌≢◌, ◌⊎◌, ℕ, zero, suc, ◌+◌, ◌≤◌, pos, negsuc, ℤ, Bool, true, false, not, ◌&&◌, ◌||◌, is_none, IsTrue, List, [], ◌∷◌, length, Option, Some, None, if◌then◌else◌, refl, sym, ap, ◌∙◌, subst, arith}
use Rattle.std.proofs.lemmas.Bool.{and_parts, false≢true}
use Rattle.py_flat.specs.declared.fault.IoFault.{IoFault}
use Rattle.py_flat.specs.declared.fault.IoFault.TheVariants as fault
use Rattle.py_flat.specs.declared.life.Life.{Life}
use Rattle.py_flat.specs.declared.life.Life.TheVariants as life
use Rattle.py_flat.specs.Calls.{FileReply, Text, Cookie, Done, Unwritten, Refused}
use Rattle.py_flat.specs.FlatFile.{Abilities}
use Rattle.py_flat.specs.Limits.{greatest_place}
use Rattle.py_flat.specs.Refusals.{or_else, refused_if}
use Rattle.py_flat.specs.BinaryStep.{is_live}
use Rattle.py_flat.specs.AllowedStep.{settled, waited_for, raw_faulted, out_of_memory}
use Rattle.py_plain.specs.declared.encoding.Encoding.{Encoding}
use Rattle.py_plain.specs.declared.handler.Handler.{Handler}
use Rattle.py_plain.specs.declared.newlines.Newlines.{Newlines}
use Rattle.py_plain.specs.Handlers.{reads_texts}
use Rattle.py_plain.specs.Units.{Unknown}
use Rattle.py_plain_text.specs.TextFile.{Front, TextPlace, TextSettings, TextFile}
use Rattle.py_plain_text.specs.TextStep.{ReadsTextPart}
use Rattle.py_plain_text.specs.Rest.{text_rest}
use Rattle.py_plain_text.specs.Cookie as cookie
use Rattle.py_plain_text.specs.Cookie.{cookie_bytes, cookie_of, order_of}
use Rattle.py_plain_text.specs.declared.text_cookie.TextIOCookie.{TextIOCookie}
use Rattle.py_plain_text.specs.CookieView.{cookie_shown}
use Rattle.py_plain_text.specs.CookieLaws.{StandsInText, FrontStands, LiesInReach}
use Rattle.py_plain_text.specs.Landing.{Landed, Stands, CantRestore, skips, is_restorable, start_place, place_inside, lands}
use Rattle.py_plain_text.specs.Telling.{placed, told}
use Rattle.py_plain_text.specs.TextCalls as text
use Rattle.py_plain_text.specs.TextCalls.{TextFileCall, is_own, tells_name}
use Rattle.py_plain_text.specs.TextRefusals.{refusal, life_refusal}
use Rattle.py_plain_text.specs.TextExact.{sought_cookie, after_landing, answered, exact}
use Rattle.py_plain_text.specs.TextAllowed as text_file
use Rattle.py_plain_text.specs.TextAllowed.{TextFileStep}
use Rattle.py_plain_text.proofs.Cookies.{flags-order}
use Rattle.py_plain_text.proofs.Orders.{exact_order}
use Rattle.py_plain_text.proofs.Sought.{told_then_sought}
use Rattle.py_plain_text.proofs.Standing.{opened_stands}
use Rattle.py_plain_text.proofs.StandingSteps.{step_stands}
use Rattle.py_raw.specs.RawStream.{Raw, tells}
use Rattle.py_raw.proofs.Telling.{tells_still}
use Rattle.py_stream.specs.Access.{can_of}
use Rattle.py_text.specs.Coders.{is_of_stream}
use Rattle.py_calls.specs.declared.call.Call.{Call}
use Rattle.py_calls.specs.declared.call.Call.TheVariants as call
use Rattle.py_calls.specs.declared.reply.Reply.{Reply}
use Rattle.py_calls.specs.declared.reply.Reply.TheVariants as reply
use Rattle.py_calls.specs.Calls.{text_call, said}
use Rattle.py_calls.specs.declared.mode.FileMode.TheVariants as mode
use Rattle.py_calls.specs.declared.mode.Mode.{Mode}
use Rattle.py_calls.specs.declared.plan.OpenPlan.{OpenPlan}
use Rattle.py_calls.specs.declared.plan.PlanKind.{PlanKind}
use Rattle.py_calls.specs.declared.plan.PlanKind.TheVariants as kind
use Rattle.py_calls.specs.declared.plan.TextPlan.{TextPlan}
use Rattle.py_calls.specs.Mode.{reads, writes}
use Rattle.py_calls.specs.Plan.{IsPlannedAs, IsPlanned}
use Rattle.py_read_text.specs.TextState as state
use Rattle.py_read_text.specs.TextState.{TextState}
use Rattle.py_read_text.specs.Answers as over
use Rattle.py_open.specs.TextHanding.{left_by, AnswersCall}
use Rattle.py_open.specs.TextOpening.{text_opened, OpensText}
use Rattle.py_open.specs.Session.{OfText, SessionView, TextSession, BinarySession, IsDetachedText, LeftBy, AnswersTextBy, Answers, raw_of, file_seen, life_of}
use Rattle.py_open.specs.Opening.{access_of, text_settings, OpensBy, OpensSession}
use Rattle.py_open.specs.Run.{IsRun, IsSmooth}
use Rattle.py_open.specs.Laws.{left_exactly, session_exact, IsReached, GoesBackFrom, IsBack, GoesBackBy, BringsBack}
use Rattle.py_open.proofs.Reached.{opening_keeps, run_reached}
use Rattle.py_open.proofs.Reaching.{opened_reaches, run_reaches}
use Rattle.py_open.proofs.TextLeft.{call_life}
use Rattle.py_open.proofs.Steps.{step_keeps, step_told, smooth_step}
use Rattle.py_open.proofs.Runs.{run_keeps_raw, run_keeps_settings, settled_is_exact}

-- The order of a text.

-- a text says no order
abbrev HasNone : TextFile → Type 0
HasNone file = file.place.order ≡ Unknown

landed_order : (file : TextFile) (goal : cookie.Cookie) (skipped restorable : Bool) → (after_landing file goal (if not skipped then Stands (start_place goal) else if restorable then Stands (place_inside goal) else CantRestore (start_place goal))).1.place.order ≡ order_of goal.dec_flags
landed_order file goal false restorable = refl
landed_order file goal true true = refl
landed_order file goal true false = refl

-- the cookie of a seek that isn't refused says none
goal_order : (file : TextFile) (bytes : List ℕ) (whence : ℤ) → refusal file (text.SeekText bytes whence) ≡ None → HasNone file → order_of (sought_cookie file bytes whence).dec_flags ≡ Unknown
goal_order file bytes whence free none =
    let goal : cookie.Cookie = sought_cookie file bytes whence in
    let is : HasNone (answered file (text.SeekText bytes whence) None).1 = subst (λ (why : Option IoFault). HasNone (answered file (text.SeekText bytes whence) why).1) free (exact_order file (text.SeekText bytes whence) none) in
    sym (landed_order file goal (skips goal) (is_restorable file goal)) ∙ is

is_let_through : (why : Option IoFault) → is_none why ≡ true → why ≡ None
is_let_through None is = refl
is_let_through (Some why) is = absurd (cc)

-- a call that does work isn't refused
works_free : (file : TextFile) (call : TextFileCall) → text_file.does_work file call ≡ true → refusal file call ≡ None
works_free file call works =
    let rest = (and_parts (is_live file.life) (is_none (refusal file call) && not (is_own call)) works).1 in
    is_let_through (refusal file call) (and_parts (is_none (refusal file call)) (not (is_own call)) rest).0

settled_order : (file : TextFile) (call : TextFileCall) (why : Option IoFault) (reply : FileReply) (after : TextFile) → refusal file call ≡ why → text_file.SettledBy file call why reply after → is_live after.life ≡ true → HasNone file → HasNone after
settled_order file call (Some why) reply after is settles lives none = ap (λ (f : TextFile). f.place.order) settles.1 ∙ none
settled_order file text.Detach None reply after is settles lives none = absurd (false≢true (sym (ap is_live (detached_life file.life file reply after settles)) ∙ lives))
  where
    detached_life : (was : Life) (f : TextFile) (says : FileReply) (left : TextFile) → text_file.DetachesIn was f says left → left.life ≡ life.Detached
    detached_life life.Failed f says left back = ap (λ (g : TextFile). g.life) back.leaves
    detached_life life.Live f says left same = ap (λ (p : FileReply × TextFile). p.1.life) same
    detached_life life.Closed f says left same = ap (λ (p : FileReply × TextFile). p.1.life) same
    detached_life life.Detached f says left same = ap (λ (p : FileReply × TextFile). p.1.life) same
settled_order file call None reply after is settles lives none =
    ap (λ (p : FileReply × TextFile). p.1.place.order) settles
    ∙ subst (λ (why : Option IoFault). HasNone (answered file call why).1) is (exact_order file call none)

part_order : (file : TextFile) (wanted : List ℕ) (reply : FileReply) (after : TextFile) → ReadsTextPart file wanted reply after → HasNone file → HasNone after
part_order file wanted reply after (inl same) none = ap (λ (f : TextFile). f.place.order) same.1 ∙ none
part_order file wanted reply after (inr some) none = ap (λ (f : TextFile). f.place.order) some.4 ∙ none

waited_order : (file : TextFile) (call : TextFileCall) (reply : FileReply) (after : TextFile) → refusal file call ≡ None → text_file.WaitedBy file call reply after → HasNone file → HasNone after
waited_order file (text.Read size) reply after free part none = part_order file _ reply after part none
waited_order file (text.ReadLine limit) reply after free part none = part_order file _ reply after part none
waited_order file (text.WriteText written) reply after free part none = ap (λ (f : TextFile). f.place.order) part.1 ∙ none
waited_order file (text.SeekText bytes whence) reply after free (inl same) none = ap (λ (f : TextFile). f.place.order) same.1 ∙ none
waited_order file (text.SeekText bytes whence) reply after free (inr start) none = ap (λ (f : TextFile). f.place.order) start.2 ∙ goal_order file bytes whence free none
waited_order file text.Flush reply after free part none = ap (λ (f : TextFile). f.place.order) part.1 ∙ none
waited_order file text.Close reply after free part none = ap (λ (f : TextFile). f.place.order) part.1 ∙ none
waited_order file text.Detach reply after free part none = ap (λ (f : TextFile). f.place.order) part.1 ∙ none
waited_order file call reply after free part none = absurd part

-- of two of which the second doesn't hold the first does
first_of : (first : Bool) → IsTrue ((first || false) || false) → first ≡ true
first_of true is = refl
first_of false is = absurd (cc)

starved_seek : (file : TextFile) (bytes : List ℕ) (whence : ℤ) (after : TextFile) → IsTrue (text_file.reaches_raw file (text.SeekText bytes whence) || false) → IsTrue (skips (sought_cookie file bytes whence)) → after ≡ placed file (start_place (sought_cookie file bytes whence)) → HasNone file → HasNone after
starved_seek file bytes (pos (suc (suc zero))) after reaches skipped is none = absurd (cc)
starved_seek file bytes (pos zero) after reaches skipped is none =
    ap (λ (f : TextFile). f.place.order) is ∙ goal_order file bytes (pos zero) (works_free file (text.SeekText bytes (pos zero)) (first_of (text_file.does_work file (text.SeekText bytes (pos zero))) reaches)) none
starved_seek file bytes (pos (suc zero)) after reaches skipped is none =
    ap (λ (f : TextFile). f.place.order) is ∙ goal_order file bytes (pos (suc zero)) (works_free file (text.SeekText bytes (pos (suc zero))) (first_of (text_file.does_work file (text.SeekText bytes (pos (suc zero)))) reaches)) none
starved_seek file bytes (pos (suc (suc (suc n)))) after reaches skipped is none =
    ap (λ (f : TextFile). f.place.order) is ∙ goal_order file bytes (pos (suc (suc (suc n)))) (works_free file (text.SeekText bytes (pos (suc (suc (suc n))))) (first_of (text_file.does_work file (text.SeekText bytes (pos (suc (suc (suc n)))))) reaches)) none
starved_seek file bytes (negsuc n) after reaches skipped is none =
    ap (λ (f : TextFile). f.place.order) is ∙ goal_order file bytes (negsuc n) (works_free file (text.SeekText bytes (negsuc n)) (first_of (text_file.does_work file (text.SeekText bytes (negsuc n))) reaches)) none

starved_order : (file : TextFile) (call : TextFileCall) (after : TextFile) → IsTrue (text_file.reaches_raw file call || tells_name call) → text_file.LeftStarved file call after → HasNone file → HasNone after
starved_order file (text.SeekText bytes whence) after reaches (inl same) none = ap (λ (f : TextFile). f.place.order) same ∙ none
starved_order file (text.SeekText bytes whence) after reaches (inr start) none = starved_seek file bytes whence after reaches start.0 start.1 none
starved_order file call after reaches same none = ap (λ (f : TextFile). f.place.order) same ∙ none

dead_after : (call : TextFileCall) → is_live (text_file.life_after_fault call) ≡ false
dead_after text.Close = refl
dead_after call = refl

-- no call says an order of a live text
step_order : (before : TextFile) (call : TextFileCall) (reply : FileReply) (waited faulted : Bool) (after : TextFile) → HasNone before → TextFileStep before call reply waited faulted after → is_live after.life ≡ true → HasNone after
step_order before call reply waited faulted after none (settled settles) lives = settled_order before call (refusal before call) reply after refl settles lives none
step_order before call reply waited faulted after none (waited_for rose part) lives = waited_order before call reply after (works_free before call part.0) part.1 none
step_order before call reply waited faulted after none (raw_faulted rose says fails) lives = absurd (false≢true (sym (dead_after call) ∙ (sym (ap is_live fails.1.2.life_is) ∙ lives)))
step_order before call reply waited faulted after none (out_of_memory says (inl left)) lives = starved_order before call after left.0 left.1 none
step_order before call reply waited faulted after none (out_of_memory says (inr fails)) lives = absurd (false≢true (sym (ap is_live fails.1.1.2.life_is) ∙ lives))

-- Where sessions stand.

-- a live text stands where a cookie tells its place
record TellsIn (file : TextFile) : Type 0 where
  stands : StandsInText file
  none : HasNone file

abbrev Tells : SessionView → Type 0
Tells (TextSession now) = now.text.life ≡ life.Live → TellsIn (state.file_of now)
Tells (BinarySession stream) = Unit {0}

-- the handler of a text that is read is one of those
reads_by : (planned : Mode) (handler : Handler) (seekable : Bool) → is_of_stream (reads planned) (writes planned) handler ≡ true → (can_of (access_of planned) seekable).readable ≡ true → reads_texts handler ≡ true
reads_by planned handler seekable is readable = grind arith

opened_tells : (planned : PlanKind) (by : Mode) (raw : Raw) (session : SessionView) → IsPlannedAs by planned → OpensBy planned (access_of by) raw session → Tells session
opened_tells (kind.Text plan) by raw (TextSession now) may opens = λ live.
    let file = text_opened now.text.buffer.raw.bytes now.text.buffer.place (can_of (access_of by) raw.seekable) (text_settings plan) in
    let stands = opened_stands file (reads_by by plan.coder.errors raw.seekable may.handler) now.text.buffer.place Unknown in
    subst TellsIn (sym opens.file) (record { stands = stands; none = refl })
opened_tells (kind.Buffered size) by raw (BinarySession stream) may opens = tt
opened_tells kind.Bare by raw (BinarySession stream) may opens = tt
opened_tells (kind.Text plan) by raw (BinarySession stream) may opens = absurd opens
opened_tells (kind.Buffered size) by raw (TextSession now) may opens = absurd opens
opened_tells kind.Bare by raw (TextSession now) may opens = absurd opens

-- only a live text is left live
moves_live : (writable : Bool) (call : TextFileCall) (says : FileReply) (was is : Life) → over.LifeMoves writable call says was is → is ≡ life.Live → was ≡ life.Live
moves_live writable call says was is moves live = grind arith

was_live : (getter : Bool) (before : TextState) (call : TextFileCall) (says : FileReply) (after : TextState) → AnswersTextBy getter before call says after → after.text.life ≡ life.Live → before.text.life ≡ life.Live
was_live true before call says after step live = sym (ap (λ (t : TextState). t.text.life) step.same) ∙ live
was_live false before call says after step live =
    moves_live before.text.buffer.can.writable call says before.text.life step.answered.text.life step.answers.moves.life_is (sym (call_life before call says after step) ∙ live)

-- what a call leaves of a text that it leaves live
left_live : (was is : Life) (file : TextFile) (says : FileReply) (after : TextFile) → was ≡ life.Live → LeftBy IsDetachedText was is file says after → after.life ≡ life.Live → after ≡ file
left_live life.Live life.Detached file says after was left live = let wrong : life.Detached ≡ life.Live = sym left.life_is ∙ live in absurd (cc)
left_live life.Live is file says after was left live = left
left_live was is file says after other left live = absurd (cc)

step_tells : (before : SessionView) (call : Call) (says : Reply) (after : SessionView) → Answers before call says after → IsTrue (tells (raw_of before)) → Tells before → Tells after
step_tells (TextSession before) call says (TextSession after) step told_by had = λ live.
    let was : before.text.life ≡ life.Live = was_live (text.is_getter (text_call call)) before (text_call call) (said says) after step.answers live in
    let left = step_told (TextSession before) call says (TextSession after) step told_by in
    let same : state.file_of after ≡ left.file = left_live before.text.life left.file.life left.file (said says) (state.file_of after) was left.left live in
    let lives : is_live left.file.life ≡ true = ap is_live (sym (ap (λ (f : TextFile). f.life) same) ∙ live) in
    let here = had was in
    subst TellsIn (sym same) (record {
      stands = step_stands (state.file_of before) (text_call call) (said says) _ _ left.file here.stands left.step lives;
      none = step_order (state.file_of before) (text_call call) (said says) _ _ left.file here.none left.step lives;
    })
step_tells (BinarySession before) call says (BinarySession after) step told_by had = tt
step_tells (TextSession before) call says (BinarySession after) step told_by had = absurd step
step_tells (BinarySession before) call says (TextSession after) step told_by had = absurd step

run_tells : (before : SessionView) (calls : List Call) (replies : List Reply) (after : SessionView) → IsRun before calls replies after → IsTrue (tells (raw_of before)) → Tells before → Tells after
run_tells before [] [] after run told_by had = subst Tells (sym run) had
run_tells before (call ∷ calls) (says ∷ replies) after run told_by had =
    run_tells run.0 calls replies after run.2 (tells_still (raw_of before) (raw_of run.0) (step_keeps before call says run.0 run.1).0 ∙ told_by) (step_tells before call says run.0 run.1 told_by had)
run_tells before [] (says ∷ replies) after run told_by had = absurd run
run_tells before (call ∷ calls) [] after run told_by had = absurd run

-- What a tell says.

abbrev cookie_in : FileReply → List ℕ
cookie_in (Cookie bytes) = bytes
cookie_in says = []

record SaysWhere (file : TextFile) (bytes : List ℕ) : Type 0 where
  says : bytes ≡ cookie_bytes (told file)
  free : refusal file text.Tell ≡ None

settled_says : (file : TextFile) (why : Option IoFault) (bytes : List ℕ) (after : TextFile) → refusal file text.Tell ≡ why → text_file.SettledBy file text.Tell why (Cookie bytes) after → SaysWhere file bytes
settled_says file (Some why) bytes after is settles = let wrong : Cookie bytes ≡ Refused why = settles.0 in absurd (cc)
settled_says file None bytes after is settles = record { says = ap (λ (p : FileReply × TextFile). cookie_in p.0) settles; free = is }

tell_says : (file : TextFile) (bytes : List ℕ) (waited faulted : Bool) (after : TextFile) → TextFileStep file text.Tell (Cookie bytes) waited faulted after → SaysWhere file bytes
tell_says file bytes waited faulted after (settled settles) = settled_says file (refusal file text.Tell) bytes after refl settles
tell_says file bytes waited faulted after (waited_for rose part) = absurd part.1
tell_says file bytes waited faulted after (raw_faulted rose says left) = let wrong : Cookie bytes ≡ Refused fault.RawFault = says in absurd (cc)
tell_says file bytes waited faulted after (out_of_memory says left) = let wrong : Cookie bytes ≡ Refused fault.NoMemory = says in absurd (cc)

-- it is told of a live text that can be moved
free_tell : (was : Life) (seekable : Bool) → or_else (life_refusal was text.Tell) (or_else (refused_if (not seekable) fault.Unsupported) None) ≡ None → (was ≡ life.Live) × (seekable ≡ true)
free_tell life.Live true is = (refl, refl)
free_tell life.Live false is = absurd (cc)
free_tell life.Failed seekable is = absurd (cc)
free_tell life.Closed seekable is = absurd (cc)
free_tell life.Detached seekable is = absurd (cc)

-- a tell leaves a text no further than a stream can stand
told_near : (before : TextState) (says : FileReply) (after : TextState) → AnswersCall before text.Tell says after → before.text.place.at ≤ greatest_place
told_near before says after step =
    let at : step.answered.text.place.at ≡ before.text.place.at = ap (λ (p : TextPlace). p.at) step.answers.moves.place in
    omega (arith, at, step.answers.joined.behind, step.answers.joined.far)

-- Going back.

record GoesBack (was : TextFile) (bytes : List ℕ) (says : FileReply) (after : TextFile) : Type 0 where
  says_it : says ≡ Cookie bytes
  rest : text_rest after ≡ text_rest was
  life_is : after.life ≡ was.life

landed_same : (was : TextFile) (at : TextPlace) (goal : cookie.Cookie) (landed : Landed) → after_landing (placed was at) goal landed ≡ after_landing was goal landed
landed_same was at goal (Stands place) = refl
landed_same was at goal (CantRestore place) = refl

landed_life : (was : TextFile) (goal : cookie.Cookie) (landed : Landed) → (after_landing was goal landed).1.life ≡ was.life
landed_life was goal (Stands place) = refl
landed_life was goal (CantRestore place) = refl

-- a text is answered the same wherever it stands
same_by : (was : TextFile) (at : TextPlace) (bytes : List ℕ) (why : Option IoFault) → (answered was (text.SeekText bytes (pos zero)) why).0 ≡ Cookie bytes → text_rest (answered was (text.SeekText bytes (pos zero)) why).1 ≡ text_rest was → GoesBack was bytes (answered (placed was at) (text.SeekText bytes (pos zero)) why).0 (answered (placed was at) (text.SeekText bytes (pos zero)) why).1
same_by was at bytes (Some why) says rest = let wrong : Refused why ≡ Cookie bytes = says in absurd (cc)
same_by was at bytes None says rest =
    let goal = cookie_of bytes in
    let same = landed_same was at goal (lands was goal) in
    record {
      says_it = ap (λ (p : FileReply × TextFile). p.0) same ∙ says;
      rest = ap (λ (p : FileReply × TextFile). text_rest p.1) same ∙ rest;
      life_is = ap (λ (p : FileReply × TextFile). p.1.life) same ∙ landed_life was goal (lands was goal);
    }

back_from : (was : TextFile) (at : TextPlace) (bytes : List ℕ) → TellsIn was → LiesInReach was → was.life ≡ life.Live → was.can.seekable ≡ true → was.can.appending ≡ false → bytes ≡ cookie_bytes (told was) → GoesBack was bytes (exact (placed was at) (text.SeekText bytes (pos zero))).0 (exact (placed was at) (text.SeekText bytes (pos zero))).1
back_from was at bytes here reach lives able forward is =
    let back = told_then_sought was here.stands reach lives able forward here.none in
    let here_back : ((exact was (text.SeekText bytes (pos zero))).0 ≡ Cookie bytes) × (text_rest (exact was (text.SeekText bytes (pos zero))).1 ≡ text_rest was) =
    subst (λ (some : List ℕ). ((exact was (text.SeekText some (pos zero))).0 ≡ Cookie some) × (text_rest (exact was (text.SeekText some (pos zero))).1 ≡ text_rest was)) (sym is) back in
    same_by was at bytes (refusal was (text.SeekText bytes (pos zero))) here_back.0 here_back.1

-- a text with the parts of another is that one, put elsewhere
pub put_elsewhere : (was now : TextFile) → now.bytes ≡ was.bytes → now.can ≡ was.can → now.settings ≡ was.settings → now.life ≡ was.life → now ≡ placed was now.place
put_elsewhere was now bytes can settings current =
    ap (λ (b : List ℕ). let file : TextFile = record now { bytes = b } in file) bytes
    ∙ (ap (λ (c : Abilities). let file : TextFile = record now { bytes = was.bytes; can = c } in file) can
    ∙ (ap (λ (s : TextSettings). let file : TextFile = record now { bytes = was.bytes; can = was.can; settings = s } in file) settings
    ∙ ap (λ (l : Life). let file : TextFile = record now { bytes = was.bytes; can = was.can; settings = was.settings; life = l } in file) current))

pub left_whole : (was is : Life) (file : TextFile) → was ≡ life.Live → is ≡ life.Live → left_exactly was is file ≡ file
left_whole life.Live life.Live file first second = refl
left_whole life.Live life.Failed file first second = refl
left_whole life.Live life.Closed file first second = refl
left_whole life.Live life.Detached file first second = absurd (cc)
left_whole was is file first second = absurd (cc)

-- a text that answered exactly so
exactly_back : (was now : TextFile) (bytes : List ℕ) (says : FileReply) (after : TextFile) → now.life ≡ life.Live → was.life ≡ life.Live → GoesBack was bytes (exact now (text.SeekText bytes (pos zero))).0 (exact now (text.SeekText bytes (pos zero))).1 → says ≡ (session_exact now (call.SeekText bytes (pos zero))).0 → after ≡ (session_exact now (call.SeekText bytes (pos zero))).1 → (says ≡ Cookie bytes) × (text_rest after ≡ text_rest was)
exactly_back was now bytes says after lives lived back is leaves =
    let file : TextFile = (exact now (text.SeekText bytes (pos zero))).1 in
    (is ∙ back.says_it, ap text_rest (leaves ∙ left_whole now.life file.life file lives (back.life_is ∙ lived)) ∙ back.rest)

head_same : (one other : FileReply) (ones others : List FileReply) → one ∷ ones ≡ other ∷ others → one ≡ other
head_same one other ones others is = cc

text_same : (one other : TextFile) → OfText one ≡ OfText other → one ≡ other
text_same one other is = cc

-- a session that was reached tells, and stands as calls leave one
record IsKnown (session : SessionView) : Type 0 where
  told : IsTrue (tells (raw_of session))
  known : Tells session

reached_known : (session : SessionView) → IsReached session → IsKnown session
reached_known session is =
    let tell : IsTrue (tells (raw_of is.opened)) = tells_still is.raw (raw_of is.opened) (opening_keeps is.plan.kind (access_of is.plan.mode) is.raw is.opened is.opens).keeps ∙ is.told in
    record {
      told = tells_still (raw_of is.opened) (raw_of session) (run_keeps_raw is.opened is.calls is.replies session is.run) ∙ tell;
      known = run_tells is.opened is.calls is.replies session is.run tell (opened_tells is.plan.kind is.plan.mode is.raw is.opened is.planned is.opens);
    }

pub reached_stands : (now : TextState) → IsReached (TextSession now) → now.text.life ≡ life.Live → StandsInText (state.file_of now)
reached_stands now is live = ((reached_known (TextSession now) is).known live).stands

-- it has no more bytes than a stream can have
pub reached_reach : (now : TextState) → IsReached (TextSession now) → length (state.file_of now).bytes ≤ greatest_place
reached_reach now is = run_reaches is.opened is.calls is.replies (TextSession now) (opened_reaches is.plan.kind (access_of is.plan.mode) is.raw is.opened is.opens) is.run (reached_known (TextSession now) is).told

pub reached_order : (now : TextState) → IsReached (TextSession now) → now.text.life ≡ life.Live → (state.file_of now).place.order ≡ Unknown
reached_order now is live = ((reached_known (TextSession now) is).known live).none

-- a text as another has it that is read by the same rules: with that one's abilities, size of chunks and ways of writing
abbrev had_by : TextFile → TextFile → TextFile
had_by other file = record file { can = other.can; settings = record other.settings { encoding = file.settings.encoding; handler = file.settings.handler; newline = file.settings.newline } }

-- an item stands in both
front_had : (other file : TextFile) (front : Option Front) → FrontStands file front → FrontStands (had_by other file) front
front_had other file None stands = stands
front_had other file (Some front) stands = record {
  item = stands.item;
  stands = record { some = stands.stands.some; few = stands.stands.few; within = stands.stands.within; items = stands.stands.items; ending = stands.stands.ending; whole = stands.stands.whole };
  skips = stands.skips;
  behind = stands.behind;
}

-- a text stands in its place also where another has it that can be read where it can
stands_had : (other file : TextFile) → other.settings.handler ≡ file.settings.handler → (file.can.readable ≡ true → other.can.readable ≡ true) → StandsInText other → StandsInText file → StandsInText (had_by other file)
stands_had other file handler reads one stands = record {
  reads = λ readable. subst (λ (h : Handler). reads_texts h ≡ true) handler (one.reads readable);
  front = front_had other file file.place.front stands.front;
  clean = stands.clean;
  still = λ unread. stands.still (never_read file.can.readable other.can.readable reads unread);
}
  where
    never_read : (was is : Bool) → (was ≡ true → is ≡ true) → is ≡ false → was ≡ false
    never_read false is reads unread = refl
    never_read true is reads unread = absurd (false≢true (sym unread ∙ reads refl))

-- settings by three of them
settings_had : (was now : TextSettings) → now.encoding ≡ was.encoding → now.handler ≡ was.handler → now.newline ≡ was.newline → now ≡ record now { encoding = was.encoding; handler = was.handler; newline = was.newline }
settings_had was now encoding handler newline =
    ap (λ (e : Encoding). let own : TextSettings = record now { encoding = e } in own) encoding
    ∙ (ap (λ (h : Handler). let own : TextSettings = record now { encoding = was.encoding; handler = h } in own) handler
    ∙ ap (λ (n : Newlines). let own : TextSettings = record now { encoding = was.encoding; handler = was.handler; newline = n } in own) newline)

pub goes_back : (was after_tell now after : TextState) (seen : TextIOCookie) (says : Reply) → IsReached (TextSession was) → Answers (TextSession was) call.Tell (reply.Cookie seen) (TextSession after_tell) → IsReached (TextSession now) → GoesBackFrom was now → Answers (TextSession now) (call.SeekText (cookie_bytes (cookie_shown seen)) (pos zero)) says (TextSession after) → IsSmooth now.text.buffer.raw after.text.buffer.raw → said says ≢ Refused fault.NoMemory → IsBack was seen says after
goes_back was after_tell now after seen says reached tell_step later back step smooth had =
    let bytes : List ℕ = cookie_bytes (cookie_shown seen) in
    let there = reached_known (TextSession was) reached in
    let here = reached_known (TextSession now) later in
    let told_step = step_told (TextSession was) call.Tell (reply.Cookie seen) (TextSession after_tell) tell_step there.told in
    let where_it = tell_says (state.file_of was) bytes _ _ told_step.file told_step.step in
    let free = free_tell was.text.life was.text.buffer.can.seekable where_it.free in
    let known = there.known free.0 in
    let file : TextFile = had_by (state.file_of now) (state.file_of was) in
    let reach : LiesInReach file = record { bytes = reached_reach was reached; place = told_near was (Cookie bytes) after_tell tell_step.answers } in
    let stands : TellsIn file = record { stands = stands_had (state.file_of now) (state.file_of was) back.handler back.reads (here.known back.live).stands known.stands; none = known.none } in
    let elsewhere : state.file_of now ≡ placed file now.text.place = put_elsewhere file (state.file_of now) back.bytes refl (settings_had was.text.settings now.text.settings back.encoding back.handler back.newline) (back.live ∙ sym free.0) in
    let goes = back_from file now.text.place bytes stands reach free.0 back.moves back.forward where_it.says in
    let goes_now = subst (λ (f : TextFile). GoesBack file bytes (exact f (text.SeekText bytes (pos zero))).0 (exact f (text.SeekText bytes (pos zero))).1) (sym elsewhere) goes in
    let settles = smooth_step (TextSession now) (call.SeekText bytes (pos zero)) says (TextSession after) step here.told smooth had in
    let is = settled_is_exact (state.file_of now) (call.SeekText bytes (pos zero) ∷ []) (said says ∷ []) (OfText (state.file_of after)) (inr (refl, tt)) (OfText (state.file_of after), settles, refl) in
    let both = exactly_back file (state.file_of now) bytes (said says) (state.file_of after) back.live free.0 goes_now
    (head_same (said says) (session_exact (state.file_of now) (call.SeekText bytes (pos zero))).0 [] [] is.says)
    (text_same (state.file_of after) (session_exact (state.file_of now) (call.SeekText bytes (pos zero))).1 is.leaves) in
    record { says = both.0; rest = both.1 }

-- a seek by a cookie that was told
goes_back_by : (before : SessionView) (call : Call) (says : Reply) (after : SessionView) → Answers before call says after → GoesBackBy before call says after
goes_back_by (TextSession now) (call.SeekText bytes (pos zero)) says (TextSession after) step = λ was after_tell seen are there tell_step later back smooth had.
    goes_back was after_tell now after seen says there tell_step later back (subst (λ (sought : List ℕ). Answers (TextSession now) (call.SeekText sought (pos zero)) says (TextSession after)) are step) smooth had
goes_back_by before call says after step = tt

-- so, of a session as it is seen from within
pub goes_back_from : (before inside : SessionView) (call : Call) (says : Reply) (after : SessionView) → inside ≡ before → Answers inside call says after → GoesBackBy before call says after
goes_back_from before inside call says after same step = subst (λ (view : SessionView). GoesBackBy view call says after) same (goes_back_by inside call says after step)

-- of a session that a plan opens over a raw that tells
pub brings_back : (raw : Raw) (plan : OpenPlan) (opened : SessionView) → IsTrue (tells raw) → IsPlanned plan → OpensSession raw plan opened → BringsBack opened
brings_back raw plan opened told planned opens = record {
  reached = λ calls replies session run. run_reached raw plan opened calls replies session told planned opens run;
  back = λ was after_tell now after seen calls replies says there tell_step run back step smooth had.
      goes_back was after_tell now after seen says there tell_step (run_reached raw plan opened calls replies (TextSession now) told planned opens run) back step smooth had;
}
