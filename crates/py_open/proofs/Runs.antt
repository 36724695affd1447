-- What holds of whole runs, from what holds of each call.
use Rattle.std.proofs.Common.{◌≡◌, ◌≢◌, ◌⊎◌, inl, inr, ℕ, Bool, true, not, Option, Some, None, suc, ◌+◌, ◌≤◌, min, nat_le, false, IsTrue, List, [], ◌∷◌, ◌++◌, length, refl, sym, ap, subst, ◌∙◌, arith}
use Rattle.std.proofs.lemmas.Bool.{leb-false, lt-leb}
use Rattle.py_flat.specs.declared.life.Life.{Life}
use Rattle.py_flat.specs.declared.life.Life.TheVariants as life
use Rattle.py_flat.specs.Bytes.{first_of}
use Rattle.py_flat.specs.Lines.{first_line, is_ended}
use Rattle.py_flat.specs.Limits.{greatest_count}
use Rattle.py_flat.specs.Calls.{FileReply, Refused}
use Rattle.py_flat.specs.declared.fault.IoFault.{IoFault}
use Rattle.py_plain.specs.NewlineRule.{line_end}
use Rattle.py_plain_text.specs.TextFile.{TextFile}
use Rattle.py_plain_text.specs.TextCalls as text
use Rattle.py_plain_text.specs.TextRefusals as refusals
use Rattle.py_plain_text.specs.Rest.{text_rest}
use Rattle.py_plain_text.specs.TextStep.{range_refusal, asks_past, asks_any, after_taking, after_text_read, answered_text}
use Rattle.py_plain_text.specs.Cookie as cookie
use Rattle.py_plain_text.specs.Landing.{Landed, Stands, CantRestore, lands}
use Rattle.py_plain_text.specs.TextExact.{carried_out, answered, exact, sought_cookie, after_landing}
use Rattle.py_plain_text.specs.TextAllowed as text_file
use Rattle.py_raw.specs.RawStream.{Raw, Keeps, tells, AnswersFor}
use Rattle.py_raw.proofs.Telling.{keeps_same, tells_still}
use Rattle.py_raw.proofs.ReadingOn.{Keeps-then}
use Rattle.py_stream.specs.Kinds.{says_fault}
use Rattle.py_stream.specs.Answers.{ClosedWith}
use Rattle.py_calls.specs.declared.call.Call.{Call}
use Rattle.py_calls.specs.declared.call.Call.TheVariants as call
use Rattle.py_calls.specs.declared.reply.Reply.{Reply}
use Rattle.py_calls.specs.Calls.{text_call, said}
use Rattle.py_stream.specs.declared.access.Access.{Access}
use Rattle.py_calls.specs.declared.plan.OpenPlan.{OpenPlan}
use Rattle.py_calls.specs.declared.plan.PlanKind.{PlanKind}
use Rattle.py_calls.specs.declared.plan.PlanKind.TheVariants as kind
use Rattle.py_open.specs.Session.{SessionFile, OfText, OfBinary, SessionView, TextSession, BinarySession, Settles, SettlesTextFile, unwritten_in, file_seen, raw_of, life_of, short_of, IsInStep}
use Rattle.py_open.specs.Opening.{access_of, OpensBy, OpensSession}
use Rattle.py_open.specs.Run.{Entry, IsRun, IsHistory, IsCalm, IsSmooth, NoneLacksMemory, AllSettle, all_said, calls_of, replies_of}
use Rattle.py_open.specs.Laws.{left_exactly, session_left, session_exact, detaches, KnowsAnswers, exact_replies, exact_after, IsExact, HasHistory, RunsInTwo, RunsComplete, KeepsSettings, OnlyReads, SayAll, closed_reply, StaysClosed}
use Rattle.py_open.proofs.Steps.{settings_kept, step_keeps, step_told, step_settles, smooth_step, step_completes, step_in_step, step_reads, step_spares, step_writes_none, step_shuts}
use Rattle.py_open.proofs.Ending.{step_closed}
use Rattle.py_open.proofs.TextLeft.{left_exact}

pub one_reply_each : (before : SessionView) (calls : List Call) (replies : List Reply) (after : SessionView) → IsRun before calls replies after → length replies ≡ length calls
one_reply_each before [] [] after run = refl
one_reply_each before (call ∷ calls) (reply ∷ replies) after run = ap suc (one_reply_each run.0 calls replies after run.2)
one_reply_each before [] (reply ∷ replies) after run = absurd run
one_reply_each before (call ∷ calls) [] after run = absurd run

-- What every call keeps.

pub run_keeps_raw : (before : SessionView) (calls : List Call) (replies : List Reply) (after : SessionView) → IsRun before calls replies after → Keeps (raw_of before) (raw_of after)
run_keeps_raw before [] [] after run = subst (λ (view : SessionView). Keeps (raw_of before) (raw_of view)) (sym run) (keeps_same (raw_of before))
run_keeps_raw before (call ∷ calls) (reply ∷ replies) after run = Keeps-then (raw_of before) (raw_of run.0) (raw_of after) (step_keeps before call reply run.0 run.1).0 (run_keeps_raw run.0 calls replies after run.2)
run_keeps_raw before [] (reply ∷ replies) after run = absurd run
run_keeps_raw before (call ∷ calls) [] after run = absurd run

settings_self : (session : SessionView) → KeepsSettings session [] session
settings_self (TextSession text) = (refl, settings_kept text.text.settings [] text.text.settings refl, refl)
settings_self (BinarySession stream) = (refl, refl)

settings_on : (first mid last : SessionView) (call : Call) (calls : List Call) → KeepsSettings first (call ∷ []) mid → KeepsSettings mid calls last → KeepsSettings first (call ∷ calls) last
settings_on (TextSession first) (TextSession mid) (TextSession last) call calls a b = (
  b.0 ∙ a.0,
  record {
    encoding = λ none. b.1.encoding none.1 ∙ a.1.encoding (none.0, tt);
    handler = λ none. b.1.handler none.1 ∙ a.1.handler (none.0, tt);
    newline = λ none. b.1.newline none.1 ∙ a.1.newline (none.0, tt);
    line_buffering = λ none. b.1.line_buffering none.1 ∙ a.1.line_buffering (none.0, tt);
    write_through = λ none. b.1.write_through none.1 ∙ a.1.write_through (none.0, tt);
    chunk_size = λ none. b.1.chunk_size none.1 ∙ a.1.chunk_size (none.0, tt);
  },
  b.2 ∙ a.2,
)
settings_on (BinarySession first) (BinarySession mid) (BinarySession last) call calls a b = (b.0 ∙ a.0, b.1 ∙ a.1)
settings_on (TextSession first) (TextSession mid) (BinarySession last) call calls a b = absurd b
settings_on (TextSession first) (BinarySession mid) last call calls a b = absurd a
settings_on (BinarySession first) (BinarySession mid) (TextSession last) call calls a b = absurd b
settings_on (BinarySession first) (TextSession mid) last call calls a b = absurd a

pub run_keeps_settings : (before : SessionView) (calls : List Call) (replies : List Reply) (after : SessionView) → IsRun before calls replies after → KeepsSettings before calls after
run_keeps_settings before [] [] after run = subst (λ (view : SessionView). KeepsSettings before [] view) (sym run) (settings_self before)
run_keeps_settings before (call ∷ calls) (reply ∷ replies) after run = settings_on before run.0 after call calls (step_keeps before call reply run.0 run.1).1 (run_keeps_settings run.0 calls replies after run.2)
run_keeps_settings before [] (reply ∷ replies) after run = absurd run
run_keeps_settings before (call ∷ calls) [] after run = absurd run

pub run_spares : (before : SessionView) (calls : List Call) (replies : List Reply) (after : SessionView) → IsRun before calls replies after → OnlyReads before → IsTrue (raw_of before).tells_bytes → (raw_of after).bytes ≡ (raw_of before).bytes
run_spares before [] [] after run reads tells = ap (λ (view : SessionView). (raw_of view).bytes) run
run_spares before (call ∷ calls) (reply ∷ replies) after run reads tells =
    run_spares run.0 calls replies after run.2 (step_reads before call reply run.0 run.1 reads) ((step_keeps before call reply run.0 run.1).0.tells_bytes ∙ tells)
    ∙ step_spares before call reply run.0 run.1 reads tells
run_spares before [] (reply ∷ replies) after run reads tells = absurd run
run_spares before (call ∷ calls) [] after run reads tells = absurd run

pub run_writes_none : (before : SessionView) (calls : List Call) (replies : List Reply) (after : SessionView) → IsRun before calls replies after → OnlyReads before → AnswersFor 0 (raw_of before) (raw_of after)
run_writes_none before [] [] after run reads = subst (λ (view : SessionView). AnswersFor 0 (raw_of before) (raw_of view)) (sym run) (λ _. refl)
run_writes_none before (call ∷ calls) (reply ∷ replies) after run reads = λ tells.
    run_writes_none run.0 calls replies after run.2 (step_reads before call reply run.0 run.1 reads) ((step_keeps before call reply run.0 run.1).0.tells_transfers ∙ tells)
    ∙ step_writes_none before call reply run.0 run.1 reads tells
run_writes_none before [] (reply ∷ replies) after run reads = absurd run
run_writes_none before (call ∷ calls) [] after run reads = absurd run

pub run_shuts : (before : SessionView) (calls : List Call) (replies : List Reply) (after : SessionView) → IsRun before calls replies after → OnlyReads before → ClosedWith (life_of before) (raw_of before) → ClosedWith (life_of after) (raw_of after)
run_shuts before [] [] after run reads shut = subst (λ (view : SessionView). ClosedWith (life_of view) (raw_of view)) (sym run) shut
run_shuts before (call ∷ calls) (reply ∷ replies) after run reads shut = run_shuts run.0 calls replies after run.2 (step_reads before call reply run.0 run.1 reads) (step_shuts before call reply run.0 run.1 reads shut)
run_shuts before [] (reply ∷ replies) after run reads shut = absurd run
run_shuts before (call ∷ calls) [] after run reads shut = absurd run

pub run_in_step : (before : SessionView) (calls : List Call) (replies : List Reply) (after : SessionView) → IsRun before calls replies after → IsInStep before → IsInStep after
run_in_step before [] [] after run is = subst IsInStep (sym run) is
run_in_step before (call ∷ calls) (reply ∷ replies) after run is = run_in_step run.0 calls replies after run.2 (step_in_step before call reply run.0 run.1 is)
run_in_step before [] (reply ∷ replies) after run is = absurd run
run_in_step before (call ∷ calls) [] after run is = absurd run

opened_by : (planned : PlanKind) (opened : Access) (raw : Raw) (session : SessionView) → OpensBy planned opened raw session → IsInStep session
opened_by (kind.Text text) opened raw (TextSession view) opens = λ _. record { none = opens.none; own = opens.own; life_is = opens.life_is ∙ sym (ap (λ (file : TextFile). file.life) opens.file) }
opened_by (kind.Buffered size) opened raw (BinarySession stream) opens = λ _. opens.owed
opened_by kind.Bare opened raw (BinarySession stream) opens = λ _. opens.owed
opened_by (kind.Text text) opened raw (BinarySession stream) opens = absurd opens
opened_by (kind.Buffered size) opened raw (TextSession text) opens = absurd opens
opened_by kind.Bare opened raw (TextSession text) opens = absurd opens

pub opened_in_step : (raw : Raw) (plan : OpenPlan) (session : SessionView) → OpensSession raw plan session → IsInStep session
opened_in_step raw plan session opens = opened_by plan.kind (access_of plan.mode) raw session opens

-- Runs in which no count rose.

-- a count that has not risen in the end has risen at no time before
unrisen_up_to : (limit first mid last : ℕ) → mid ≤ last → nat_le (min (first + 1) limit) last ≡ false → nat_le (min (first + 1) limit) mid ≡ false
unrisen_up_to limit first mid last up none = let below = leb-false (min (first + 1) limit) last none in lt-leb (min (first + 1) limit) mid (omega arith)

unrisen_from : (limit first mid last : ℕ) → first ≤ mid → nat_le (min (first + 1) limit) last ≡ false → nat_le (min (mid + 1) limit) last ≡ false
unrisen_from limit first mid last up none = let below = leb-false (min (first + 1) limit) last none in lt-leb (min (mid + 1) limit) last (omega arith)

pub smooth_up_to : (first mid last : Raw) → Keeps mid last → IsSmooth first last → IsSmooth first mid
smooth_up_to first mid last keeps smooth = record {
  waits = unrisen_up_to greatest_count first.waits mid.waits last.waits keeps.waits smooth.waits;
  faults = unrisen_up_to greatest_count first.faults mid.faults last.faults keeps.faults smooth.faults;
}

pub smooth_from : (first mid last : Raw) → Keeps first mid → IsSmooth first last → IsSmooth mid last
smooth_from first mid last keeps smooth = record {
  waits = unrisen_from greatest_count first.waits mid.waits last.waits keeps.waits smooth.waits;
  faults = unrisen_from greatest_count first.faults mid.faults last.faults keeps.faults smooth.faults;
}

pub smooth_settles : (before : SessionView) (calls : List Call) (replies : List Reply) (after : SessionView) → IsRun before calls replies after → IsTrue (tells (raw_of before)) → IsSmooth (raw_of before) (raw_of after) → NoneLacksMemory (all_said replies) → AllSettle (file_seen before) calls (all_said replies) (file_seen after)
smooth_settles before [] [] after run tells smooth had = ap file_seen run
smooth_settles before (call ∷ calls) (reply ∷ replies) after run tells smooth had =
    let mid : SessionView = run.0 in
    let here = (step_keeps before call reply mid run.1).0 in
    let on = run_keeps_raw mid calls replies after run.2 in
    (file_seen mid, smooth_step before call reply mid run.1 tells (smooth_up_to (raw_of before) (raw_of mid) (raw_of after) on smooth) had.0, smooth_settles mid calls replies after run.2 (tells_still (raw_of before) (raw_of mid) here ∙ tells) (smooth_from (raw_of before) (raw_of mid) (raw_of after) here smooth) had.1)
smooth_settles before [] (reply ∷ replies) after run tells smooth had = absurd run
smooth_settles before (call ∷ calls) [] after run tells smooth had = absurd run

pub smooth_completes : (before : SessionView) (calls : List Call) (replies : List Reply) (after : SessionView) → IsRun before calls replies after → IsSmooth (raw_of before) (raw_of after) → RunsComplete before calls replies after
smooth_completes before [] [] after run smooth = run
smooth_completes before (call ∷ calls) (reply ∷ replies) after run smooth =
    let mid : SessionView = run.0 in
    let here = (step_keeps before call reply mid run.1).0 in
    let on = run_keeps_raw mid calls replies after run.2 in
    (mid, run.1, step_completes before call reply mid run.1 (smooth_up_to (raw_of before) (raw_of mid) (raw_of after) on smooth), smooth_completes mid calls replies after run.2 (smooth_from (raw_of before) (raw_of mid) (raw_of after) here smooth))
smooth_completes before [] (reply ∷ replies) after run smooth = absurd run
smooth_completes before (call ∷ calls) [] after run smooth = absurd run

-- Texts.

detached_is : (current : Life) (file : TextFile) (reply : FileReply) (after : TextFile) → current ≢ life.Failed → text_file.DetachesIn current file reply after → (reply, after) ≡ answered file text.Detach None
detached_is life.Failed file reply after lives is = absurd (lives refl)
detached_is current file reply after lives is = is

-- the model knows the answer to a call
abbrev pub KnowsAnswer : TextFile → Call → Type 0
KnowsAnswer file made = (file.life ≢ life.Failed) ⊎ (detaches made ≡ false)

accepted_is : (file : TextFile) (made : Call) (reply : FileReply) (after : TextFile) → KnowsAnswer file made → text_file.Accepted file (text_call made) reply after → (reply, after) ≡ answered file (text_call made) None
accepted_is file call.Detach reply after (inl lives) is = detached_is file.life file reply after lives is
accepted_is file call.Detach reply after (inr other) is = absurd (cc)
accepted_is file made reply after knows is = is

settled_is : (refused : Option IoFault) (file : TextFile) (made : Call) (reply : FileReply) (after : TextFile) → KnowsAnswer file made → text_file.SettledBy file (text_call made) refused reply after → (reply, after) ≡ answered file (text_call made) refused
settled_is None file made reply after knows is = accepted_is file made reply after knows is
settled_is (Some why) file made reply after knows is = ap (λ (says : FileReply). (says, after)) is.0 ∙ ap (λ (left : TextFile). (Refused why, left)) is.1

settled_exactly : (file : TextFile) (made : Call) (reply : FileReply) (after : TextFile) → KnowsAnswer file made → text_file.Settled file (text_call made) reply after → (reply, after) ≡ exact file (text_call made)
settled_exactly file made reply after knows is = settled_is (refusals.refusal file (text_call made)) file made reply after knows is

-- such an answer hands nothing over, and leaves no text failed that hadn't failed
read_none : (refused : Option IoFault) (file : TextFile) (characters : List ℕ) (after : TextFile) → unwritten_in (answered_text file refused characters after).0 ≡ []
read_none None file characters after = refl
read_none (Some why) file characters after = refl

landed_none : (file : TextFile) (sought : cookie.Cookie) (landed : Landed) → unwritten_in (after_landing file sought landed).0 ≡ []
landed_none file sought (Stands place) = refl
landed_none file sought (CantRestore place) = refl

carried_none : (file : TextFile) (made : Call) → unwritten_in (carried_out file (text_call made)).0 ≡ []
carried_none file (call.Read size) =
    let rest = text_rest file in
    read_none (range_refusal (asks_past size rest.characters) rest.refusal) file (first_of size rest.characters) (after_text_read file size (first_of size rest.characters))
carried_none file (call.ReadLine limit) =
    let rest = text_rest file in
    let end = line_end file.settings.newline in
    read_none (range_refusal (not (is_ended end limit rest.characters)) rest.refusal) file (first_line end limit rest.characters) (after_taking file (length (first_line end limit rest.characters)) (asks_any limit))
carried_none file (call.SeekText bytes whence) = let sought = sought_cookie file bytes whence in landed_none file sought (lands file sought)
carried_none file made = refl

answered_none : (refused : Option IoFault) (file : TextFile) (made : Call) → unwritten_in (answered file (text_call made) refused).0 ≡ []
answered_none None file made = carried_none file made
answered_none (Some why) file made = refl

read_lives : (refused : Option IoFault) (file : TextFile) (characters : List ℕ) (after : TextFile) → file.life ≢ life.Failed → after.life ≡ file.life → (answered_text file refused characters after).1.life ≢ life.Failed
read_lives None file characters after lives same = λ failed. lives (sym same ∙ failed)
read_lives (Some why) file characters after lives same = lives

landed_lives : (file : TextFile) (sought : cookie.Cookie) (landed : Landed) → file.life ≢ life.Failed → (after_landing file sought landed).1.life ≢ life.Failed
landed_lives file sought (Stands place) lives = lives
landed_lives file sought (CantRestore place) lives = lives

carried_lives : (file : TextFile) (made : Call) → file.life ≢ life.Failed → (carried_out file (text_call made)).1.life ≢ life.Failed
carried_lives file (call.Read None) lives =
    let rest = text_rest file in
    read_lives (range_refusal true rest.refusal) file rest.characters (after_text_read file None rest.characters) lives refl
carried_lives file (call.Read (Some size)) lives =
    let rest = text_rest file in
    read_lives (range_refusal (asks_past (Some size) rest.characters) rest.refusal) file (first_of (Some size) rest.characters) (after_text_read file (Some size) (first_of (Some size) rest.characters)) lives refl
carried_lives file (call.ReadLine limit) lives =
    let rest = text_rest file in
    let end = line_end file.settings.newline in
    read_lives (range_refusal (not (is_ended end limit rest.characters)) rest.refusal) file (first_line end limit rest.characters) (after_taking file (length (first_line end limit rest.characters)) (asks_any limit)) lives refl
carried_lives file (call.SeekText bytes whence) lives = let sought = sought_cookie file bytes whence in landed_lives file sought (lands file sought) lives
carried_lives file call.Close lives = λ failed. absurd (cc)
carried_lives file call.Detach lives = λ failed. absurd (cc)
carried_lives file made lives = lives

answered_lives : (refused : Option IoFault) (file : TextFile) (made : Call) → file.life ≢ life.Failed → (answered file (text_call made) refused).1.life ≢ life.Failed
answered_lives None file made lives = carried_lives file made lives
answered_lives (Some why) file made lives = lives

pub left_alive : (was current : Life) (file : TextFile) → file.life ≢ life.Failed → (left_exactly was current file).life ≢ life.Failed
left_alive life.Detached current file lives = lives
left_alive was life.Detached file lives = lives
left_alive was current file lives = lives

pub text_hands_none : (file : TextFile) (made : Call) (reply : FileReply) (after : TextFile) → KnowsAnswer file made → text_file.Settled file (text_call made) reply after → unwritten_in reply ≡ []
text_hands_none file made reply after knows is =
    ap (λ (p : FileReply × TextFile). unwritten_in p.0) (settled_exactly file made reply after knows is) ∙ answered_none (refusals.refusal file (text_call made)) file made

-- a settled call of a text is the exact one of its session
text_settled : (before : TextFile) (made : Call) (reply : FileReply) (after : TextFile) → KnowsAnswer before made → SettlesTextFile before (text_call made) reply after → (reply, after) ≡ session_exact before made
text_settled before made reply after knows step =
    let is = settled_exactly before made reply step.file knows step.settled in
    let none : unwritten_in reply ≡ [] = text_hands_none before made reply step.file knows step.settled in
    ap (λ (left : TextFile). (reply, left)) (left_exact before.life step.file.life step.file reply after refl none step.left)
    ∙ ap (λ (p : FileReply × TextFile). session_left before.life p) is

exact_step : (before : TextFile) (made : Call) (reply : FileReply) (after : SessionFile) → KnowsAnswer before made → Settles (OfText before) made reply after → (file : TextFile) × (after ≡ OfText file) × ((reply, file) ≡ session_exact before made)
exact_step before made reply (OfText after) knows step = (after, refl, text_settled before made reply after knows step)
exact_step before made reply (OfBinary after) knows step = absurd step

knows_first : (file : TextFile) (made : Call) (calls : List Call) → KnowsAnswers file (made ∷ calls) → KnowsAnswer file made
knows_first file made calls (inl lives) = inl lives
knows_first file made calls (inr none) = inr none.0

knows_more : (file : TextFile) (made : Call) (calls : List Call) → KnowsAnswers file (made ∷ calls) → KnowsAnswers (session_exact file made).1 calls
knows_more file made calls (inl lives) = inl (left_alive file.life (exact file (text_call made)).1.life (exact file (text_call made)).1 (answered_lives (refusals.refusal file (text_call made)) file made lives))
knows_more file made calls (inr none) = inr none.1

pub settled_is_exact : (before : TextFile) (calls : List Call) (replies : List FileReply) (after : SessionFile) → KnowsAnswers before calls → AllSettle (OfText before) calls replies after → IsExact before calls replies after
settled_is_exact before [] [] after knows settles = record { says = refl; leaves = settles }
settled_is_exact before (call ∷ calls) (reply ∷ replies) after knows settles =
    let step = exact_step before call reply settles.0 (knows_first before call calls knows) settles.1 in
    let on : KnowsAnswers step.0 calls = subst (λ (p : FileReply × TextFile). KnowsAnswers p.1 calls) (sym step.2) (knows_more before call calls knows) in
    let rest = settled_is_exact step.0 calls replies after on (subst (λ (mid : SessionFile). AllSettle mid calls replies after) step.1 settles.2) in
    record {
      says = ap (λ (more : List FileReply). reply ∷ more) rest.says ∙ ap (λ (p : FileReply × TextFile). p.0 ∷ exact_replies p.1 calls) step.2;
      leaves = rest.leaves ∙ ap (λ (p : FileReply × TextFile). OfText (exact_after p.1 calls)) step.2;
    }
settled_is_exact before [] (reply ∷ replies) after knows settles = absurd settles
settled_is_exact before (call ∷ calls) [] after knows settles = absurd settles

-- Runs in parts, and as histories.

pub split_run : (before : SessionView) (calls more : List Call) (replies others : List Reply) (after : SessionView) → length replies ≡ length calls → IsRun before (calls ++ more) (replies ++ others) after → RunsInTwo before calls more replies others after
split_run before [] more [] others after same run = record { mid = before; first = refl; second = run }
split_run before (call ∷ calls) more (reply ∷ replies) others after same run =
    let rest = split_run run.0 calls more replies others after (cc) run.2 in
    record { mid = rest.mid; first = (run.0, run.1, rest.first); second = rest.second }
split_run before [] more (reply ∷ replies) others after same run = absurd (cc)
split_run before (call ∷ calls) more [] others after same run = absurd (cc)

pub history_of : (before : SessionView) (calls : List Call) (replies : List Reply) (after : SessionView) → IsRun before calls replies after → IsTrue (tells (raw_of before)) → HasHistory before calls replies after
history_of before [] [] after run tells = record { entries = []; calls_are = refl; replies_are = refl; marked = run; steps = ap file_seen run }
history_of before (call ∷ calls) (reply ∷ replies) after run tells =
    let mid : SessionView = run.0 in
    let rest = history_of mid calls replies after run.2 (tells_still (raw_of before) (raw_of mid) (step_keeps before call reply mid run.1).0 ∙ tells) in
    let entry : Entry = record { call = call; reply = reply; waited = short_of mid; faulted = says_fault (said reply) } in
    record {
      entries = entry ∷ rest.entries;
      calls_are = ap (λ (more : List Call). call ∷ more) rest.calls_are;
      replies_are = ap (λ (more : List Reply). reply ∷ more) rest.replies_are;
      marked = (mid, run.1, refl, refl, rest.marked);
      steps = (file_seen mid, step_told before call reply mid run.1 tells, rest.steps);
    }
history_of before [] (reply ∷ replies) after run tells = absurd run
history_of before (call ∷ calls) [] after run tells = absurd run

pub calm_settles : (before : SessionFile) (entries : List Entry) (after : SessionFile) → IsHistory before entries after → IsCalm entries → AllSettle before (calls_of entries) (all_said (replies_of entries)) after
calm_settles before [] after steps calm = steps
calm_settles before (entry ∷ entries) after steps calm = (steps.0, step_settles before entry.call (said entry.reply) entry.waited entry.faulted steps.0 calm.0 calm.1 calm.2 steps.1, calm_settles steps.0 entries after steps.2 calm.3)

-- Closed sessions.

pub closed_stays : (before : SessionView) (calls : List Call) (replies : List Reply) (after : SessionView) → IsRun before calls replies after → life_of before ≡ life.Closed → StaysClosed before calls replies after
closed_stays before [] [] after run closed = record { says = tt; file = ap file_seen run; raw = ap raw_of run }
closed_stays before (call ∷ calls) (reply ∷ replies) after run closed =
    let mid : SessionView = run.0 in
    let here = step_closed before call reply mid closed run.1 in
    let rest = closed_stays mid calls replies after run.2 (here.life_is ∙ closed) in
    record {
      says = (here.says, subst (λ (file : SessionFile). SayAll closed_reply file calls (all_said replies)) here.file rest.says);
      file = rest.file ∙ here.file;
      raw = rest.raw ∙ here.raw;
    }
closed_stays before [] (reply ∷ replies) after run closed = absurd run
closed_stays before (call ∷ calls) [] after run closed = absurd run
