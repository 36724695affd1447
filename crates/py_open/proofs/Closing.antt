-- A raw is open as long as its session isn't closed, and is closed by a close that was done.
use Rattle.std.proofs.Common.{inl, ◌≡◌, ◌≢◌, ℕ, Bool, true, false, List, [], ◌∷◌, refl, sym, ap, ◌∙◌, subst}
use Rattle.py_flat.specs.declared.fault.IoFault.TheVariants as fault
use Rattle.py_flat.specs.declared.life.Life.{Life}
use Rattle.py_flat.specs.declared.life.Life.TheVariants as life
use Rattle.py_flat.specs.Calls.{FileCall, Close, FileReply, Done, Refused}
use Rattle.py_flat.specs.ExactStep.{is_closed}
use Rattle.py_flat.specs.Owed.{Owed}
use Rattle.py_flat.specs.Refusals.{is_getter}
use Rattle.py_raw.specs.RawStream.{Raw}
use Rattle.py_stream.specs.Stream.{Stream}
use Rattle.py_stream.specs.Answers.{AnswersWith, ClosedWith, LifeMoves, parts_at_close}
use Rattle.py_calls.specs.declared.call.Call.{Call}
use Rattle.py_calls.specs.declared.call.Call.TheVariants as call
use Rattle.py_calls.specs.declared.reply.Reply.{Reply}
use Rattle.py_calls.specs.declared.reply.Reply.TheVariants as reply
use Rattle.py_calls.specs.Calls.{file_call, said}
use Rattle.py_stream.specs.declared.access.Access.{Access}
use Rattle.py_calls.specs.declared.plan.OpenPlan.{OpenPlan}
use Rattle.py_calls.specs.declared.plan.PlanKind.{PlanKind}
use Rattle.py_calls.specs.declared.plan.PlanKind.TheVariants as kind
use Rattle.py_plain_text.specs.TextCalls as text
use Rattle.py_read_text.specs.TextState.{TextState}
use Rattle.py_open.specs.TextHanding.{AnswersCall}
use Rattle.py_open.specs.TextSession.{IsOpen}
use Rattle.py_binary.specs.Binary.{has_reply_room, AnswersBy}
use Rattle.py_open.specs.Session.{SessionView, TextSession, BinarySession, raw_of, life_of, owed_of, IsInStep, IsOpenBelow, HasOpenRaw, IsKept, IsShut, ClosesRaw, Answers}
use Rattle.py_open.specs.Opening.{access_of, OpensBy, OpensSession}
use Rattle.py_open.specs.Run.{IsRun}
use Rattle.py_open.specs.Laws.{PassesAll}
use Rattle.py_open.proofs.TextLeft.{call_raw, call_life}
use Rattle.py_open.proofs.Steps.{left_raw, left_life, step_in_step}
use Rattle.py_open.proofs.Ending.{step_passes, step_closed, left_closed}
use Rattle.py_open.proofs.Resting.{run_rests}
use Rattle.py_open.proofs.Runs.{opened_in_step}

-- an open raw is closed just where its session is, where that isn't closed
open_with : (current : Life) (raw : Raw) → current ≢ life.Closed → raw.closed ≡ false → ClosedWith current raw
open_with life.Closed raw lives is = absurd (lives refl)
open_with current raw lives is = is

with_open : (current : Life) (raw : Raw) → ClosedWith current raw → current ≢ life.Closed → raw.closed ≡ false
with_open life.Closed raw shut lives = absurd (lives refl)
with_open current raw shut lives = shut

-- a call that doesn't close its stream is none that closes it alone, without its raw
whole_close : (before : Stream) (call : FileCall) (reply : FileReply) (after : Stream) → LifeMoves before.buffer call reply before.life after.life → after.life ≢ life.Closed → parts_at_close before call reply after ≡ false
whole_close before Close (Refused fault.RawFault) after moves lives = absurd (lives moves)
whole_close before call reply after moves lives = refl

-- a stream that still owes something has its raw as open as before
owing_open : (writes : Bool) (before : Stream) (call : FileCall) (reply : FileReply) (a : Stream) → before.can.writable ≡ writes → a.owed.bytes ≢ [] → AnswersWith has_reply_room before call reply a → IsInStep (BinarySession before) → a.raw.closed ≡ before.raw.closed
owing_open true before call reply a is some answers in_step = (answers.writes is).unclosed some
owing_open false before call reply a is some answers in_step = absurd (some (ap (λ (owed : Owed). owed.bytes) (answers.spares is (in_step (inl is))).owed))

answered_open : (left : List ℕ) (before : Stream) (call : FileCall) (reply : FileReply) (a : Stream) → a.owed.bytes ≡ left → AnswersWith has_reply_room before call reply a → IsInStep (BinarySession before) → before.life ≢ life.Closed → before.raw.closed ≡ false → a.life ≢ life.Closed → a.raw.closed ≡ false
answered_open [] before call reply a none answers in_step was is lives =
    with_open a.life a.raw (answers.shut (whole_close before call reply a answers.moves.life_is lives) none (open_with before.life before.raw was is)) lives
answered_open (byte ∷ more) before call reply a some answers in_step was is lives =
    owing_open before.can.writable before call reply a refl (λ none. let wrong : byte ∷ more ≡ [] = sym some ∙ none in absurd (cc)) answers in_step ∙ is

binary_open : (getter : Bool) (before : Stream) (call : FileCall) (reply : FileReply) (after : Stream) → AnswersBy getter before call reply after → IsInStep (BinarySession before) → before.life ≢ life.Closed → before.raw.closed ≡ false → after.life ≢ life.Closed → after.raw.closed ≡ false
binary_open true before call reply after step in_step was is lives = ap (λ (s : Stream). s.raw.closed) step.same ∙ is
binary_open false before call reply after step in_step was is lives =
    let a : Stream = step.answered in
    ap (λ (s : Stream). s.raw.closed) step.leaves ∙ ap (λ (raw : Raw). raw.closed) (left_raw before.life a.life a)
    ∙ answered_open a.owed.bytes before call reply a refl step.answers in_step was is (λ closed. lives (ap (λ (s : Stream). s.life) step.leaves ∙ left_life before.life a.life a refl ∙ closed))

-- what isn't closed after a call wasn't closed before
was_open : (current : Life) (before : SessionView) (call : Call) (reply : Reply) (after : SessionView) → life_of before ≡ current → Answers before call reply after → life_of after ≢ life.Closed → life_of before ≢ life.Closed
was_open current before call reply after is step lives closed = lives ((step_closed before call reply after closed step).life_is ∙ closed)

step_open : (before : SessionView) (call : Call) (reply : Reply) (after : SessionView) → Answers before call reply after → IsInStep before → HasOpenRaw before → HasOpenRaw after
step_open (TextSession before) call reply (TextSession after) step in_step has lives = step.is_open lives
step_open (BinarySession before) call reply (BinarySession after) step in_step has lives =
    let was = was_open before.life (BinarySession before) call reply (BinarySession after) refl step lives in
    binary_open (is_getter (file_call call)) before (file_call call) (said reply) after step in_step was (has was) lives
step_open (TextSession before) call reply (BinarySession after) step in_step has lives = absurd step
step_open (BinarySession before) call reply (TextSession after) step in_step has lives = absurd step

pub step_kept : (before : SessionView) (call : Call) (reply : Reply) (after : SessionView) → Answers before call reply after → IsKept before → IsKept after
step_kept before call reply after step is = record { in_step = step_in_step before call reply after step is.in_step; has_open = step_open before call reply after step is.in_step is.has_open }

-- Closes that were done.

-- a live session isn't closed
live_open : (current : Life) → current ≡ life.Live → current ≢ life.Closed
live_open current live closed = let wrong : life.Live ≡ life.Closed = sym live ∙ closed in absurd (cc)

binary_closes : (before : Stream) (after : Stream) → AnswersBy false before Close Done after → before.life ≡ life.Live → before.raw.closed ≡ false → after.owed.bytes ≡ [] → after.raw.closed ≡ true
binary_closes before after step live is none =
    let a : Stream = step.answered in
    let closed : a.life ≡ life.Closed = step.answers.moves.life_is in
    let same : after ≡ a = step.leaves ∙ left_closed before.life a closed in
    let was : ClosedWith before.life before.raw = open_with before.life before.raw (live_open before.life live) is in
    ap (λ (s : Stream). s.raw.closed) same ∙ step.answers.shut refl (ap (λ (s : Stream). s.owed.bytes) (sym same) ∙ none) was ∙ ap is_closed closed

text_closes : (before : TextState) (after : TextState) → AnswersCall before text.Close Done after → before.text.life ≡ life.Live → IsOpen before → after.text.buffer.raw.closed ≡ true
text_closes before after step live is = ap (λ (raw : Raw). raw.closed) (call_raw before text.Close Done after step) ∙ (step.answers.closes live).1 (is.raw ∙ sym is.buffer)

raw_closes : (before : SessionView) (after : SessionView) → Answers before call.Close reply.Done after → life_of before ≡ life.Live → IsOpenBelow before → owed_of after ≡ [] → (raw_of after).closed ≡ true
raw_closes (TextSession before) (TextSession after) step live is none = text_closes before after step.answers live is
raw_closes (BinarySession before) (BinarySession after) step live is none = binary_closes before after step live is none
raw_closes (TextSession before) (BinarySession after) step live is none = absurd step
raw_closes (BinarySession before) (TextSession after) step live is none = absurd step

-- a close that was done passes all on
close_passes : (before : SessionView) → PassesAll before call.Close Done
close_passes (TextSession before) = tt
close_passes (BinarySession before) = tt

done_closes : (before : SessionView) (after : SessionView) → Answers before call.Close reply.Done after → IsKept before → life_of before ≡ life.Live → IsShut after
done_closes before after step is live =
    let none = (step_passes before call.Close reply.Done after step is.in_step live (close_passes before)).none in
    record { none = none; closed = raw_closes before after step live (is.has_open (live_open (life_of before) live)) none }

-- a session whose close was done isn't live
close_ends : (before : SessionView) (after : SessionView) → Answers before call.Close reply.Done after → life_of after ≡ life.Closed
close_ends (TextSession before) (TextSession after) step = call_life before text.Close Done after step.answers ∙ step.answers.answers.moves.life_is
close_ends (BinarySession before) (BinarySession after) step = ap (λ (s : Stream). s.life) step.leaves ∙ left_life before.life step.answered.life step.answered refl ∙ step.answers.moves.life_is
close_ends (TextSession before) (BinarySession after) step = absurd step
close_ends (BinarySession before) (TextSession after) step = absurd step

pub step_closes : (before : SessionView) (call : Call) (reply : Reply) (after : SessionView) → Answers before call reply after → IsKept before → ClosesRaw before call reply after
step_closes before call.Close reply.Done after step is = done_closes before after step is
step_closes before call reply after step is = tt

-- Openings, and runs.

opened_open : (planned : PlanKind) (opened : Access) (raw : Raw) (session : SessionView) → OpensBy planned opened raw session → IsOpenBelow session
opened_open (kind.Text planned) opened raw (TextSession text) opens = record { raw = opens.untouched.stays ∙ opens.was_open; buffer = ap is_closed opens.life_is }
opened_open (kind.Buffered size) opened raw (BinarySession stream) opens = opens.untouched.stays ∙ opens.was_open
opened_open kind.Bare opened raw (BinarySession stream) opens = opens.untouched.stays ∙ opens.was_open
opened_open (kind.Text planned) opened raw (BinarySession stream) opens = absurd opens
opened_open (kind.Buffered size) opened raw (TextSession text) opens = absurd opens
opened_open kind.Bare opened raw (TextSession text) opens = absurd opens

pub opened_kept : (raw : Raw) (plan : OpenPlan) (session : SessionView) → OpensSession raw plan session → IsKept session
opened_kept raw plan session opens = record { in_step = opened_in_step raw plan session opens; has_open = λ lives. opened_open plan.kind (access_of plan.mode) raw session opens }

pub run_kept : (before : SessionView) (calls : List Call) (replies : List Reply) (after : SessionView) → IsRun before calls replies after → IsKept before → IsKept after
run_kept before [] [] after run is = subst IsKept (sym run) is
run_kept before (call ∷ calls) (reply ∷ replies) after run is = run_kept run.0 calls replies after run.2 (step_kept before call reply run.0 run.1 is)
run_kept before [] (reply ∷ replies) after run is = absurd run
run_kept before (call ∷ calls) [] after run is = absurd run

-- wherever a live session of a run was closed, and that was done, its raw is closed in the end
pub run_closes : (raw : Raw) (plan : OpenPlan) (opened mid next session : SessionView) (front rest : List Call) (replies others : List Reply) → OpensSession raw plan opened → IsRun opened front replies mid → life_of mid ≡ life.Live → Answers mid call.Close reply.Done next → IsRun next rest others session → (raw_of session).closed ≡ true
run_closes raw plan opened mid next session front rest replies others opens first live step second =
    let kept = run_kept opened front replies mid first (opened_kept raw plan opened opens) in
    let shut = done_closes mid next step kept live in
    ap (λ (raw : Raw). raw.closed) (run_rests next rest others session second (λ live. let wrong : life.Closed ≡ life.Live = sym (close_ends mid next step) ∙ live in absurd (cc))) ∙ shut.closed
