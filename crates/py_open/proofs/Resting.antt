-- A session that isn't live calls no raw.
use Rattle.std.proofs.Common.{inl, inr, ◌≡◌, ◌≢◌, pos, suc, zero, ℕ, Bool, true, false, List, [], ◌∷◌, Option, Some, None, refl, sym, ap, ◌∙◌}
use Rattle.py_flat.specs.declared.fault.IoFault.TheVariants as fault
use Rattle.py_flat.specs.declared.life.Life.{Life}
use Rattle.py_flat.specs.declared.life.Life.TheVariants as life
use Rattle.py_flat.specs.Calls.{FileCall, Seek, Close, Detach, Readable, Writable, Seekable, Closed, OtherGetter, FileReply, Done, Unwritten, Refused}
use Rattle.py_flat.specs.Refusals.{is_getter}
use Rattle.py_plain_text.specs.TextCalls as text
use Rattle.py_plain_text.specs.TextCalls.{TextFileCall}
use Rattle.py_stream.specs.Stream.{Stream}
use Rattle.py_stream.specs.Buffer.{Buffer}
use Rattle.py_stream.specs.Kinds.{goes_on}
use Rattle.py_stream.specs.Answers.{AnswersWith, Leaves, LifeMoves, StarvesTo, refused_by}
use Rattle.py_calls.specs.declared.call.Call.{Call}
use Rattle.py_calls.specs.declared.call.Call.TheVariants as call
use Rattle.py_calls.specs.declared.reply.Reply.{Reply}
use Rattle.py_calls.specs.Calls.{text_call, file_call, said}
use Rattle.py_read_text.specs.TextState as state
use Rattle.py_read_text.specs.TextState.{TextState}
use Rattle.py_open.specs.TextHanding.{AnswersCall}
use Rattle.py_binary.specs.Binary.{has_reply_room, AnswersBy}
use Rattle.py_open.specs.Session.{SessionView, TextSession, BinarySession, raw_of, life_of, AnswersTextBy, Answers}
use Rattle.py_open.specs.Laws.{closed_file_reply}
use Rattle.py_open.specs.Run.{IsRun}
use Rattle.py_open.proofs.TextLeft.{call_raw, call_life, call_again}
use Rattle.py_open.proofs.Steps.{left_raw, left_life, text_refused_by}
use Rattle.py_open.proofs.Ending.{closed_leaves, closed_text_step}

-- Streams.

failed_refuses : (stream : Stream) (call : FileCall) → stream.life ≡ life.Failed → is_getter call ≡ false → call ≢ Detach → call ≢ OtherGetter → refused_by stream call ≡ Some fault.Failed
failed_refuses stream (Seek offset (pos (suc (suc zero)))) failed asks stays known = rw failed refl
failed_refuses stream Detach failed asks stays known = absurd (stays refl)
failed_refuses stream OtherGetter failed asks stays known = absurd (known refl)
failed_refuses stream Readable failed asks stays known = absurd (cc)
failed_refuses stream Writable failed asks stays known = absurd (cc)
failed_refuses stream Seekable failed asks stays known = absurd (cc)
failed_refuses stream Closed failed asks stays known = absurd (cc)
failed_refuses stream call failed asks stays known = rw failed refl

pub detached_refuses : (stream : Stream) (call : FileCall) → stream.life ≡ life.Detached → is_getter call ≡ false → call ≢ OtherGetter → refused_by stream call ≡ Some fault.Detached
detached_refuses stream (Seek offset (pos (suc (suc zero)))) gone asks known = rw gone refl
detached_refuses stream OtherGetter gone asks known = absurd (known refl)
detached_refuses stream Readable gone asks known = absurd (cc)
detached_refuses stream Writable gone asks known = absurd (cc)
detached_refuses stream Seekable gone asks known = absurd (cc)
detached_refuses stream Closed gone asks known = absurd (cc)
detached_refuses stream call gone asks known = rw gone refl

left_as_was : (before : Stream) (expected reply : FileReply) (answered : Stream) → Leaves before expected reply answered → answered.raw ≡ before.raw
left_as_was before expected reply answered left = ap (λ (s : Stream). s.raw) left.same

-- the `detach` of a failed stream
failed_detach : (writes : Bool) (buffer : Option ℕ) (before : Stream) (reply : FileReply) (answered : Stream) → before.can.writable ≡ writes → before.buffer ≡ buffer → before.life ≡ life.Failed → AnswersWith has_reply_room before Detach reply answered → answered.raw ≡ before.raw
failed_detach true buffer before reply answered writes is failed a = (a.writes writes).rests (λ live. let wrong : life.Failed ≡ life.Live = sym failed ∙ live in absurd (cc))
failed_detach false None before reply answered writes is failed a = left_as_was before _ reply answered (a.refused fault.Failed (rw failed (rw is refl)))
failed_detach false (Some size) before reply answered writes is failed a = (a.idle (rw is (rw writes refl))).raw

dead_raw : (current : Life) (before : Stream) (call : FileCall) (reply : FileReply) (answered : Stream) → before.life ≡ current → current ≢ life.Live → is_getter call ≡ false → AnswersWith has_reply_room before call reply answered → answered.raw ≡ before.raw
dead_raw life.Live before call reply answered is dead asks a = absurd (dead refl)
dead_raw life.Failed before Detach reply answered is dead asks a = failed_detach before.can.writable before.buffer before reply answered refl refl is a
dead_raw life.Failed before OtherGetter reply answered is dead asks a = left_as_was before _ reply answered (a.refused fault.Unsupported refl)
dead_raw life.Failed before call reply answered is dead asks a = left_as_was before _ reply answered (a.refused fault.Failed (failed_refuses before call is asks (λ it. cc) (λ it. cc)))
dead_raw life.Closed before call reply answered is dead asks a = left_as_was before (closed_file_reply call) reply answered (closed_leaves before call reply answered is asks a)
dead_raw life.Detached before OtherGetter reply answered is dead asks a = left_as_was before _ reply answered (a.refused fault.Unsupported refl)
dead_raw life.Detached before call reply answered is dead asks a = left_as_was before _ reply answered (a.refused fault.Detached (detached_refuses before call is asks (λ it. cc)))

starved_dead : (moved : Bool) (before after : Life) → StarvesTo moved before after → before ≢ life.Live → after ≢ life.Live
starved_dead true before after (inl same) dead is = dead (sym same ∙ is)
starved_dead true before after (inr failed) dead is = let wrong : life.Failed ≡ life.Live = sym failed ∙ is in absurd (cc)
starved_dead false before after same dead is = dead (sym same ∙ is)

dead_on : (buffer : Option ℕ) (call : FileCall) (reply : FileReply) (before after : Life) → LifeMoves buffer call reply before after → before ≢ life.Live → after ≢ life.Live
dead_on buffer Close Done before after moves dead is = let wrong : life.Closed ≡ life.Live = sym moves ∙ is in absurd (cc)
dead_on buffer Close (Refused fault.RawFault) before after moves dead is = let wrong : life.Closed ≡ life.Live = sym moves ∙ is in absurd (cc)
dead_on buffer Detach (Unwritten bytes place) before after moves dead is = let wrong : life.Detached ≡ life.Live = sym moves ∙ is in absurd (cc)
dead_on buffer call (Refused fault.RawFault) before after moves dead is = let wrong : life.Failed ≡ life.Live = sym moves ∙ is in absurd (cc)
dead_on buffer call (Refused fault.NoMemory) before after moves dead is = starved_dead (goes_on buffer call) before after moves dead is
dead_on buffer call reply before after moves dead is = dead (sym moves ∙ is)

-- what a session that isn't live leaves: its raw, and that it isn't live
pub record Rests (before after : SessionView) : Type 0 where
  pub raw : raw_of after ≡ raw_of before
  pub dead : life_of after ≢ life.Live

binary_rests : (getter : Bool) (before : Stream) (call : FileCall) (reply : FileReply) (after : Stream) → is_getter call ≡ getter → before.life ≢ life.Live → AnswersBy getter before call reply after → Rests (BinarySession before) (BinarySession after)
binary_rests true before call reply after is dead step = record { raw = ap (λ (s : Stream). s.raw) step.same; dead = λ live. dead (sym (ap (λ (s : Stream). s.life) step.same) ∙ live) }
binary_rests false before call reply after is dead step =
    let a : Stream = step.answered in
    record {
      raw = ap (λ (s : Stream). s.raw) step.leaves ∙ left_raw before.life a.life a ∙ dead_raw before.life before call reply a refl dead is step.answers;
      dead = λ live. dead_on before.buffer call reply before.life a.life step.answers.moves.life_is dead (sym (ap (λ (s : Stream). s.life) step.leaves ∙ left_life before.life a.life a refl) ∙ live);
    }

-- Texts.

text_left_as_was : (before : TextState) (after : TextState) → before.text.life ≢ life.Live → after ≡ record before { short = false } → Rests (TextSession before) (TextSession after)
text_left_as_was before after dead same = record { raw = ap (λ (t : TextState). t.text.buffer.raw) same; dead = λ live. dead (sym (ap (λ (t : TextState). t.text.life) same) ∙ live) }

-- a failed text is detached at once, and refuses all else
failed_rests : (before : TextState) (call : TextFileCall) (reply : FileReply) (after : TextState) → before.text.life ≡ life.Failed → before.text.life ≢ life.Live → text.is_getter call ≡ false → AnswersCall before call reply after → Rests (TextSession before) (TextSession after)
failed_rests before text.Detach (Unwritten bytes place) after is dead asks step = record {
  raw = call_raw before text.Detach (Unwritten bytes place) after step ∙ ap (λ (buffer : Buffer). buffer.raw) (step.hands.at_once is).0;
  dead = λ live. let wrong : life.Detached ≡ life.Live = sym step.answers.moves.life_is ∙ (sym (call_life before text.Detach (Unwritten bytes place) after step) ∙ live) in absurd (cc);
}
failed_rests before text.Detach reply after is dead asks step = absurd (step.hands is)
failed_rests before call reply after is dead asks step =
    text_left_as_was before after dead (call_again before call reply after step (step.answers.refused fault.Failed (text_refused_by (state.file_of before) call life.Failed fault.Failed is asks refl refl)).same)

text_dead : (current : Life) (before : TextState) (call : TextFileCall) (reply : FileReply) (after : TextState) → before.text.life ≡ current → before.text.life ≢ life.Live → text.is_getter call ≡ false → AnswersCall before call reply after → Rests (TextSession before) (TextSession after)
text_dead life.Live before call reply after is dead asks step = absurd (dead is)
text_dead life.Failed before call reply after is dead asks step = failed_rests before call reply after is dead asks step
text_dead life.Closed before call reply after is dead asks step =
    text_left_as_was before after dead (call_again before call reply after step (closed_text_step before call reply step.answered asks is step.answers).1)
text_dead life.Detached before call reply after is dead asks step =
    text_left_as_was before after dead (call_again before call reply after step (step.answers.refused fault.Detached (text_refused_by (state.file_of before) call life.Detached fault.Detached is asks refl refl)).same)

text_rests : (getter : Bool) (before : TextState) (call : TextFileCall) (reply : FileReply) (after : TextState) → text.is_getter call ≡ getter → before.text.life ≢ life.Live → AnswersTextBy getter before call reply after → Rests (TextSession before) (TextSession after)
text_rests true before call reply after is dead step = text_left_as_was before after dead step.same
text_rests false before call reply after is dead step = text_dead before.text.life before call reply after refl dead is step

step_rests : (before : SessionView) (call : Call) (reply : Reply) (after : SessionView) → life_of before ≢ life.Live → Answers before call reply after → Rests before after
step_rests (TextSession before) call reply (TextSession after) dead step = text_rests (text.is_getter (text_call call)) before (text_call call) (said reply) after refl dead step.answers
step_rests (BinarySession before) call reply (BinarySession after) dead step = binary_rests (is_getter (file_call call)) before (file_call call) (said reply) after refl dead step
step_rests (TextSession before) call reply (BinarySession after) dead step = absurd step
step_rests (BinarySession before) call reply (TextSession after) dead step = absurd step

pub run_rests : (before : SessionView) (calls : List Call) (replies : List Reply) (after : SessionView) → IsRun before calls replies after → life_of before ≢ life.Live → raw_of after ≡ raw_of before
run_rests before [] [] after run dead = ap raw_of run
run_rests before (call ∷ calls) (reply ∷ replies) after run dead =
    let rests = step_rests before call reply run.0 dead run.1 in
    run_rests run.0 calls replies after run.2 rests.dead ∙ rests.raw
run_rests before [] (reply ∷ replies) after run dead = absurd run
run_rests before (call ∷ calls) [] after run dead = absurd run
