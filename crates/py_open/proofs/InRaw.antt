-- A smooth run that ends in a close leaves the bytes of its file in the raw.
use Rattle.std.proofs.Common.{◌≡◌, ◌≢◌, ◌⊎◌, inl, inr, ℕ, Bool, true, false, IsTrue, List, [], ◌∷◌, ◌++◌, Option, refl, sym, ap, ◌∙◌, subst}
use Rattle.py_flat.specs.declared.fault.IoFault.TheVariants as fault
use Rattle.py_flat.specs.declared.life.Life.{Life}
use Rattle.py_flat.specs.declared.life.Life.TheVariants as life
use Rattle.py_flat.specs.Bytes.{lay}
use Rattle.py_flat.specs.Calls.{FileCall, Close, Detach, FileReply, Done, Unwritten, Refused}
use Rattle.py_flat.specs.Refusals.{is_getter}
use Rattle.py_plain_text.specs.TextFile.{TextSettings}
use Rattle.py_plain_text.specs.TextCalls as text
use Rattle.py_plain_text.specs.TextCalls.{TextFileCall}
use Rattle.py_raw.specs.RawStream.{Raw, tells}
use Rattle.py_raw.proofs.Telling.{tells_still}
use Rattle.py_stream.specs.Stream.{Stream}
use Rattle.py_stream.specs.Kinds.{says_fault}
use Rattle.py_stream.specs.Answers.{LifeMoves, refused_by}
use Rattle.py_stream.specs.Answers as stream
use Rattle.py_calls.specs.declared.call.Call.{Call}
use Rattle.py_calls.specs.declared.call.Call.TheVariants as call
use Rattle.py_calls.specs.declared.reply.Reply.{Reply}
use Rattle.py_calls.specs.Calls.{text_call, file_call, said}
use Rattle.py_read_text.specs.TextState.{TextState}
use Rattle.py_read_text.specs.Answers as over
use Rattle.py_binary.specs.Binary.{AnswersBy}
use Rattle.py_open.specs.Session.{SessionView, TextSession, BinarySession, file_seen, raw_of, life_of, owed_of, bytes_in, IsInStep, AnswersTextBy, Answers}
use Rattle.py_open.specs.Run.{IsRun, IsSmooth, NoneLacksMemory, all_said}
use Rattle.py_open.specs.Laws.{FilePassesAll, TextPassesAll, PassesAll, Completes}
use Rattle.py_open.proofs.TextLeft.{call_life}
use Rattle.py_open.proofs.Steps.{left_life, step_keeps, step_causes, step_completes, step_in_step}
use Rattle.py_textio.proofs.Smooth.{uncaused}
use Rattle.py_open.proofs.Ending.{step_passes}
use Rattle.py_open.proofs.Runs.{run_keeps_raw, smooth_up_to, smooth_from, closed_stays}
use Rattle.py_open.proofs.Gone.{run_stays}

-- of two lists that make none neither has any
none_of_both : (front behind : List ℕ) → front ++ behind ≡ [] → (front ≡ []) × (behind ≡ [])
none_of_both [] behind none = (refl, none)
none_of_both (byte ∷ front) behind none = absurd (cc)

-- a session that owes nothing has the bytes of its file in its raw
pub owed_none : (session : SessionView) → owed_of session ≡ [] → bytes_in (file_seen session) ≡ (raw_of session).bytes
owed_none (TextSession view) none =
    let both = none_of_both view.text.buffer.owed.bytes view.text.owed none in
    ap (λ (own : List ℕ). lay (lay view.text.buffer.raw.bytes view.text.buffer.owed.place view.text.buffer.owed.bytes) view.text.buffer.place own) both.1
    ∙ ap (λ (owed : List ℕ). lay view.text.buffer.raw.bytes view.text.buffer.owed.place owed) both.0
owed_none (BinarySession stream) none = ap (λ (owed : List ℕ). lay stream.raw.bytes stream.owed.place owed) none

-- what a smooth call leaves of a live session, where there was memory: a live one; or an ended one, which owes nothing
abbrev pub Goes : Life → Type 0 → Type 0
Goes after Passed = (after ≡ life.Live) ⊎ (((after ≡ life.Closed) ⊎ (after ≡ life.Detached)) × Passed)

stream_goes : (buffer : Option ℕ) (call : FileCall) (reply : FileReply) (before after : Life) → LifeMoves buffer call reply before after → says_fault reply ≡ false → reply ≢ Refused fault.NoMemory → before ≡ life.Live → Goes after (FilePassesAll call reply)
stream_goes buffer Close Done before after moves sound had live = inr (inl moves, tt)
stream_goes buffer Detach (Unwritten bytes place) before after moves sound had live = inr (inr moves, tt)
stream_goes buffer call (Refused fault.RawFault) before after moves sound had live = absurd (cc)
stream_goes buffer call (Refused fault.NoMemory) before after moves sound had live = absurd (had refl)
stream_goes buffer call reply before after moves sound had live = inl (moves ∙ live)

text_goes : (settings : TextSettings) (writes : Bool) (call : TextFileCall) (reply : FileReply) (before after : Life) → over.LifeMoves writes call reply before after → says_fault reply ≡ false → reply ≢ Refused fault.NoMemory → before ≡ life.Live → Goes after (TextPassesAll settings call reply)
text_goes settings writes text.Close Done before after moves sound had live = inr (inl moves, tt)
text_goes settings writes text.Detach (Unwritten bytes place) before after moves sound had live = inr (inr moves, tt)
text_goes settings writes call (Refused fault.RawFault) before after moves sound had live = absurd (cc)
text_goes settings writes call (Refused fault.NoMemory) before after moves sound had live = absurd (had refl)
text_goes settings writes call reply before after moves sound had live = inl (moves ∙ live)

text_went : (getter : Bool) (before : TextState) (call : TextFileCall) (reply : FileReply) (after : TextState) → AnswersTextBy getter before call reply after → says_fault reply ≡ false → reply ≢ Refused fault.NoMemory → before.text.life ≡ life.Live → Goes after.text.life (TextPassesAll before.text.settings call reply)
text_went true before call reply after step sound had live = inl (ap (λ (t : TextState). t.text.life) step.same ∙ live)
text_went false before call reply after step sound had live =
    subst (λ (current : Life). Goes current (TextPassesAll before.text.settings call reply)) (sym (call_life before call reply after step))
    (text_goes before.text.settings before.text.buffer.can.writable call reply before.text.life step.answered.text.life step.answers.moves.life_is sound had live)

stream_went : (getter : Bool) (before : Stream) (call : FileCall) (reply : FileReply) (after : Stream) → AnswersBy getter before call reply after → says_fault reply ≡ false → reply ≢ Refused fault.NoMemory → before.life ≡ life.Live → Goes after.life (FilePassesAll call reply)
stream_went true before call reply after step sound had live = inl (ap (λ (s : Stream). s.life) step.same ∙ live)
stream_went false before call reply after step sound had live =
    let a : Stream = step.answered in
    let is : after.life ≡ a.life = ap (λ (s : Stream). s.life) step.leaves ∙ left_life before.life a.life a refl in
    subst (λ (current : Life). Goes current (FilePassesAll call reply)) (sym is) (stream_goes before.buffer call reply before.life a.life step.answers.moves.life_is sound had live)

passing : (before : SessionView) (call : Call) (reply : Reply) (after : SessionView) → Answers before call reply after → life_of before ≡ life.Live → says_fault (said reply) ≡ false → said reply ≢ Refused fault.NoMemory → Goes (life_of after) (PassesAll before call (said reply))
passing (TextSession before) call reply (TextSession after) step live sound had = text_went (text.is_getter (text_call call)) before (text_call call) (said reply) after step.answers sound had live
passing (BinarySession before) call reply (BinarySession after) step live sound had = stream_went (is_getter (file_call call)) before (file_call call) (said reply) after step sound had live
passing (TextSession before) call reply (BinarySession after) step live sound had = absurd step
passing (BinarySession before) call reply (TextSession after) step live sound had = absurd step

went : (before : SessionView) (call : Call) (reply : Reply) (after : SessionView) → Answers before call reply after → IsInStep before → life_of before ≡ life.Live → says_fault (said reply) ≡ false → said reply ≢ Refused fault.NoMemory → Goes (life_of after) (owed_of after ≡ [])
went before call reply after step in_step live sound had =
    elim (passing before call reply after step live sound had) [
      | inl still ↦ inl still
      | inr ended ↦ inr (ended.0, (step_passes before call reply after step in_step live ended.1).none)
    ]

-- no fault is said where no count rose
sound_step : (before : SessionView) (call : Call) (reply : Reply) (after : SessionView) → Answers before call reply after → IsSmooth (raw_of before) (raw_of after) → says_fault (said reply) ≡ false
sound_step before call reply after step smooth = uncaused (says_fault (said reply)) (raw_of before).faults (raw_of after).faults (step_causes before call reply after step).faults smooth.faults

-- A close that comes last.

-- a smooth close of a live session that had memory is done
stream_done : (reply : FileReply) → stream.IsAnswerTo Close reply → reply ≢ Refused fault.NoMemory → reply ≡ Done
stream_done Done answers had = refl
stream_done (Refused fault.NoMemory) answers had = absurd (had refl)
stream_done reply answers had = absurd answers

text_done : (reply : FileReply) → over.IsAnswerTo text.Close reply → reply ≢ Refused fault.NoMemory → reply ≡ Done
text_done Done answers had = refl
text_done (Refused fault.NoMemory) answers had = absurd (had refl)
text_done reply answers had = absurd answers

close_completes : (before : SessionView) (reply : FileReply) → Completes before call.Close reply → life_of before ≡ life.Live → reply ≢ Refused fault.NoMemory → PassesAll before call.Close reply
close_completes (TextSession before) reply completes live had = subst (TextPassesAll before.text.settings text.Close) (sym (text_done reply (completes (rw live refl)) had)) tt
close_completes (BinarySession before) reply completes live had = subst (FilePassesAll Close) (sym (stream_done reply (completes (rw live refl)) had)) tt

closed_last : (before : SessionView) (reply : Reply) (after : SessionView) → Answers before call.Close reply after → IsInStep before → life_of before ≡ life.Live → IsSmooth (raw_of before) (raw_of after) → said reply ≢ Refused fault.NoMemory → bytes_in (file_seen after) ≡ (raw_of after).bytes
closed_last before reply after step in_step live smooth had =
    let passes = close_completes before (said reply) (step_completes before call.Close reply after step smooth) live had in
    owed_none after (step_passes before call.Close reply after step in_step live passes).none

-- once the session has ended, its file and its raw stay
stays_in_raw : (ended : SessionView) (calls : List Call) (replies : List Reply) (after : SessionView) → IsRun ended calls replies after → (life_of ended ≡ life.Closed) ⊎ (life_of ended ≡ life.Detached) → bytes_in (file_seen ended) ≡ (raw_of ended).bytes → bytes_in (file_seen after) ≡ (raw_of after).bytes
stays_in_raw ended calls replies after run (inl closed) is =
    let stays = closed_stays ended calls replies after run closed in
    ap bytes_in stays.file ∙ is ∙ sym (ap (λ (raw : Raw). raw.bytes) stays.raw)
stays_in_raw ended calls replies after run (inr gone) is =
    let stays = run_stays ended calls replies after run gone in
    ap bytes_in stays.file ∙ is ∙ sym (ap (λ (raw : Raw). raw.bytes) stays.raw)

-- a smooth run that ends in a close, and had memory, leaves the bytes of its file in the raw
pub close_leaves_in_raw : (before : SessionView) (calls : List Call) (replies : List Reply) (after : SessionView) → IsRun before (calls ++ call.Close ∷ []) replies after → IsInStep before → life_of before ≡ life.Live → IsTrue (tells (raw_of before)) → IsSmooth (raw_of before) (raw_of after) → NoneLacksMemory (all_said replies) → bytes_in (file_seen after) ≡ (raw_of after).bytes
close_leaves_in_raw before [] (reply ∷ []) after run in_step live told smooth had =
    subst (λ (last : SessionView). bytes_in (file_seen last) ≡ (raw_of last).bytes) (sym run.2)
    (closed_last before reply run.0 run.1 in_step live (subst (λ (last : SessionView). IsSmooth (raw_of before) (raw_of last)) run.2 smooth) had.0)
close_leaves_in_raw before (first ∷ calls) (reply ∷ replies) after run in_step live told smooth had =
    let mid : SessionView = run.0 in
    let here = (step_keeps before first reply mid run.1).0 in
    let on = run_keeps_raw mid (calls ++ call.Close ∷ []) replies after run.2 in
    let still : IsTrue (tells (raw_of mid)) = tells_still (raw_of before) (raw_of mid) here ∙ told in
    let stepped : IsInStep mid = step_in_step before first reply mid run.1 in_step in
    elim (went before first reply mid run.1 in_step live (sound_step before first reply mid run.1 (smooth_up_to (raw_of before) (raw_of mid) (raw_of after) on smooth)) had.0) [
      | inl lives ↦ close_leaves_in_raw mid calls replies after run.2 stepped lives still (smooth_from (raw_of before) (raw_of mid) (raw_of after) here smooth) had.1
      | inr ended ↦ stays_in_raw mid (calls ++ call.Close ∷ []) replies after run.2 ended.0 (owed_none mid ended.1)
    ]
close_leaves_in_raw before [] [] after run in_step live told smooth had = absurd run
close_leaves_in_raw before [] (reply ∷ (other ∷ replies)) after run in_step live told smooth had = absurd run.2
close_leaves_in_raw before (first ∷ calls) [] after run in_step live told smooth had = absurd run
