-- What one call of a session does, by its kind.
use Rattle.std.proofs.Common.{inl, inr, ◌≡◌, ◌≢◌, ◌⊎◌, ◌||◌, ℕ, zero, suc, pos, Bool, true, false, IsTrue, List, [], ◌∷◌, Option, Some, None, is_some, unwrap_or, refl, sym, ap, ◌∙◌, subst, if◌then◌else◌, arith}
use Rattle.py_flat.specs.declared.fault.IoFault.{IoFault}
use Rattle.py_flat.specs.declared.fault.IoFault.TheVariants as fault
use Rattle.py_flat.specs.declared.life.Life.{Life}
use Rattle.py_flat.specs.declared.life.Life.TheVariants as life
use Rattle.py_flat.specs.Bytes.{lay}
use Rattle.py_flat.specs.Calls.{FileCall, Detach, FileReply, Done, Unwritten, Refused}
use Rattle.py_flat.specs.Calls as binary
use Rattle.py_flat.specs.FlatFile.{Abilities, FlatFile}
use Rattle.py_flat.specs.Owed.{Owed}
use Rattle.py_flat.specs.Refusals.{is_getter, life_fault, or_else, refused_if}
use Rattle.py_flat.specs.AllowedStep.{settled, waited_for, raw_faulted, out_of_memory}
use Rattle.py_flat.specs.BinaryStep.{Settled, BinaryStep}
use Rattle.py_plain_text.specs.TextFile.{TextSettings, TextFile}
use Rattle.py_plain_text.specs.TextCalls as text
use Rattle.py_plain_text.specs.TextCalls.{TextFileCall, changed, tells_name}
use Rattle.py_plain_text.specs.TextRefusals as refusals
use Rattle.py_plain_text.specs.TextExact.{carried_out, exact}
use Rattle.py_plain_text.specs.TextAllowed as text_file
use Rattle.py_plain_text.specs.TextAllowed.{TextFileStep}
use Rattle.py_raw.specs.RawStream.{Raw, Keeps, tells, AnswersFor}
use Rattle.py_raw.proofs.Telling.{keeps_same}
use Rattle.py_stream.specs.Stream.{Stream, file_of, nothing_owed}
use Rattle.py_stream.specs.Kinds.{says_fault}
use Rattle.py_stream.specs.Answers.{HasCauses, ClosedWith, LifeMoves}
use Rattle.py_stream.specs.Buffer.{Buffer, parts_when_closed}
use Rattle.py_stream.specs.Handing.{owed_then}
use Rattle.py_text.specs.Settings.{changes_of}
use Rattle.py_text.specs.declared.reconfigure.Reconfigure.{Reconfigure}
use Rattle.py_calls.specs.declared.call.Call.{Call}
use Rattle.py_calls.specs.declared.call.Call.TheVariants as call
use Rattle.py_calls.specs.declared.reply.Reply.{Reply}
use Rattle.py_calls.specs.Calls.{text_call, file_call, said}
use Rattle.py_read_text.specs.TextState as state
use Rattle.py_read_text.specs.TextState.{TextState}
use Rattle.py_read_text.specs.Answers as over
use Rattle.py_textio.proofs.Smooth.{text_alone, uncaused}
use Rattle.py_open.specs.TextSession.{OwesNothing}
use Rattle.py_open.specs.TextHanding as session
use Rattle.py_open.proofs.TextLeft.{call_raw, call_can, call_buffering, call_settings, call_life, call_closed, call_owes, told_at, left_text, left_as_it_is}
use Rattle.py_binary.specs.Binary.{gone_stream, left_by, left_of, HandsOwed, AnswersCall, AnswersBy}
use Rattle.py_binary.proofs.Leaving.{attached_on}
use Rattle.py_open.specs.Session.{SessionFile, OfText, OfBinary, SessionView, TextSession, BinarySession, IsDetached, LeftBy, FileLeft, TextLeft, LeavesTextFile, SaysOrStarves, AnswersTextBy, StaysOpenWithText, FileStepBy, SessionStep, FileSettlesBy, Settles, file_seen, raw_of, life_of, short_of, Answers, IsInStep}
use Rattle.py_open.specs.Run.{IsSmooth}
use Rattle.py_open.specs.Laws.{CompletesText, CompletesFile, Completes, gives, gives_chunk_size, SettingStays, KeepsText, KeepsSettings, OnlyReads}
use Rattle.py_stream.proofs.Refused.{closes_whole}

-- What is left of a stream.

pub left_raw : (was current : Life) (stream : Stream) → (left_by was current stream).raw ≡ stream.raw
left_raw life.Detached current stream = refl
left_raw was life.Detached stream = refl
left_raw was current stream = refl

left_can : (was current : Life) (stream : Stream) → (left_by was current stream).can ≡ stream.can
left_can life.Detached current stream = refl
left_can was life.Detached stream = refl
left_can was current stream = refl

left_buffer : (was current : Life) (stream : Stream) → (left_by was current stream).buffer ≡ stream.buffer
left_buffer life.Detached current stream = refl
left_buffer was life.Detached stream = refl
left_buffer was current stream = refl

pub left_life : (was current : Life) (stream : Stream) → stream.life ≡ current → (left_by was current stream).life ≡ current
left_life life.Detached current stream is = is
left_life was life.Detached stream is = refl
left_life was current stream is = is

pub left_none : (was current : Life) (stream : Stream) → stream.owed.bytes ≡ [] → (left_by was current stream).owed.bytes ≡ []
left_none life.Detached current stream none = none
left_none was life.Detached stream none = refl
left_none was current stream none = none

left_settled : (was current : Life) (stream : Stream) → stream.owed ≡ nothing_owed stream.place → (left_by was current stream).owed ≡ nothing_owed (left_by was current stream).place
left_settled life.Detached current stream none = none
left_settled was life.Detached stream none = refl
left_settled was current stream none = none

-- a stream is detached by nothing but a `detach` that was answered, which leaves its bytes without those that it hands over
detached_left : (before : Stream) (call : FileCall) (reply : FileReply) (a : Stream) → before.life ≢ life.Detached → a.life ≡ life.Detached → LifeMoves before.buffer call reply before.life a.life → HandsOwed before call reply a → IsDetached (file_of a) reply (file_of (gone_stream a.can a.buffer a.raw))
detached_left before Detach (Unwritten bytes place) a was is moves hands = record {
  life_is = refl;
  can = refl;
  buffering = refl;
  place = refl;
  at = a.owed.place;
  told = λ there same. ap (λ (owed : Owed). owed.place) hands.2 ∙ told_at before.can.seekable (owed_then before.life before).place there (sym hands.1 ∙ same);
  bytes = ap (λ (owed : List ℕ). lay a.raw.bytes a.owed.place owed) (ap (λ (owed : Owed). owed.bytes) hands.2 ∙ sym hands.0);
}
detached_left before call reply a was is moves hands = absurd (attached_on before.buffer call reply before.life a.life moves (λ it bytes place says. cc) was is)

left_file : (was current : Life) (before : Stream) (call : FileCall) (reply : FileReply) (a : Stream) → before.life ≡ was → a.life ≡ current → LifeMoves before.buffer call reply before.life a.life → HandsOwed before call reply a → LeftBy IsDetached was current (file_of a) reply (file_of (left_by was current a))
left_file life.Detached current before call reply a was is moves hands = refl
left_file life.Live life.Detached before call reply a was is moves hands = detached_left before call reply a (λ gone. let wrong : life.Live ≡ life.Detached = sym was ∙ gone in absurd (cc)) is moves hands
left_file life.Failed life.Detached before call reply a was is moves hands = detached_left before call reply a (λ gone. let wrong : life.Failed ≡ life.Detached = sym was ∙ gone in absurd (cc)) is moves hands
left_file life.Closed life.Detached before call reply a was is moves hands = detached_left before call reply a (λ gone. let wrong : life.Closed ≡ life.Detached = sym was ∙ gone in absurd (cc)) is moves hands
left_file was current before call reply a was_is is moves hands = refl

-- What refuses a call of a text by its life.

pub text_refuses_by : (file : TextFile) (call : TextFileCall) (current : Life) (why : IoFault) → file.life ≡ current → text.is_getter call ≡ false → refusals.lets_through current call ≡ false → life_fault current ≡ Some why → refusals.refusal file call ≡ Some why
text_refuses_by file call current why is asks passes fails = rw (asks, is, passes, fails) refl

pub text_refused_by : (file : TextFile) (call : TextFileCall) (current : Life) (why : IoFault) → file.life ≡ current → text.is_getter call ≡ false → refusals.lets_through current call ≡ false → life_fault current ≡ Some why → over.refused_here file call ≡ Some why
text_refused_by file (text.SeekText sought whence) current why is asks passes fails = text_refuses_by (record file { bytes = [] }) (text.SeekText sought whence) current why is asks passes fails
text_refused_by file call current why is asks passes fails = text_refuses_by file call current why is asks passes fails

-- What every call keeps.

-- a setting that isn't given stays
unset : {A : Type 0} → (given : Option A) (own : A) → is_some given ≡ false → unwrap_or given own ≡ own
unset None own is = refl
unset (Some other) own is = absurd (cc)

-- a setting that a call doesn't give is what it was: so it is where `Reconfigure` changes it by what is given of it, and `SetChunkSize` doesn't
setting_stays : {A : Type 0} → (given : Reconfigure → Option A) (own : TextSettings → A) → ((changes : Reconfigure) (settings : TextSettings) → own (changed settings (changes_of changes)) ≡ unwrap_or (given changes) (own settings)) → ((size : ℕ) (settings : TextSettings) → own (record settings { chunk_size = size }) ≡ own settings) → (call : Call) (reply : FileReply) (settings : TextSettings) → gives given call ≡ false → own (over.settings_after (text_call call) reply settings) ≡ own settings
setting_stays given own changes_it sized (call.Reconfigure changes) Done settings none = changes_it changes settings ∙ unset (given changes) (own settings) none
setting_stays given own changes_it sized (call.SetChunkSize size) Done settings none = sized size settings
setting_stays given own changes_it sized call reply settings none = refl

chunk_stays : (call : Call) (reply : FileReply) (settings : TextSettings) → gives_chunk_size call ≡ false → (over.settings_after (text_call call) reply settings).chunk_size ≡ settings.chunk_size
chunk_stays (call.Reconfigure changes) Done settings is = refl
chunk_stays (call.SetChunkSize size) reply settings is = absurd (cc)
chunk_stays call reply settings is = refl

-- settings that are the same are kept
pub settings_kept : (before : TextSettings) (calls : List Call) (after : TextSettings) → after ≡ before → KeepsText before calls after
settings_kept before calls after is = record {
  encoding = λ none. ap (λ (settings : TextSettings). settings.encoding) is;
  handler = λ none. ap (λ (settings : TextSettings). settings.handler) is;
  newline = λ none. ap (λ (settings : TextSettings). settings.newline) is;
  line_buffering = λ none. ap (λ (settings : TextSettings). settings.line_buffering) is;
  write_through = λ none. ap (λ (settings : TextSettings). settings.write_through) is;
  chunk_size = λ none. ap (λ (settings : TextSettings). settings.chunk_size) is;
}

-- so it is of the settings that a call leaves
setting_kept : {A : Type 0} → (given : Reconfigure → Option A) (own : TextSettings → A) → ((changes : Reconfigure) (settings : TextSettings) → own (changed settings (changes_of changes)) ≡ unwrap_or (given changes) (own settings)) → ((size : ℕ) (settings : TextSettings) → own (record settings { chunk_size = size }) ≡ own settings) → (before : TextSettings) (call : Call) (reply : FileReply) (after : TextSettings) → after ≡ over.settings_after (text_call call) reply before → SettingStays given own before (call ∷ []) after
setting_kept given own changes_it sized before call reply after is none = ap own is ∙ setting_stays given own changes_it sized call reply before none.0

text_settings_keep : (before : TextSettings) (call : Call) (reply : FileReply) (after : TextSettings) → after ≡ over.settings_after (text_call call) reply before → KeepsText before (call ∷ []) after
text_settings_keep before call reply after is = record {
  encoding = setting_kept (λ changes. changes.encoding) (λ settings. settings.encoding) (λ changes settings. refl) (λ size settings. refl) before call reply after is;
  handler = setting_kept (λ changes. changes.errors) (λ settings. settings.handler) (λ changes settings. refl) (λ size settings. refl) before call reply after is;
  newline = setting_kept (λ changes. changes.newline) (λ settings. settings.newline) (λ changes settings. refl) (λ size settings. refl) before call reply after is;
  line_buffering = setting_kept (λ changes. changes.line_buffering) (λ settings. settings.line_buffering) (λ changes settings. refl) (λ size settings. refl) before call reply after is;
  write_through = setting_kept (λ changes. changes.write_through) (λ settings. settings.write_through) (λ changes settings. refl) (λ size settings. refl) before call reply after is;
  chunk_size = λ none. ap (λ (settings : TextSettings). settings.chunk_size) is ∙ chunk_stays call reply before none.0;
}

text_keeps : (getter : Bool) (before : TextState) (call : Call) (reply : FileReply) (after : TextState) → AnswersTextBy getter before (text_call call) reply after → Keeps before.text.buffer.raw after.text.buffer.raw × KeepsSettings (TextSession before) (call ∷ []) (TextSession after)
text_keeps true before call reply after step = (
  subst (λ (raw : Raw). Keeps before.text.buffer.raw raw) (sym (ap (λ (t : TextState). t.text.buffer.raw) step.same)) (keeps_same before.text.buffer.raw),
  (
    ap (λ (t : TextState). t.text.buffer.can) step.same,
    settings_kept before.text.settings (call ∷ []) after.text.settings (ap (λ (t : TextState). t.text.settings) step.same),
    ap (λ (t : TextState). t.text.buffer.buffering) step.same,
  ),
)
text_keeps false before call reply after step = (
  subst (λ (raw : Raw). Keeps before.text.buffer.raw raw) (sym (call_raw before (text_call call) reply after step)) step.answers.keeps.raw,
  (
    call_can before (text_call call) reply after step ∙ step.answers.keeps.can,
    text_settings_keep before.text.settings call reply after.text.settings (call_settings before (text_call call) reply after step ∙ step.answers.moves.settings),
    call_buffering before (text_call call) reply after step ∙ step.answers.keeps.buffering,
  ),
)

binary_keeps : (getter : Bool) (before : Stream) (call : FileCall) (reply : FileReply) (after : Stream) → AnswersBy getter before call reply after → Keeps before.raw after.raw × ((after.can ≡ before.can) × (after.buffer ≡ before.buffer))
binary_keeps true before call reply after step = (
  subst (λ (raw : Raw). Keeps before.raw raw) (sym (ap (λ (s : Stream). s.raw) step.same)) (keeps_same before.raw),
  (ap (λ (s : Stream). s.can) step.same, ap (λ (s : Stream). s.buffer) step.same),
)
binary_keeps false before call reply after step =
    let a : Stream = step.answered in (
      subst (λ (raw : Raw). Keeps before.raw raw) (sym (ap (λ (s : Stream). s.raw) step.leaves ∙ left_raw before.life a.life a)) step.answers.keeps.raw,
      (ap (λ (s : Stream). s.can) step.leaves ∙ left_can before.life a.life a ∙ step.answers.keeps.can, ap (λ (s : Stream). s.buffer) step.leaves ∙ left_buffer before.life a.life a ∙ step.answers.keeps.buffer),
    )

pub step_keeps : (before : SessionView) (call : Call) (reply : Reply) (after : SessionView) → Answers before call reply after → Keeps (raw_of before) (raw_of after) × KeepsSettings before (call ∷ []) after
step_keeps (TextSession before) call reply (TextSession after) step = text_keeps (text.is_getter (text_call call)) before call (said reply) after step.answers
step_keeps (BinarySession before) call reply (BinarySession after) step = binary_keeps (is_getter (file_call call)) before (file_call call) (said reply) after step
step_keeps (TextSession before) call reply (BinarySession after) step = absurd step
step_keeps (BinarySession before) call reply (TextSession after) step = absurd step

-- Causes.

-- a reply that isn't short and says no fault needs no cause
caused_none : (old new : Raw) (reply : FileReply) (short : Bool) → short ≡ false → says_fault reply ≡ false → HasCauses old reply new short
caused_none old new reply short whole sound = record { waits = λ is. absurd (let wrong : true ≡ false = sym is ∙ whole in cc); faults = λ is. absurd (let wrong : true ≡ false = sym is ∙ sound in cc) }

-- what a question is answered by is no fault
no_fault : (file : TextFile) (call : TextFileCall) → text.is_getter call ≡ true → says_fault (carried_out file call).0 ≡ false
no_fault file text.ChunkSize is = refl
no_fault file text.Readable is = refl
no_fault file text.Writable is = refl
no_fault file text.Seekable is = refl
no_fault file text.Closed is = refl
no_fault file text.Encoding is = refl
no_fault file text.Errors is = refl
no_fault file call is = absurd (cc)

told_sound : (names : Bool) (expected reply : FileReply) → says_fault expected ≡ false → SaysOrStarves names expected reply → says_fault reply ≡ false
told_sound true expected reply sound (inl says) = ap says_fault says ∙ sound
told_sound true expected reply sound (inr none) = ap says_fault none
told_sound false expected reply sound says = ap says_fault says ∙ sound

text_causes : (getter : Bool) (before : TextState) (call : TextFileCall) (reply : FileReply) (after : TextState) → text.is_getter call ≡ getter → AnswersTextBy getter before call reply after → HasCauses before.text.buffer.raw reply after.text.buffer.raw after.short
text_causes true before call reply after is step =
    caused_none before.text.buffer.raw after.text.buffer.raw reply after.short (ap (λ (t : TextState). t.short) step.same) (told_sound (tells_name call) (carried_out (state.file_of before) call).0 reply (no_fault (state.file_of before) call is) step.says)
text_causes false before call reply after is step =
    subst (λ (short : Bool). HasCauses before.text.buffer.raw reply after.text.buffer.raw short) (sym step.marks)
    (subst (λ (raw : Raw). HasCauses before.text.buffer.raw reply raw step.answered.short) (sym (call_raw before call reply after step)) step.answers.causes)

binary_causes : (getter : Bool) (before : Stream) (call : FileCall) (reply : FileReply) (after : Stream) → AnswersBy getter before call reply after → HasCauses before.raw reply after.raw after.short
binary_causes true before call reply after step = caused_none before.raw after.raw reply after.short (ap (λ (s : Stream). s.short) step.same) (ap says_fault step.says)
binary_causes false before call reply after step =
    let a : Stream = step.answered in
    subst (λ (short : Bool). HasCauses before.raw reply after.raw short) (sym step.marks)
    (subst (λ (raw : Raw). HasCauses before.raw reply raw a.short) (sym (ap (λ (s : Stream). s.raw) step.leaves ∙ left_raw before.life a.life a)) step.answers.causes)

pub step_causes : (before : SessionView) (call : Call) (reply : Reply) (after : SessionView) → Answers before call reply after → HasCauses (raw_of before) (said reply) (raw_of after) (short_of after)
step_causes (TextSession before) call reply (TextSession after) step = text_causes (text.is_getter (text_call call)) before (text_call call) (said reply) after refl step.answers
step_causes (BinarySession before) call reply (BinarySession after) step = binary_causes (is_getter (file_call call)) before (file_call call) (said reply) after step
step_causes (TextSession before) call reply (BinarySession after) step = absurd step
step_causes (BinarySession before) call reply (TextSession after) step = absurd step

-- The model's step.

or_true : (first : Bool) → (first || true) ≡ true
or_true true = refl
or_true false = refl

-- a question is a step of the model, whatever the raw does
text_asked : (file : TextFile) (call : TextFileCall) (reply : FileReply) (waited faulted : Bool) → text.is_getter call ≡ true → SaysOrStarves (tells_name call) (carried_out file call).0 reply → TextFileStep file call reply waited faulted file
text_asked file text.ChunkSize reply waited faulted is says = settled (ap (λ (said : FileReply). (said, file)) says)
text_asked file text.Readable reply waited faulted is says = settled (ap (λ (said : FileReply). (said, file)) says)
text_asked file text.Writable reply waited faulted is says = settled (ap (λ (said : FileReply). (said, file)) says)
text_asked file text.Seekable reply waited faulted is says = settled (ap (λ (said : FileReply). (said, file)) says)
text_asked file text.Closed reply waited faulted is says = settled (ap (λ (said : FileReply). (said, file)) says)
text_asked file text.Encoding reply waited faulted is (inl says) = settled (ap (λ (said : FileReply). (said, file)) says)
text_asked file text.Encoding reply waited faulted is (inr none) = out_of_memory none (inl (or_true (text_file.reaches_raw file text.Encoding), refl))
text_asked file text.Errors reply waited faulted is (inl says) = settled (ap (λ (said : FileReply). (said, file)) says)
text_asked file text.Errors reply waited faulted is (inr none) = out_of_memory none (inl (or_true (text_file.reaches_raw file text.Errors), refl))
text_asked file call reply waited faulted is says = absurd (cc)

text_told : (getter : Bool) (before : TextState) (call : TextFileCall) (reply : FileReply) (after : TextState) → text.is_getter call ≡ getter → AnswersTextBy getter before call reply after → IsTrue (tells before.text.buffer.raw) → LeavesTextFile (state.file_of before) call reply after.short (says_fault reply) (state.file_of after)
text_told true before call reply after is step tells = record {
  file = state.file_of before;
  step = text_asked (state.file_of before) call reply after.short (says_fault reply) is step.says;
  left = subst (λ (file : TextFile). TextLeft before.text.life (state.file_of before) reply file) (sym (ap state.file_of step.same)) (left_as_it_is before.text.life (state.file_of before) reply);
}
text_told false before call reply after is step tells =
    let a : TextState = step.answered in
    record {
      file = state.file_of a;
      step = subst (λ (short : Bool). TextFileStep (state.file_of before) call reply short (says_fault reply) (state.file_of a)) (sym step.marks) (step.answers.told tells);
      left = subst (λ (t : TextState). TextLeft before.text.life (state.file_of a) reply (state.file_of t)) (sym step.leaves) (left_text before.text.life a.text.life before call reply a refl refl step.answers step.hands);
    }

binary_told : (getter : Bool) (before : Stream) (call : Call) (reply : FileReply) (after : Stream) → AnswersBy getter before (file_call call) reply after → IsTrue (tells before.raw) → FileStepBy getter (file_of before) call reply after.short (says_fault reply) (file_of after)
binary_told true before call reply after step tells = record { says = step.says; same = ap (λ (s : Stream). file_of s) step.same }
binary_told false before call reply after step tells =
    let a : Stream = step.answered in
    record {
      file = file_of a;
      step = subst (λ (short : Bool). BinaryStep (file_of before) (file_call call) reply short (says_fault reply) (file_of a)) (sym step.marks) (step.answers.told tells);
      left = subst (λ (s : Stream). FileLeft before.life (file_of a) reply (file_of s)) (sym step.leaves) (left_file before.life a.life before (file_call call) reply a refl refl step.answers.moves.life_is step.hands);
    }

pub step_told : (before : SessionView) (call : Call) (reply : Reply) (after : SessionView) → Answers before call reply after → IsTrue (tells (raw_of before)) → SessionStep (file_seen before) call (said reply) (short_of after) (says_fault (said reply)) (file_seen after)
step_told (TextSession before) call reply (TextSession after) step tells = text_told (text.is_getter (text_call call)) before (text_call call) (said reply) after refl step.answers tells
step_told (BinarySession before) call reply (BinarySession after) step tells = binary_told (is_getter (file_call call)) before call (said reply) after step tells
step_told (TextSession before) call reply (BinarySession after) step tells = absurd step
step_told (BinarySession before) call reply (TextSession after) step tells = absurd step

-- A step that has neither cause, and had memory, is settled.

binary_alone : (before : FlatFile) (call : FileCall) (reply : FileReply) (waited faulted : Bool) (after : FlatFile) → waited ≡ false → faulted ≡ false → reply ≢ Refused fault.NoMemory → BinaryStep before call reply waited faulted after → Settled before call reply after
binary_alone before call reply waited faulted after no_wait no_fault had (settled exact) = exact
binary_alone before call reply waited faulted after no_wait no_fault had (waited_for rose part) = let wrong : true ≡ false = sym rose ∙ no_wait in absurd (cc)
binary_alone before call reply waited faulted after no_wait no_fault had (raw_faulted rose said left) = let wrong : true ≡ false = sym rose ∙ no_fault in absurd (cc)
binary_alone before call reply waited faulted after no_wait no_fault had (out_of_memory said left) = absurd (had said)

settles_by : (getter : Bool) (before : FlatFile) (call : Call) (reply : FileReply) (waited faulted : Bool) (after : FlatFile) → waited ≡ false → faulted ≡ false → reply ≢ Refused fault.NoMemory → FileStepBy getter before call reply waited faulted after → FileSettlesBy getter before call reply after
settles_by true before call reply waited faulted after no_wait no_fault had step = step
settles_by false before call reply waited faulted after no_wait no_fault had step = record { file = step.file; settled = binary_alone before (file_call call) reply waited faulted step.file no_wait no_fault had step.step; left = step.left }

pub step_settles : (before : SessionFile) (call : Call) (reply : FileReply) (waited faulted : Bool) (after : SessionFile) → waited ≡ false → faulted ≡ false → reply ≢ Refused fault.NoMemory → SessionStep before call reply waited faulted after → Settles before call reply after
step_settles (OfText before) call reply waited faulted (OfText after) no_wait no_fault had step = record { file = step.file; settled = text_alone before (text_call call) reply waited faulted step.file no_wait no_fault had step.step; left = step.left }
step_settles (OfBinary before) call reply waited faulted (OfBinary after) no_wait no_fault had step = settles_by (is_getter (file_call call)) before call reply waited faulted after no_wait no_fault had step
step_settles (OfText before) call reply waited faulted (OfBinary after) no_wait no_fault had step = absurd step
step_settles (OfBinary before) call reply waited faulted (OfText after) no_wait no_fault had step = absurd step

pub smooth_step : (before : SessionView) (call : Call) (reply : Reply) (after : SessionView) → Answers before call reply after → IsTrue (tells (raw_of before)) → IsSmooth (raw_of before) (raw_of after) → said reply ≢ Refused fault.NoMemory → Settles (file_seen before) call (said reply) (file_seen after)
smooth_step before call reply after step tells smooth had =
    let causes = step_causes before call reply after step in
    step_settles (file_seen before) call (said reply) (short_of after) (says_fault (said reply)) (file_seen after)
    (uncaused (short_of after) (raw_of before).waits (raw_of after).waits causes.waits smooth.waits)
    (uncaused (says_fault (said reply)) (raw_of before).faults (raw_of after).faults causes.faults smooth.faults)
    had (step_told before call reply after step tells)

-- Completeness.

none_before : (first last earlier : Option IoFault) → (last ≡ None → earlier ≡ None) → or_else first last ≡ None → or_else first earlier ≡ None
none_before (Some why) last earlier goes none = absurd (cc)
none_before None last earlier goes none = goes none

-- what nothing refuses isn't refused before the buffer is asked for anything
text_accepts : (file : TextFile) (call : TextFileCall) → refusals.refusal file call ≡ None → over.refused_here file call ≡ None
text_accepts file (text.SeekText sought (pos (suc (suc zero)))) none =
    let call : TextFileCall = text.SeekText sought (pos 2) in
    none_before (refusals.life_refusal file.life call) _ _ (none_before (refused_if (refusals.lacks file call) fault.Unsupported) _ _ (none_before (refusals.cookie_refusal file sought) (refusals.end_refusal file (pos 2)) None (λ end. refl))) none
text_accepts file (text.SeekText sought whence) none = none
text_accepts file call none = none

text_completes : (getter : Bool) (before : TextState) (call : TextFileCall) (reply : FileReply) (after : TextState) → AnswersTextBy getter before call reply after → IsSmooth before.text.buffer.raw after.text.buffer.raw → CompletesText getter before call reply
text_completes true before call reply after step smooth = step.says
text_completes false before call reply after step smooth =
    let same : IsSmooth before.text.buffer.raw step.answered.text.buffer.raw = subst (λ (raw : Raw). IsSmooth before.text.buffer.raw raw) (call_raw before call reply after step) smooth in
    λ accepted. (step.answers.complete (text_accepts (state.file_of before) call accepted) same.waits same.faults).answer

binary_completes : (getter : Bool) (before : Stream) (call : Call) (reply : FileReply) (after : Stream) → AnswersBy getter before (file_call call) reply after → IsSmooth before.raw after.raw → CompletesFile getter before call reply
binary_completes true before call reply after step smooth = step.says
binary_completes false before call reply after step smooth =
    let a : Stream = step.answered in
    let same : IsSmooth before.raw a.raw = subst (λ (raw : Raw). IsSmooth before.raw raw) (ap (λ (s : Stream). s.raw) step.leaves ∙ left_raw before.life a.life a) smooth in
    λ accepted. (step.answers.complete accepted same.waits same.faults).0

pub step_completes : (before : SessionView) (call : Call) (reply : Reply) (after : SessionView) → Answers before call reply after → IsSmooth (raw_of before) (raw_of after) → Completes before call (said reply)
step_completes (TextSession before) call reply (TextSession after) step smooth = text_completes (text.is_getter (text_call call)) before (text_call call) (said reply) after step.answers smooth
step_completes (BinarySession before) call reply (BinarySession after) step smooth = binary_completes (is_getter (file_call call)) before call (said reply) after step smooth
step_completes (TextSession before) call reply (BinarySession after) step smooth = absurd step
step_completes (BinarySession before) call reply (TextSession after) step smooth = absurd step

-- Sessions that are in step with their raw, or only read.

-- a text that isn't written, and owes nothing, goes on so
pub text_owes_none : (getter : Bool) (before : TextState) (call : TextFileCall) (reply : FileReply) (after : TextState) → AnswersTextBy getter before call reply after → before.text.buffer.can.writable ≡ false → OwesNothing before → OwesNothing after
text_owes_none true before call reply after step reads none = subst OwesNothing (sym step.same) (record { none = none.none; own = none.own; life_is = none.life_is })
text_owes_none false before call reply after step reads none = call_owes before call reply after step reads none

pub text_bytes : (getter : Bool) (before : TextState) (call : TextFileCall) (reply : FileReply) (after : TextState) → AnswersTextBy getter before call reply after → before.text.buffer.can.writable ≡ false → OwesNothing before → IsTrue before.text.buffer.raw.tells_bytes → after.text.buffer.raw.bytes ≡ before.text.buffer.raw.bytes
text_bytes true before call reply after step reads none tells = ap (λ (t : TextState). t.text.buffer.raw.bytes) step.same
text_bytes false before call reply after step reads none tells = ap (λ (raw : Raw). raw.bytes) (call_raw before call reply after step) ∙ (step.answers.spares reads none.none).bytes tells

-- what a text can do stays
pub text_can : (getter : Bool) (before : TextState) (call : TextFileCall) (reply : FileReply) (after : TextState) → AnswersTextBy getter before call reply after → after.text.buffer.can ≡ before.text.buffer.can
text_can true before call reply after step = ap (λ (t : TextState). t.text.buffer.can) step.same
text_can false before call reply after step = call_can before call reply after step ∙ step.answers.keeps.can

text_in_step : (getter : Bool) (before : TextState) (call : TextFileCall) (reply : FileReply) (after : TextState) → AnswersTextBy getter before call reply after → IsInStep (TextSession before) → IsInStep (TextSession after)
text_in_step getter before call reply after step is = λ reads.
    let read : before.text.buffer.can.writable ≡ false = sym (ap (λ (can : Abilities). can.writable) (text_can getter before call reply after step)) ∙ reads in
    text_owes_none getter before call reply after step read (is read)

-- what a stream that doesn't write, or has no buffer, leaves owed
owes_none : (before : Stream) (call : FileCall) (reply : FileReply) (after : Stream) → (step : AnswersCall before call reply after) → IsInStep (BinarySession before) → (after.can.writable ≡ false) ⊎ (after.buffer ≡ None) → step.answered.owed ≡ nothing_owed step.answered.place
owes_none before call reply after step is (inl reads) =
    let a : Stream = step.answered in
    let read : before.can.writable ≡ false = sym (ap (λ (s : Stream). s.can.writable) step.leaves ∙ ap (λ (can : Abilities). can.writable) (left_can before.life a.life a ∙ step.answers.keeps.can)) ∙ reads in
    (step.answers.spares read (is (inl read))).owed
owes_none before call reply after step is (inr bare) =
    let a : Stream = step.answered in
    let none : before.buffer ≡ None = sym (ap (λ (s : Stream). s.buffer) step.leaves ∙ left_buffer before.life a.life a ∙ step.answers.keeps.buffer) ∙ bare in
    step.answers.keeps.bare none (is (inr none))

binary_in_step : (getter : Bool) (before : Stream) (call : FileCall) (reply : FileReply) (after : Stream) → AnswersBy getter before call reply after → IsInStep (BinarySession before) → IsInStep (BinarySession after)
binary_in_step true before call reply after step is = subst (λ (s : Stream). IsInStep (BinarySession s)) (sym step.same) is
binary_in_step false before call reply after step is = λ none. subst (λ (s : Stream). s.owed ≡ nothing_owed s.place) (sym step.leaves) (left_settled before.life step.answered.life step.answered (owes_none before call reply after step is none))

pub step_in_step : (before : SessionView) (call : Call) (reply : Reply) (after : SessionView) → Answers before call reply after → IsInStep before → IsInStep after
step_in_step (TextSession before) call reply (TextSession after) step is = text_in_step (text.is_getter (text_call call)) before (text_call call) (said reply) after step.answers is
step_in_step (BinarySession before) call reply (BinarySession after) step is = binary_in_step (is_getter (file_call call)) before (file_call call) (said reply) after step is
step_in_step (TextSession before) call reply (BinarySession after) step is = absurd step
step_in_step (BinarySession before) call reply (TextSession after) step is = absurd step

pub step_reads : (before : SessionView) (call : Call) (reply : Reply) (after : SessionView) → Answers before call reply after → OnlyReads before → OnlyReads after
step_reads (TextSession before) call reply (TextSession after) step reads =
    (ap (λ (can : Abilities). can.writable) (text_can (text.is_getter (text_call call)) before (text_call call) (said reply) after step.answers) ∙ reads.0, text_owes_none (text.is_getter (text_call call)) before (text_call call) (said reply) after step.answers reads.0 reads.1)
step_reads (BinarySession before) call reply (BinarySession after) step reads =
    let can = (binary_keeps (is_getter (file_call call)) before (file_call call) (said reply) after step).1.0 in
    let read : after.can.writable ≡ false = ap (λ (can : Abilities). can.writable) can ∙ reads.0 in
    (read, binary_in_step (is_getter (file_call call)) before (file_call call) (said reply) after step (λ _. reads.1) (inl read))
step_reads (TextSession before) call reply (BinarySession after) step reads = absurd step
step_reads (BinarySession before) call reply (TextSession after) step reads = absurd step

binary_bytes : (getter : Bool) (before : Stream) (call : FileCall) (reply : FileReply) (after : Stream) → AnswersBy getter before call reply after → OnlyReads (BinarySession before) → IsTrue before.raw.tells_bytes → after.raw.bytes ≡ before.raw.bytes
binary_bytes true before call reply after step reads tells = ap (λ (s : Stream). s.raw.bytes) step.same
binary_bytes false before call reply after step reads tells =
    let a : Stream = step.answered in
    ap (λ (s : Stream). s.raw.bytes) step.leaves ∙ ap (λ (raw : Raw). raw.bytes) (left_raw before.life a.life a) ∙ (step.answers.spares reads.0 reads.1).bytes tells

pub step_spares : (before : SessionView) (call : Call) (reply : Reply) (after : SessionView) → Answers before call reply after → OnlyReads before → IsTrue (raw_of before).tells_bytes → (raw_of after).bytes ≡ (raw_of before).bytes
step_spares (TextSession before) call reply (TextSession after) step reads tells = text_bytes (text.is_getter (text_call call)) before (text_call call) (said reply) after step.answers reads.0 reads.1 tells
step_spares (BinarySession before) call reply (BinarySession after) step reads tells = binary_bytes (is_getter (file_call call)) before (file_call call) (said reply) after step reads tells
step_spares (TextSession before) call reply (BinarySession after) step reads tells = absurd step
step_spares (BinarySession before) call reply (TextSession after) step reads tells = absurd step

binary_writes_none : (getter : Bool) (before : Stream) (call : FileCall) (reply : FileReply) (after : Stream) → AnswersBy getter before call reply after → OnlyReads (BinarySession before) → AnswersFor 0 before.raw after.raw
binary_writes_none true before call reply after step reads = subst (λ (s : Stream). AnswersFor 0 before.raw s.raw) (sym step.same) (λ _. refl)
binary_writes_none false before call reply after step reads =
    let a : Stream = step.answered in
    subst (λ (s : Stream). AnswersFor 0 before.raw s.raw) (sym step.leaves) (subst (AnswersFor 0 before.raw) (sym (left_raw before.life a.life a)) (step.answers.spares reads.0 reads.1).written)

text_writes_none : (getter : Bool) (before : TextState) (call : TextFileCall) (reply : FileReply) (after : TextState) → AnswersTextBy getter before call reply after → before.text.buffer.can.writable ≡ false → OwesNothing before → AnswersFor 0 before.text.buffer.raw after.text.buffer.raw
text_writes_none true before call reply after step reads none = subst (λ (t : TextState). AnswersFor 0 before.text.buffer.raw t.text.buffer.raw) (sym step.same) (λ _. refl)
text_writes_none false before call reply after step reads none = subst (AnswersFor 0 before.text.buffer.raw) (sym (call_raw before call reply after step)) (step.answers.spares reads none.none).written

pub step_writes_none : (before : SessionView) (call : Call) (reply : Reply) (after : SessionView) → Answers before call reply after → OnlyReads before → AnswersFor 0 (raw_of before) (raw_of after)
step_writes_none (TextSession before) call reply (TextSession after) step reads = text_writes_none (text.is_getter (text_call call)) before (text_call call) (said reply) after step.answers reads.0 reads.1
step_writes_none (BinarySession before) call reply (BinarySession after) step reads = binary_writes_none (is_getter (file_call call)) before (file_call call) (said reply) after step reads
step_writes_none (TextSession before) call reply (BinarySession after) step reads = absurd step
step_writes_none (BinarySession before) call reply (TextSession after) step reads = absurd step

-- a raw that is closed with its session

parts_none : (before after : Buffer) (reply : FileReply) → before.can.writable ≡ false → parts_when_closed before binary.Close reply after ≡ false
parts_none before after reply unwritten = grind arith

-- only a close closes a text
not_closed : (writes : Bool) (call : TextFileCall) (reply : FileReply) (before after : Life) → over.LifeMoves writes call reply before after → text.is_close call ≡ false → after ≡ life.Closed → before ≡ life.Closed
not_closed writes call reply before after moves is closed = grind arith

-- a call of a closed text leaves its raw
closed_stays_raw : (before : TextState) (call : TextFileCall) (reply : FileReply) (after : TextState) → text.is_getter call ≡ false → before.text.life ≡ life.Closed → text.is_close call ≡ false → over.Answers before call reply after → after.text.buffer.raw ≡ before.text.buffer.raw
closed_stays_raw before call reply after asks closed is step =
    ap (λ (t : TextState). t.text.buffer.raw) (step.refused fault.Closed (text_refused_by (state.file_of before) call life.Closed fault.Closed closed asks (let same : refusals.lets_through life.Closed call ≡ false = is in same) refl)).same

open_by : (current : Life) (raw : Raw) → current ≢ life.Closed → raw.closed ≡ false → ClosedWith current raw
open_by life.Closed raw lives is = absurd (lives refl)
open_by current raw lives is = is

-- a text that isn't written is closed with its raw, which its buffer is
text_shut : (before : TextState) (call : TextFileCall) (reply : FileReply) (after : TextState) → text.is_getter call ≡ false → over.Answers before call reply after → OnlyReads (TextSession before) → OwesNothing after → after.text.life ≡ life.Closed → ClosedWith before.text.life before.text.buffer.raw → ClosedWith after.text.life after.text.buffer.raw
text_shut before text.Close reply after asks step reads still closed shut =
    subst (λ (current : Life). ClosedWith current after.text.buffer.raw) still.life_is
    ((step.shut reads.1.own).shut (parts_none before.text.buffer after.text.buffer reply reads.0) (ap (λ (owed : Owed). owed.bytes) still.none) (subst (λ (current : Life). ClosedWith current before.text.buffer.raw) (sym reads.1.life_is) shut))
text_shut before call reply after asks step reads still closed shut =
    let was : before.text.life ≡ life.Closed = not_closed before.text.buffer.can.writable call reply before.text.life after.text.life step.moves.life_is refl closed in
    subst (λ (current : Life). ClosedWith current after.text.buffer.raw) (was ∙ sym closed)
    (subst (λ (raw : Raw). ClosedWith before.text.life raw) (sym (closed_stays_raw before call reply after asks was refl step)) shut)

text_shuts_by : (current : Life) (before : TextState) (call : TextFileCall) (reply : FileReply) (after : TextState) → after.text.life ≡ current → text.is_getter call ≡ false → session.AnswersCall before call reply after → StaysOpenWithText after → OnlyReads (TextSession before) → OwesNothing after → ClosedWith before.text.life before.text.buffer.raw → ClosedWith after.text.life after.text.buffer.raw
text_shuts_by life.Closed before call reply after is asks step opens reads still shut =
    let a : TextState = step.answered in
    let closed : a.text.life ≡ life.Closed = sym (call_life before call reply after step) ∙ is in
    let same : after ≡ a = call_closed before call reply after step closed in
    subst (λ (t : TextState). ClosedWith t.text.life t.text.buffer.raw) (sym same) (text_shut before call reply a asks step.answers reads (subst OwesNothing same still) closed shut)
text_shuts_by life.Live before call reply after is asks step opens reads still shut =
    let lives : after.text.life ≢ life.Closed = λ closed. let wrong : life.Live ≡ life.Closed = sym is ∙ closed in absurd (cc) in
    open_by after.text.life after.text.buffer.raw lives (opens lives).raw
text_shuts_by life.Failed before call reply after is asks step opens reads still shut =
    let lives : after.text.life ≢ life.Closed = λ closed. let wrong : life.Failed ≡ life.Closed = sym is ∙ closed in absurd (cc) in
    open_by after.text.life after.text.buffer.raw lives (opens lives).raw
text_shuts_by life.Detached before call reply after is asks step opens reads still shut =
    let lives : after.text.life ≢ life.Closed = λ closed. let wrong : life.Detached ≡ life.Closed = sym is ∙ closed in absurd (cc) in
    open_by after.text.life after.text.buffer.raw lives (opens lives).raw

text_shuts : (getter : Bool) (before : TextState) (call : TextFileCall) (reply : FileReply) (after : TextState) → text.is_getter call ≡ getter → AnswersTextBy getter before call reply after → StaysOpenWithText after → OnlyReads (TextSession before) → ClosedWith before.text.life before.text.buffer.raw → ClosedWith after.text.life after.text.buffer.raw
text_shuts true before call reply after is step opens reads shut = subst (λ (t : TextState). ClosedWith t.text.life t.text.buffer.raw) (sym step.same) shut
text_shuts false before call reply after is step opens reads shut = text_shuts_by after.text.life before call reply after refl is step opens reads (text_owes_none false before call reply after step reads.0 reads.1) shut

binary_shuts : (getter : Bool) (before : Stream) (call : FileCall) (reply : FileReply) (after : Stream) → AnswersBy getter before call reply after → OnlyReads (BinarySession before) → ClosedWith before.life before.raw → ClosedWith after.life after.raw
binary_shuts true before call reply after step reads shut = subst (λ (s : Stream). ClosedWith s.life s.raw) (sym step.same) shut
binary_shuts false before call reply after step reads shut =
    let a : Stream = step.answered in
    let none : a.owed.bytes ≡ [] = ap (λ (owed : Owed). owed.bytes) (step.answers.spares reads.0 reads.1).owed in
    let closed : ClosedWith a.life a.raw = step.answers.shut (closes_whole before call reply a reads.0) none shut in
    subst (λ (s : Stream). ClosedWith s.life s.raw) (sym step.leaves)
    (subst (λ (raw : Raw). ClosedWith (left_of before.life a).life raw) (sym (left_raw before.life a.life a)) (subst (λ (current : Life). ClosedWith current a.raw) (sym (left_life before.life a.life a refl)) closed))

pub step_shuts : (before : SessionView) (call : Call) (reply : Reply) (after : SessionView) → Answers before call reply after → OnlyReads before → ClosedWith (life_of before) (raw_of before) → ClosedWith (life_of after) (raw_of after)
step_shuts (TextSession before) call reply (TextSession after) step reads shut = text_shuts (text.is_getter (text_call call)) before (text_call call) (said reply) after refl step.answers step.is_open reads shut
step_shuts (BinarySession before) call reply (BinarySession after) step reads shut = binary_shuts (is_getter (file_call call)) before (file_call call) (said reply) after step reads shut
step_shuts (TextSession before) call reply (BinarySession after) step reads shut = absurd step
step_shuts (BinarySession before) call reply (TextSession after) step reads shut = absurd step
