-- Calls that end something: what is passed on, and what a closed session answers.
use Rattle.std.proofs.Common.{inl, inr, ◌≡◌, ◌≢◌, pos, suc, zero, ℕ, Bool, true, false, IsTrue, List, [], ◌++◌, length, Option, Some, None, refl, sym, ap, ◌∙◌, subst}
use Rattle.py_flat.specs.declared.fault.IoFault.{IoFault}
use Rattle.py_flat.specs.declared.fault.IoFault.TheVariants as fault
use Rattle.py_flat.specs.declared.life.Life.{Life}
use Rattle.py_flat.specs.declared.life.Life.TheVariants as life
use Rattle.py_flat.specs.Bytes.{lay}
use Rattle.py_flat.specs.Calls.{FileCall, Seek, Close, Flush, Detach, Readable, Writable, Seekable, Closed, OtherGetter, FileReply, Done, Count, Cookie, Unwritten, Refused}
use Rattle.py_flat.specs.Owed.{Owed}
use Rattle.py_flat.specs.Refusals.{is_getter}
use Rattle.py_flat.specs.ExactStep.{is_closed}
use Rattle.py_flat.specs.AllowedStep.{settled, waited_for, raw_faulted, out_of_memory}
use Rattle.py_plain_text.specs.TextFile.{TextSettings, TextFile}
use Rattle.py_plain_text.specs.TextCalls as text
use Rattle.py_plain_text.specs.TextCalls.{TextFileCall, tells_name}
use Rattle.py_plain_text.specs.TextRefusals as refusals
use Rattle.py_plain_text.specs.TextWriting.{written_bytes}
use Rattle.py_plain_text.specs.Cookie as cookie
use Rattle.py_plain_text.specs.Landing.{Landed, Stands, CantRestore, lands}
use Rattle.py_plain_text.specs.TextExact.{sought_cookie, after_landing}
use Rattle.py_plain_text.specs.TextAllowed as text_file
use Rattle.py_plain_text.specs.TextAllowed.{TextFileStep}
use Rattle.py_raw.specs.RawStream.{Raw, WhereTold, tells}
use Rattle.py_raw.proofs.Telling.{tells_its_bytes, tells_still}
use Rattle.py_stream.specs.Stream.{Stream, file_of, nothing_owed}
use Rattle.py_stream.specs.Writing.{PassedOn}
use Rattle.py_stream.specs.Answers.{AnswersWith, Leaves, refused_by}
use Rattle.py_calls.specs.declared.call.Call.{Call}
use Rattle.py_calls.specs.declared.reply.Reply.{Reply}
use Rattle.py_calls.specs.Calls.{text_call, file_call, said}
use Rattle.py_read_text.specs.TextState as state
use Rattle.py_read_text.specs.TextState.{TextState}
use Rattle.py_read_text.specs.Answers as over
use Rattle.py_read_text.specs.Answers.{IsPassedOn}
use Rattle.py_open.specs.TextSession.{OwesNothing}
use Rattle.py_binary.specs.Binary.{has_reply_room, left_by, left_of, AnswersBy}
use Rattle.py_open.specs.Session.{OfText, OfBinary, SessionView, TextSession, BinarySession, SaysOrStarves, file_seen, raw_of, life_of, AnswersTextBy, Answers, IsInStep}
use Rattle.py_open.specs.Laws.{FilePassesAll, TextPassesAll, PassesAll, text_left, HoldsFlat, ShownBy, asks_name, closed_text_by, closed_file_reply, closed_file_by, closed_reply, WhereShown}
use Rattle.py_open.proofs.TextLeft.{call_raw, call_none, call_again}
use Rattle.py_open.proofs.Steps.{left_raw, left_none, text_refused_by}

-- What is passed on.

-- what of a call that passes all on is said of the stream that answered it
pub record Passes (before answered : Stream) : Type 0 where
  pub none : answered.owed.bytes ≡ []
  pub holds : WhereTold before.raw (answered.raw.bytes ≡ lay before.raw.bytes before.owed.place before.owed.bytes)

passed : (before answered : Stream) → PassedOn before answered → Passes before answered
passed before answered on = record { none = on.none; holds = on.holds }

-- a live stream that writes has passed all on after a call whose reply promises it
written : (before : Stream) (call : FileCall) (reply : FileReply) (answered : Stream) → AnswersWith has_reply_room before call reply answered → before.can.writable ≡ true → before.life ≡ life.Live → FilePassesAll call reply → Passes before answered
written before Flush Done answered a writes live all = passed before answered (a.writes writes).passes.0
written before Close Done answered a writes live all = passed before answered ((a.writes writes).passes live)
written before Detach (Unwritten bytes place) answered a writes live all = passed before answered ((a.writes writes).passes live).0
written before call reply answered a writes live all = absurd all

-- a stream that only reads, and owed nothing before, has nothing left to pass on after a call
spared : (before : Stream) (call : FileCall) (reply : FileReply) (answered : Stream) → AnswersWith has_reply_room before call reply answered → before.can.writable ≡ false → before.owed ≡ nothing_owed before.place → Passes before answered
spared before call reply answered a reads none =
    let spares = a.spares reads none in
    record {
      none = ap (λ (owed : Owed). owed.bytes) spares.owed;
      holds = λ tells. spares.bytes (tells_its_bytes before.raw tells) ∙ sym (ap (λ (owed : Owed). lay before.raw.bytes owed.place owed.bytes) none);
    }

passes_by : (writes : Bool) (before : Stream) (call : FileCall) (reply : FileReply) (answered : Stream) → before.can.writable ≡ writes → AnswersWith has_reply_room before call reply answered → IsInStep (BinarySession before) → before.life ≡ life.Live → FilePassesAll call reply → Passes before answered
passes_by true before call reply answered is a is_in live all = written before call reply answered a is live all
passes_by false before call reply answered is a is_in live all = spared before call reply answered a is (is_in (inl is))

no_question : (call : FileCall) (reply : FileReply) → is_getter call ≡ true → FilePassesAll call reply → ⊥
no_question Flush reply asks all = let wrong : false ≡ true = asks in absurd (cc)
no_question Close reply asks all = let wrong : false ≡ true = asks in absurd (cc)
no_question Detach reply asks all = let wrong : false ≡ true = asks in absurd (cc)
no_question call reply asks all = all

binary_passes : (getter : Bool) (before : Stream) (call : Call) (reply : FileReply) (after : Stream) → is_getter (file_call call) ≡ getter → AnswersBy getter before (file_call call) reply after → IsInStep (BinarySession before) → before.life ≡ life.Live → FilePassesAll (file_call call) reply → HoldsFlat (BinarySession before) call (BinarySession after)
binary_passes true before call reply after is step is_in live all = absurd (no_question (file_call call) reply is all)
binary_passes false before call reply after is step is_in live all =
    let a : Stream = step.answered in
    let passes = passes_by before.can.writable before (file_call call) reply a refl step.answers is_in live all in
    record {
      none = ap (λ (s : Stream). s.owed.bytes) step.leaves ∙ left_none before.life a.life a passes.none;
      holds = λ tells. ap (λ (s : Stream). s.raw.bytes) step.leaves ∙ ap (λ (raw : Raw). raw.bytes) (left_raw before.life a.life a) ∙ passes.holds tells;
    }

-- Texts.

no_text_question : (settings : TextSettings) (call : TextFileCall) (reply : FileReply) → text.is_getter call ≡ true → TextPassesAll settings call reply → ⊥
no_text_question settings text.Flush reply asks all = let wrong : false ≡ true = asks in absurd (cc)
no_text_question settings text.Close reply asks all = let wrong : false ≡ true = asks in absurd (cc)
no_text_question settings text.Detach reply asks all = let wrong : false ≡ true = asks in absurd (cc)
no_text_question settings (text.SeekText sought whence) reply asks all = let wrong : false ≡ true = asks in absurd (cc)
no_text_question settings (text.WriteText written) reply asks all = let wrong : false ≡ true = asks in absurd (cc)
no_text_question settings call reply asks all = all

-- a call that passes all on isn't refused, but by a cookie that doesn't fit
not_refused : (settings : TextSettings) (call : TextFileCall) (reply : FileReply) (why : IoFault) → TextPassesAll settings call reply → why ≢ fault.CannotRestore → reply ≡ Refused why → ⊥
not_refused settings text.Flush Done why all other is = cc
not_refused settings text.Close Done why all other is = cc
not_refused settings text.Detach (Unwritten bytes place) why all other is = cc
not_refused settings (text.SeekText sought whence) (Cookie bytes) why all other is = cc
not_refused settings (text.SeekText sought whence) (Refused fault.CannotRestore) why all other is = other (let same : why ≡ fault.CannotRestore = cc in same)
not_refused settings (text.WriteText written) (Count count) why all other is = cc
not_refused settings call reply why all other is = all

-- the `detach` of a text leaves its bytes
detached_bytes : (current : Life) (file : TextFile) (reply : FileReply) (after : TextFile) → text_file.DetachesIn current file reply after → after.bytes ≡ file.bytes
detached_bytes life.Failed file reply after is = ap (λ (f : TextFile). f.bytes) is.leaves
detached_bytes life.Live file reply after is = ap (λ (p : FileReply × TextFile). p.1.bytes) is
detached_bytes life.Closed file reply after is = ap (λ (p : FileReply × TextFile). p.1.bytes) is
detached_bytes life.Detached file reply after is = ap (λ (p : FileReply × TextFile). p.1.bytes) is

-- so does a seek
landed_bytes : (file : TextFile) (goal : cookie.Cookie) (landed : Landed) → (after_landing file goal landed).1.bytes ≡ file.bytes
landed_bytes file goal (Stands place) = refl
landed_bytes file goal (CantRestore place) = refl

settled_bytes : (file : TextFile) (call : TextFileCall) (reply : FileReply) (after : TextFile) (refused : Option IoFault) → TextPassesAll file.settings call reply → text_file.SettledBy file call refused reply after → after.bytes ≡ text_left file call
settled_bytes file (text.SeekText sought whence) reply after (Some why) all is = ap (λ (f : TextFile). f.bytes) is.1
settled_bytes file text.Flush Done after (Some why) all is = let wrong : Done ≡ Refused why = is.0 in absurd (cc)
settled_bytes file text.Close Done after (Some why) all is = let wrong : Done ≡ Refused why = is.0 in absurd (cc)
settled_bytes file text.Detach (Unwritten bytes place) after (Some why) all is = let wrong : Unwritten bytes place ≡ Refused why = is.0 in absurd (cc)
settled_bytes file (text.WriteText written) (Count count) after (Some why) all is = let wrong : Count count ≡ Refused why = is.0 in absurd (cc)
settled_bytes file text.Flush Done after None all is = ap (λ (p : FileReply × TextFile). p.1.bytes) is
settled_bytes file text.Close Done after None all is = ap (λ (p : FileReply × TextFile). p.1.bytes) is
settled_bytes file text.Detach (Unwritten bytes place) after None all is = detached_bytes file.life file (Unwritten bytes place) after is
settled_bytes file (text.SeekText sought whence) reply after None all is =
    let goal = sought_cookie file sought whence in
    ap (λ (p : FileReply × TextFile). p.1.bytes) is ∙ landed_bytes file goal (lands file goal)
settled_bytes file (text.WriteText written) (Count count) after None all is = ap (λ (p : FileReply × TextFile). p.1.bytes) is
settled_bytes file call reply after refused all is = absurd all

waited_none : (file : TextFile) (call : TextFileCall) (reply : FileReply) (after : TextFile) → TextPassesAll file.settings call reply → text_file.WaitedBy file call reply after → ⊥
waited_none file text.Flush Done after all part = not_refused file.settings text.Flush Done (fault.WouldBlock 0) all (λ same. cc) part.0
waited_none file text.Close Done after all part = not_refused file.settings text.Close Done (fault.WouldBlock 0) all (λ same. cc) part.0
waited_none file text.Detach (Unwritten bytes place) after all part = not_refused file.settings text.Detach (Unwritten bytes place) (fault.WouldBlock 0) all (λ same. cc) part.0
waited_none file (text.SeekText sought whence) reply after all (inl part) = not_refused file.settings (text.SeekText sought whence) reply (fault.WouldBlock 0) all (λ same. cc) part.0
waited_none file (text.SeekText sought whence) reply after all (inr part) = not_refused file.settings (text.SeekText sought whence) reply (fault.WouldBlock 0) all (λ same. cc) part.1
waited_none file (text.WriteText written) (Count count) after all part = not_refused file.settings (text.WriteText written) (Count count) (fault.WouldBlock (length (written_bytes file.settings written))) all (λ same. cc) part.0
waited_none file call reply after all part = all

-- what a text has that passed all on
left_bytes : (file : TextFile) (call : TextFileCall) (reply : FileReply) (waited faulted : Bool) (after : TextFile) → TextPassesAll file.settings call reply → TextFileStep file call reply waited faulted after → after.bytes ≡ text_left file call
left_bytes file call reply waited faulted after all (settled exact) = settled_bytes file call reply after (refusals.refusal file call) all exact
left_bytes file call reply waited faulted after all (waited_for rose part) = absurd (waited_none file call reply after all part.1)
left_bytes file call reply waited faulted after all (raw_faulted rose says left) = absurd (not_refused file.settings call reply fault.RawFault all (λ same. cc) says)
left_bytes file call reply waited faulted after all (out_of_memory says left) = absurd (not_refused file.settings call reply fault.NoMemory all (λ same. cc) says)

text_passed_on : (before : TextState) (call : TextFileCall) (reply : FileReply) (after : TextState) → over.Answers before call reply after → before.text.life ≡ life.Live → TextPassesAll before.text.settings call reply → IsPassedOn after
text_passed_on before text.Flush Done after step live all = step.passes
text_passed_on before text.Close Done after step live all = step.passes live
text_passed_on before text.Detach (Unwritten bytes place) after step live all = step.passes live
text_passed_on before (text.SeekText sought whence) (Cookie bytes) after step live all = step.passes
text_passed_on before (text.SeekText sought whence) (Refused fault.CannotRestore) after step live all = step.passes
text_passed_on before (text.WriteText written) (Count count) after step live all = step.passes all.0 all.1
text_passed_on before call reply after step live all = absurd all

-- the flat bytes of a text that owes nothing are its raw's
pub owing_none_bytes : (text : TextState) → OwesNothing text → (state.file_of text).bytes ≡ text.text.buffer.raw.bytes
owing_none_bytes text none =
    ap (λ (own : List ℕ). lay (lay text.text.buffer.raw.bytes text.text.buffer.owed.place text.text.buffer.owed.bytes) text.text.buffer.place own) none.own
    ∙ ap (λ (owed : Owed). lay text.text.buffer.raw.bytes owed.place owed.bytes) none.none

unsupported_write : (file : TextFile) (written : List ℕ) → file.life ≡ life.Live → file.can.writable ≡ false → refusals.refusal file (text.WriteText written) ≡ Some fault.Unsupported
unsupported_write file written live reads = rw (live, reads) refl

-- a text that isn't written has its raw's bytes, whatever call it answered
text_spared : (before : TextState) (call : TextFileCall) (reply : FileReply) (after : TextState) → over.Answers before call reply after → before.text.buffer.can.writable ≡ false → OwesNothing before → before.text.life ≡ life.Live → TextPassesAll before.text.settings call reply → IsTrue before.text.buffer.raw.tells_bytes → after.text.buffer.raw.bytes ≡ text_left (state.file_of before) call
text_spared before (text.WriteText written) reply after step reads none live all tells =
    absurd (not_refused before.text.settings (text.WriteText written) reply fault.Unsupported all (λ same. cc) (step.refused fault.Unsupported (unsupported_write (state.file_of before) written live reads)).says)
text_spared before call reply after step reads none live all tells = (step.spares reads none.none).bytes tells ∙ sym (owing_none_bytes before none)

text_shown : (writes : Bool) (before : TextState) (call : TextFileCall) (reply : FileReply) (after : TextState) → before.text.buffer.can.writable ≡ writes → over.Answers before call reply after → IsInStep (TextSession before) → before.text.life ≡ life.Live → TextPassesAll before.text.settings call reply → ShownBy writes before.text.buffer.raw (after.text.buffer.raw.bytes ≡ text_left (state.file_of before) call)
text_shown true before call reply after is step is_in live all = λ tells.
    (text_passed_on before call reply after step live all).holds (tells_still before.text.buffer.raw after.text.buffer.raw step.keeps.raw ∙ tells)
    ∙ left_bytes (state.file_of before) call reply after.short _ (state.file_of after) all (step.told tells)
text_shown false before call reply after is step is_in live all = λ tells. text_spared before call reply after step is (is_in is) live all tells

text_passes : (getter : Bool) (before : TextState) (call : Call) (reply : FileReply) (after : TextState) → text.is_getter (text_call call) ≡ getter → AnswersTextBy getter before (text_call call) reply after → IsInStep (TextSession before) → before.text.life ≡ life.Live → TextPassesAll before.text.settings (text_call call) reply → HoldsFlat (TextSession before) call (TextSession after)
text_passes true before call reply after is step is_in live all = absurd (no_text_question before.text.settings (text_call call) reply is all)
text_passes false before call reply after is step is_in live all =
    let a : TextState = step.answered in
    let on = text_passed_on before (text_call call) reply a step.answers live all in
    record {
      none = call_none before (text_call call) reply after step (ap (λ (front : List ℕ). front ++ a.text.owed) on.none ∙ on.own);
      holds = subst (λ (raw : Raw). ShownBy before.text.buffer.can.writable before.text.buffer.raw (raw.bytes ≡ text_left (state.file_of before) (text_call call))) (sym (call_raw before (text_call call) reply after step))
          (text_shown before.text.buffer.can.writable before (text_call call) reply a refl step.answers is_in live all);
    }

pub step_passes : (before : SessionView) (call : Call) (reply : Reply) (after : SessionView) → Answers before call reply after → IsInStep before → life_of before ≡ life.Live → PassesAll before call (said reply) → HoldsFlat before call after
step_passes (TextSession before) call reply (TextSession after) step is_in live all = text_passes (text.is_getter (text_call call)) before call (said reply) after refl step.answers is_in live all
step_passes (BinarySession before) call reply (BinarySession after) step is_in live all = binary_passes (is_getter (file_call call)) before call (said reply) after refl step is_in live all
step_passes (TextSession before) call reply (BinarySession after) step is_in live all = absurd step
step_passes (BinarySession before) call reply (TextSession after) step is_in live all = absurd step

-- Closed sessions.

-- what a step from a closed session leaves
pub record Unmoved (before : SessionView) (call : Call) (reply : FileReply) (after : SessionView) : Type 0 where
  pub says : SaysOrStarves (asks_name (file_seen before) call) (closed_reply (file_seen before) call) reply
  pub file : file_seen after ≡ file_seen before
  pub raw : raw_of after ≡ raw_of before
  pub life_is : life_of after ≡ life_of before

pub closed_text_step : (before : TextState) (call : TextFileCall) (reply : FileReply) (after : TextState) → text.is_getter call ≡ false → before.text.life ≡ life.Closed → over.Answers before call reply after → SaysOrStarves (tells_name call) (closed_text_by false (state.file_of before) call) reply × (after ≡ record before { short = false })
closed_text_step before text.Close reply after asks closed step = let left = step.again (ap is_closed closed) in (left.says, left.same)
closed_text_step before text.ChunkSize reply after asks closed step = absurd (cc)
closed_text_step before text.Readable reply after asks closed step = absurd (cc)
closed_text_step before text.Writable reply after asks closed step = absurd (cc)
closed_text_step before text.Seekable reply after asks closed step = absurd (cc)
closed_text_step before text.Closed reply after asks closed step = absurd (cc)
closed_text_step before text.Encoding reply after asks closed step = absurd (cc)
closed_text_step before text.Errors reply after asks closed step = absurd (cc)
closed_text_step before call reply after asks closed step =
    let left = step.refused fault.Closed (text_refused_by (state.file_of before) call life.Closed fault.Closed closed refl refl refl) in
    (left.says, left.same)

text_closed : (getter : Bool) (before : TextState) (call : TextFileCall) (reply : FileReply) (after : TextState) → text.is_getter call ≡ getter → before.text.life ≡ life.Closed → AnswersTextBy getter before call reply after → SaysOrStarves (tells_name call) (closed_text_by getter (state.file_of before) call) reply × (after ≡ record before { short = false })
text_closed true before call reply after is closed step = (step.says, step.same)
text_closed false before call reply after is closed step =
    let left = closed_text_step before call reply step.answered is closed step.answers in
    (left.0, call_again before call reply after step left.1)

-- a closed stream refuses all but another close
closed_refuses : (stream : Stream) (call : FileCall) → stream.life ≡ life.Closed → is_getter call ≡ false → call ≢ Close → call ≢ OtherGetter → refused_by stream call ≡ Some fault.Closed
closed_refuses stream (Seek offset (pos (suc (suc zero)))) closed asks not_close known = rw closed refl
closed_refuses stream Close closed asks not_close known = absurd (not_close refl)
closed_refuses stream OtherGetter closed asks not_close known = absurd (known refl)
closed_refuses stream Readable closed asks not_close known = absurd (cc)
closed_refuses stream Writable closed asks not_close known = absurd (cc)
closed_refuses stream Seekable closed asks not_close known = absurd (cc)
closed_refuses stream Closed closed asks not_close known = absurd (cc)
closed_refuses stream call closed asks not_close known = rw closed refl

pub closed_leaves : (before : Stream) (call : FileCall) (reply : FileReply) (answered : Stream) → before.life ≡ life.Closed → is_getter call ≡ false → AnswersWith has_reply_room before call reply answered → Leaves before (closed_file_reply call) reply answered
closed_leaves before Close reply answered closed asks a = a.again (ap is_closed closed)
closed_leaves before OtherGetter reply answered closed asks a = a.refused fault.Unsupported refl
closed_leaves before Readable reply answered closed asks a = absurd (cc)
closed_leaves before Writable reply answered closed asks a = absurd (cc)
closed_leaves before Seekable reply answered closed asks a = absurd (cc)
closed_leaves before Closed reply answered closed asks a = absurd (cc)
closed_leaves before call reply answered closed asks a = a.refused fault.Closed (closed_refuses before call closed asks (λ is. cc) (λ is. cc))

left_whole : (was : Life) (stream : Stream) → left_by was life.Closed stream ≡ stream
left_whole life.Detached stream = refl
left_whole was stream = refl

pub left_closed : (was : Life) (stream : Stream) → stream.life ≡ life.Closed → left_of was stream ≡ stream
left_closed was stream closed = ap (λ (current : Life). left_by was current stream) closed ∙ left_whole was stream

binary_closed : (getter : Bool) (before : Stream) (call : Call) (reply : FileReply) (after : Stream) → is_getter (file_call call) ≡ getter → before.life ≡ life.Closed → AnswersBy getter before (file_call call) reply after → (reply ≡ closed_file_by getter (file_of before) call) × (after ≡ record before { short = false })
binary_closed true before call reply after is closed step = (step.says, step.same)
binary_closed false before call reply after is closed step =
    let a : Stream = step.answered in
    let left = closed_leaves before (file_call call) reply a closed is step.answers in
    (left.says, step.leaves ∙ left_closed before.life a (ap (λ (s : Stream). s.life) left.same ∙ closed) ∙ left.same)

pub step_closed : (before : SessionView) (call : Call) (reply : Reply) (after : SessionView) → life_of before ≡ life.Closed → Answers before call reply after → Unmoved before call (said reply) after
step_closed (TextSession before) call reply (TextSession after) closed step =
    let left = text_closed (text.is_getter (text_call call)) before (text_call call) (said reply) after refl closed step.answers in
    record { says = left.0; file = ap (λ (t : TextState). OfText (state.file_of t)) left.1; raw = ap (λ (t : TextState). t.text.buffer.raw) left.1; life_is = ap (λ (t : TextState). t.text.life) left.1 }
step_closed (BinarySession before) call reply (BinarySession after) closed step =
    let left = binary_closed (is_getter (file_call call)) before call (said reply) after refl closed step in
    record { says = left.0; file = ap (λ (s : Stream). OfBinary (file_of s)) left.1; raw = ap (λ (s : Stream). s.raw) left.1; life_is = ap (λ (s : Stream). s.life) left.1 }
step_closed (TextSession before) call reply (BinarySession after) closed step = absurd step
step_closed (BinarySession before) call reply (TextSession after) closed step = absurd step

-- what shows of a session's raw shows where it tells its bytes and its place
shown_by_told : (writes : Bool) (raw : Raw) (Fact : Type 0) → ShownBy writes raw Fact → WhereTold raw Fact
shown_by_told true raw Fact shown tells = shown tells
shown_by_told false raw Fact shown tells = shown (tells_its_bytes raw tells)

pub shown_where_told : (before : SessionView) (Fact : Type 0) → WhereShown before Fact → WhereTold (raw_of before) Fact
shown_where_told (TextSession text) Fact shown tells = shown_by_told text.text.buffer.can.writable text.text.buffer.raw Fact shown tells
shown_where_told (BinarySession stream) Fact shown tells = shown tells
