-- What a detached session answers, and that it leaves its file as it was.
use Rattle.std.proofs.Common.{inl, inr, ◌≡◌, ◌||◌, pos, suc, zero, Bool, true, false, IsTrue, List, [], ◌∷◌, Option, Some, refl, sym, ap, ◌∙◌, subst}
use Rattle.py_flat.specs.declared.fault.IoFault.{IoFault}
use Rattle.py_flat.specs.declared.fault.IoFault.TheVariants as fault
use Rattle.py_flat.specs.declared.life.Life.{Life}
use Rattle.py_flat.specs.declared.life.Life.TheVariants as life
use Rattle.py_flat.specs.Calls.{FileCall, Seek, Readable, Writable, Seekable, Closed, OtherGetter, FileReply, Refused}
use Rattle.py_flat.specs.FlatFile.{FlatFile}
use Rattle.py_flat.specs.Refusals.{is_getter, refusal}
use Rattle.py_flat.specs.AllowedStep.{settled, waited_for, raw_faulted, out_of_memory}
use Rattle.py_flat.specs.BinaryStep.{does_work, reaches_raw, BinaryStep}
use Rattle.py_plain_text.specs.TextFile.{TextFile}
use Rattle.py_plain_text.specs.TextCalls as text
use Rattle.py_plain_text.specs.TextCalls.{TextFileCall, tells_name}
use Rattle.py_plain_text.specs.TextExact.{carried_out}
use Rattle.py_plain_text.specs.TextAllowed as text_file
use Rattle.py_plain_text.specs.TextAllowed.{TextFileStep}
use Rattle.py_stream.specs.Stream.{Stream, file_of}
use Rattle.py_stream.specs.Answers.{AnswersWith, Leaves}
use Rattle.py_calls.specs.declared.call.Call.{Call}
use Rattle.py_calls.specs.declared.reply.Reply.{Reply}
use Rattle.py_calls.specs.Calls.{text_call, file_call, said}
use Rattle.py_read_text.specs.TextState as state
use Rattle.py_read_text.specs.TextState.{TextState}
use Rattle.py_binary.specs.Binary.{has_reply_room, left_by, detached_fault, AnswersBy}
use Rattle.py_open.specs.Session.{SessionFile, OfText, OfBinary, SessionView, TextSession, BinarySession, LeftBy, IsDetached, IsDetachedText, SaysOrStarves, FileStepBy, SessionStep, file_seen, raw_of, life_of, life_in, AnswersTextBy, Answers}
use Rattle.py_open.specs.Run.{Entry, IsRun, IsHistory, calls_of, replies_of, all_said}
use Rattle.py_open.specs.Laws.{asks_name, SayAll, detached_text_by, detached_file_by, detached_reply, StaysDetached, FileStaysDetached}
use Rattle.py_open.proofs.TextLeft.{call_again}
use Rattle.py_open.proofs.Steps.{text_refuses_by, text_refused_by}
use Rattle.py_open.proofs.Resting.{detached_refuses}

-- Flat files.

-- what a detached file refuses a call by
refused_gone : (file : FlatFile) (call : FileCall) → file.life ≡ life.Detached → is_getter call ≡ false → refusal file call ≡ Some (detached_fault call)
refused_gone file OtherGetter gone asks = refl
refused_gone file Readable gone asks = absurd (cc)
refused_gone file Writable gone asks = absurd (cc)
refused_gone file Seekable gone asks = absurd (cc)
refused_gone file Closed gone asks = absurd (cc)
refused_gone file call gone asks = rw gone refl

works_none : (file : FlatFile) (call : FileCall) → file.life ≡ life.Detached → does_work file call ≡ false
works_none file call gone = rw gone refl

reaches_none : (file : FlatFile) (call : FileCall) → file.life ≡ life.Detached → reaches_raw file call ≡ false
reaches_none file (Seek offset (pos (suc (suc zero)))) gone = rw gone refl
reaches_none file call gone = rw gone refl

file_refused : (before : FlatFile) (call : FileCall) (reply : FileReply) (waited faulted : Bool) (file : FlatFile) → before.life ≡ life.Detached → is_getter call ≡ false → BinaryStep before call reply waited faulted file → (reply ≡ Refused (detached_fault call)) × (file ≡ before)
file_refused before call reply waited faulted file gone asks (settled exact) = rw (refused_gone before call gone asks) at exact
file_refused before call reply waited faulted file gone asks (waited_for rose part) = let wrong : true ≡ false = sym part.0 ∙ works_none before call gone in absurd (cc)
file_refused before call reply waited faulted file gone asks (raw_faulted rose says left) = let wrong : true ≡ false = sym left.0 ∙ reaches_none before call gone in absurd (cc)
file_refused before call reply waited faulted file gone asks (out_of_memory says left) = let wrong : true ≡ false = sym left.0 ∙ reaches_none before call gone in absurd (cc)

-- what a call leaves of a detached file is what the stream answered with
left_gone : {File : Type 0} (detached : File → FileReply → File → Type 0) (was is : Life) (file : File) (reply : FileReply) (after : File) → was ≡ life.Detached → LeftBy detached was is file reply after → after ≡ file
left_gone detached was is file reply after gone left = let same : LeftBy detached life.Detached is file reply after = subst (λ (current : Life). LeftBy detached current is file reply after) gone left in same

-- Texts.

says_so : (names : Bool) (expected reply : FileReply) → reply ≡ expected → SaysOrStarves names expected reply
says_so true expected reply is = inl is
says_so false expected reply is = is

-- a question is answered by what it asks for, and leaves the text
asked_settled : (file : TextFile) (call : TextFileCall) (reply : FileReply) (after : TextFile) → text.is_getter call ≡ true → text_file.Settled file call reply after → (reply ≡ (carried_out file call).0) × (after ≡ file)
asked_settled file text.ChunkSize reply after asks is = (ap (λ (p : FileReply × TextFile). p.0) is, ap (λ (p : FileReply × TextFile). p.1) is)
asked_settled file text.Readable reply after asks is = (ap (λ (p : FileReply × TextFile). p.0) is, ap (λ (p : FileReply × TextFile). p.1) is)
asked_settled file text.Writable reply after asks is = (ap (λ (p : FileReply × TextFile). p.0) is, ap (λ (p : FileReply × TextFile). p.1) is)
asked_settled file text.Seekable reply after asks is = (ap (λ (p : FileReply × TextFile). p.0) is, ap (λ (p : FileReply × TextFile). p.1) is)
asked_settled file text.Closed reply after asks is = (ap (λ (p : FileReply × TextFile). p.0) is, ap (λ (p : FileReply × TextFile). p.1) is)
asked_settled file text.Encoding reply after asks is = (ap (λ (p : FileReply × TextFile). p.0) is, ap (λ (p : FileReply × TextFile). p.1) is)
asked_settled file text.Errors reply after asks is = (ap (λ (p : FileReply × TextFile). p.0) is, ap (λ (p : FileReply × TextFile). p.1) is)
asked_settled file call reply after asks is = absurd (cc)

gone_settled : (getter : Bool) (file : TextFile) (call : TextFileCall) (reply : FileReply) (after : TextFile) → text.is_getter call ≡ getter → file.life ≡ life.Detached → text_file.Settled file call reply after → (reply ≡ detached_text_by getter file call) × (after ≡ file)
gone_settled true file call reply after is gone settles = asked_settled file call reply after is settles
gone_settled false file call reply after is gone settles =
    subst (λ (refused : Option IoFault). text_file.SettledBy file call refused reply after) (text_refuses_by file call life.Detached fault.Detached gone is refl refl) settles

text_works_none : (file : TextFile) (call : TextFileCall) → file.life ≡ life.Detached → text_file.does_work file call ≡ false
text_works_none file call gone = rw gone refl

text_reaches_none : (file : TextFile) (call : TextFileCall) → file.life ≡ life.Detached → text_file.reaches_raw file call ≡ false
text_reaches_none file (text.SeekText cookie (pos (suc (suc zero)))) gone = rw gone refl
text_reaches_none file call gone = rw gone refl

-- the second of two of which the first doesn't hold
second_of : (first second : Bool) → first ≡ false → IsTrue (first || second) → second ≡ true
second_of false second none is = is
second_of true second none is = absurd (cc)

-- where memory ran out for the answer to a question for a name, all is as it was
named_same : (file after : TextFile) (call : TextFileCall) → tells_name call ≡ true → text_file.LeftStarved file call after → after ≡ file
named_same file after (text.SeekText sought whence) names left = absurd (cc)
named_same file after call names left = left

text_stays : (getter : Bool) (before : TextFile) (call : TextFileCall) (reply : FileReply) (waited faulted : Bool) (after : TextFile) → text.is_getter call ≡ getter → before.life ≡ life.Detached → TextFileStep before call reply waited faulted after → SaysOrStarves (tells_name call) (detached_text_by getter before call) reply × (after ≡ before)
text_stays getter before call reply waited faulted after is gone (settled exact) =
    let left = gone_settled getter before call reply after is gone exact in
    (says_so (tells_name call) (detached_text_by getter before call) reply left.0, left.1)
text_stays getter before call reply waited faulted after is gone (waited_for rose part) = let wrong : true ≡ false = sym part.0 ∙ text_works_none before call gone in absurd (cc)
text_stays getter before call reply waited faulted after is gone (raw_faulted rose says left) = let wrong : true ≡ false = sym left.0 ∙ text_reaches_none before call gone in absurd (cc)
text_stays getter before call reply waited faulted after is gone (out_of_memory says (inl left)) =
    let names : tells_name call ≡ true = second_of (text_file.reaches_raw before call) (tells_name call) (text_reaches_none before call gone) left.0 in
    (subst (λ (named : Bool). SaysOrStarves named (detached_text_by getter before call) reply) (sym names) (inr says), named_same before after call names left.1)
text_stays getter before call reply waited faulted after is gone (out_of_memory says (inr left)) = let wrong : true ≡ false = sym left.0 ∙ text_reaches_none before call gone in absurd (cc)

file_stays : (getter : Bool) (before : FlatFile) (call : Call) (reply : FileReply) (waited faulted : Bool) (after : FlatFile) → is_getter (file_call call) ≡ getter → before.life ≡ life.Detached → FileStepBy getter before call reply waited faulted after → (reply ≡ detached_file_by getter before call) × (after ≡ before)
file_stays true before call reply waited faulted after is gone step = (step.says, step.same)
file_stays false before call reply waited faulted after is gone step =
    let left = file_refused before (file_call call) reply waited faulted step.file gone is step.step in
    (left.0, left_gone IsDetached before.life step.file.life step.file reply after gone step.left ∙ left.1)

step_stays : (before : SessionFile) (call : Call) (reply : FileReply) (waited faulted : Bool) (after : SessionFile) → life_in before ≡ life.Detached → SessionStep before call reply waited faulted after → SaysOrStarves (asks_name before call) (detached_reply before call) reply × (after ≡ before)
step_stays (OfText before) call reply waited faulted (OfText after) gone step =
    let left = text_stays (text.is_getter (text_call call)) before (text_call call) reply waited faulted step.file refl gone step.step in
    (left.0, ap OfText (left_gone IsDetachedText before.life step.file.life step.file reply after gone step.left ∙ left.1))
step_stays (OfBinary before) call reply waited faulted (OfBinary after) gone step =
    let left = file_stays (is_getter (file_call call)) before call reply waited faulted after refl gone step in
    (left.0, ap OfBinary left.1)
step_stays (OfText before) call reply waited faulted (OfBinary after) gone step = absurd step
step_stays (OfBinary before) call reply waited faulted (OfText after) gone step = absurd step

pub history_stays : (before : SessionFile) (entries : List Entry) (after : SessionFile) → IsHistory before entries after → life_in before ≡ life.Detached → FileStaysDetached before entries after
history_stays before [] after steps gone = record { says = tt; same = steps }
history_stays before (entry ∷ entries) after steps gone =
    let here = step_stays before entry.call (said entry.reply) entry.waited entry.faulted steps.0 gone steps.1 in
    let rest = history_stays steps.0 entries after steps.2 (ap life_in here.1 ∙ gone) in
    record {
      says = (here.0, subst (λ (file : SessionFile). SayAll detached_reply file (calls_of entries) (all_said (replies_of entries))) here.1 rest.says);
      same = rest.same ∙ here.1;
    }

-- Sessions, over any raw.

-- what a call leaves of a detached session
record Stays (before : SessionView) (call : Call) (reply : FileReply) (after : SessionView) : Type 0 where
  says : SaysOrStarves (asks_name (file_seen before) call) (detached_reply (file_seen before) call) reply
  file : file_seen after ≡ file_seen before
  raw : raw_of after ≡ raw_of before
  life_is : life_of after ≡ life_of before

text_answered_gone : (getter : Bool) (before : TextState) (call : TextFileCall) (reply : FileReply) (after : TextState) → text.is_getter call ≡ getter → before.text.life ≡ life.Detached → AnswersTextBy getter before call reply after → SaysOrStarves (tells_name call) (detached_text_by getter (state.file_of before) call) reply × (after ≡ record before { short = false })
text_answered_gone true before call reply after is gone step = (step.says, step.same)
text_answered_gone false before call reply after is gone step =
    let left = step.answers.refused fault.Detached (text_refused_by (state.file_of before) call life.Detached fault.Detached gone is refl refl) in
    (says_so (tells_name call) (Refused fault.Detached) reply left.says, call_again before call reply after step left.same)

stream_gone : (before : Stream) (call : FileCall) (reply : FileReply) (answered : Stream) → before.life ≡ life.Detached → is_getter call ≡ false → AnswersWith has_reply_room before call reply answered → Leaves before (Refused (detached_fault call)) reply answered
stream_gone before OtherGetter reply answered gone asks a = a.refused fault.Unsupported refl
stream_gone before Readable reply answered gone asks a = absurd (cc)
stream_gone before Writable reply answered gone asks a = absurd (cc)
stream_gone before Seekable reply answered gone asks a = absurd (cc)
stream_gone before Closed reply answered gone asks a = absurd (cc)
stream_gone before call reply answered gone asks a = a.refused fault.Detached (detached_refuses before call gone asks (λ is. cc))

binary_answered_gone : (getter : Bool) (before : Stream) (call : Call) (reply : FileReply) (after : Stream) → is_getter (file_call call) ≡ getter → before.life ≡ life.Detached → AnswersBy getter before (file_call call) reply after → (reply ≡ detached_file_by getter (file_of before) call) × (after ≡ record before { short = false })
binary_answered_gone true before call reply after is gone step = (step.says, step.same)
binary_answered_gone false before call reply after is gone step =
    let a : Stream = step.answered in
    let left = stream_gone before (file_call call) reply a gone is step.answers in
    (left.says, step.leaves ∙ ap (λ (was : Life). left_by was a.life a) gone ∙ left.same)

session_stays : (before : SessionView) (call : Call) (reply : Reply) (after : SessionView) → life_of before ≡ life.Detached → Answers before call reply after → Stays before call (said reply) after
session_stays (TextSession before) call reply (TextSession after) gone step =
    let left = text_answered_gone (text.is_getter (text_call call)) before (text_call call) (said reply) after refl gone step.answers in
    record { says = left.0; file = ap (λ (t : TextState). OfText (state.file_of t)) left.1; raw = ap (λ (t : TextState). t.text.buffer.raw) left.1; life_is = ap (λ (t : TextState). t.text.life) left.1 }
session_stays (BinarySession before) call reply (BinarySession after) gone step =
    let left = binary_answered_gone (is_getter (file_call call)) before call (said reply) after refl gone step in
    record { says = left.0; file = ap (λ (s : Stream). OfBinary (file_of s)) left.1; raw = ap (λ (s : Stream). s.raw) left.1; life_is = ap (λ (s : Stream). s.life) left.1 }
session_stays (TextSession before) call reply (BinarySession after) gone step = absurd step
session_stays (BinarySession before) call reply (TextSession after) gone step = absurd step

pub run_stays : (before : SessionView) (calls : List Call) (replies : List Reply) (after : SessionView) → IsRun before calls replies after → life_of before ≡ life.Detached → StaysDetached before calls replies after
run_stays before [] [] after run gone = record { says = tt; file = ap file_seen run; raw = ap raw_of run }
run_stays before (call ∷ calls) (reply ∷ replies) after run gone =
    let mid : SessionView = run.0 in
    let here = session_stays before call reply mid gone run.1 in
    let rest = run_stays mid calls replies after run.2 (here.life_is ∙ gone) in
    record {
      says = (here.says, subst (λ (file : SessionFile). SayAll detached_reply file calls (all_said replies)) here.file rest.says);
      file = rest.file ∙ here.file;
      raw = rest.raw ∙ here.raw;
    }
run_stays before [] (reply ∷ replies) after run gone = absurd run
run_stays before (call ∷ calls) [] after run gone = absurd run
