-- A run of the program that ends with 0: what was printed, what the path holds, and, where no raw failed or would have blocked,
-- that the replies are the model's.
use Rattle.std.proofs.Common.{◌≡◌, ℕ, true, false, IsTrue, List, [], ◌++◌, Option, Some, None, unwrap_or, Ok, inl, inr, refl, sym, ◌∙◌, ap, subst, if◌then◌else◌, arith}
use Rattle.std.proofs.lemmas.Bool.Decides.{nat_tests}
use Rattle.py_flat.specs.declared.life.Life.TheVariants as life
use Rattle.py_flat.specs.Causes.{counted, rose}
use Rattle.py_flat.specs.Calls.{FileReply}
use Rattle.py_plain_text.specs.TextFile.{TextFile}
use Rattle.py_raw.specs.RawStream.{Raw, tells}
use Rattle.py_raw.proofs.Telling.{tells_its_bytes, tells_still}
use Rattle.py_raw.specs.RawMode.{raw_mode_text}
use Rattle.py_raw.specs.Opener.{opened_bytes}
use Rattle.py_raw.specs.Source.{SourceView}
use Rattle.py_stream.specs.declared.access.Access.{Access}
use Rattle.py_calls.specs.declared.call.Call.{Call}
use Rattle.py_calls.specs.declared.reply.Reply.{Reply}
use Rattle.py_calls.specs.declared.plan.PlanKind.{PlanKind}
use Rattle.py_calls.specs.declared.plan.PlanKind.TheVariants as kind
use Rattle.py_calls.specs.declared.plan.TextPlan.{TextPlan}
use Rattle.py_calls.specs.declared.mode.FileMode.{FileMode}
use Rattle.py_stream.specs.declared.access.Access.TheVariants as access
use Rattle.py_calls.specs.declared.open_args.OpenArgs.{OpenArgs}
use Rattle.py_calls.specs.declared.plan.OpenPlan.{OpenPlan}
use Rattle.py_calls.specs.Mode.{letter_of}
use Rattle.py_calls.specs.Plan.{built_in_plan, IsPlanned}
use Rattle.py_codec.specs.declared.no_handler.NoHandler.{NoHandler}
use Rattle.py_registry.specs.declared.no_search.NoSearch.{NoSearch}
use Rattle.py_registry.specs.Machine.{fresh}
use Rattle.py_open.specs.Session.{SessionFile, OfText, SessionView, TextSession, BinarySession, file_seen, raw_of, life_of, bytes_in}
use Rattle.py_open.specs.Opening.{access_of, OpensBy}
use Rattle.py_open.specs.Run.{IsRun, IsSmooth, NoneLacksMemory, RunsCalls, AllSettle, all_said}
use Rattle.py_open.specs.Laws.{KnowsAnswers, IsExact}
use Rattle.py_open.proofs.Runs.{smooth_completes, run_spares, opened_in_step}
use Rattle.py_open.proofs.InRaw.{close_leaves_in_raw}
use Rattle.py_open.proofs.OpenedFile.{file_opened}
use Rattle.py_script.specs.CommandWords.{Command, Run, command_of}
use Rattle.py_program.specs.declared.status.Status.{Status}
use Rattle.py_program.specs.declared.status.Status.TheVariants as status
use Rattle.py_program.specs.Status.{code_of}
use Rattle.py_open.specs.OpenedFile.{text_by, file_by, opened_file}
use Rattle.py_open.specs.Paths.{raw_mode}
use Rattle.py_program.specs.Outcome.{Outside, asked_by, own_text, closed_calls, OpensPath, FollowsPlan, PlannedOutcome, RunsScript, Outcome, Ends}
use Rattle.py_program.specs.Meaning.{RawsAreReady, PrintsReplies, PrintsSettled, PrintsExactly}
use Rattle.py_program.proofs.Planned.{one_plan}
use Rattle.py_calls.proofs.Planning.{planned_may_open}
use Rattle.py_open.proofs.Back.{brings_back}
use Rattle.py_open.proofs.Reached.{opening_keeps}
use Rattle.py_program.proofs.Keeping.{opened_to_read, file_read}

-- a count that was added, and with which the sum didn't rise, was 0
stays_unrisen : (before mid after opened back : ℕ) → mid ≡ before → after ≡ counted mid back → rose before after ≡ false → rose opened back ≡ false
stays_unrisen before mid after opened back kept added still = grind (arith, nat_tests)

-- where no count of the opener's raws rose, none of this raw did
smooth_raw : (before after : Outside) (opened session : Raw) → RawsAreReady before after → after.opener.raw_waits ≡ counted before.opener.raw_waits session.waits → after.opener.raw_faults ≡ counted before.opener.raw_faults session.faults → IsSmooth opened session
smooth_raw before after opened session ready waits faults = record {
  waits = stays_unrisen before.opener.raw_waits before.opener.raw_waits after.opener.raw_waits opened.waits session.waits refl waits ready.waits;
  faults = stays_unrisen before.opener.raw_faults before.opener.raw_faults after.opener.raw_faults opened.faults session.faults refl faults ready.faults;
}

-- with the number 0 all was done
all_done : (ended : Status) (words : List (List ℕ)) (old new : SourceView) (before after : Outside) → code_of ended ≡ 0 → Outcome ended words old new before after → Outcome status.Done words old new before after
all_done status.Done words old new before after is did = did
all_done status.WordsMalformed words old new before after is did = absurd (omega arith)
all_done status.ScriptMalformed words old new before after is did = absurd (omega arith)
all_done status.Refused words old new before after is did = absurd (omega arith)
all_done status.SourceFailed words old new before after is did = absurd (omega arith)
all_done status.SinkFailed words old new before after is did = absurd (omega arith)
all_done status.NoMemory words old new before after is did = absurd (omega arith)
all_done status.OpenerFailed words old new before after is did = absurd (omega arith)

-- the replies over a raw that was opened, by the law of smooth runs
abbrev pub SmoothRunsSettle : Type 0
SmoothRunsSettle = (before : SessionView) (calls : List Call) (replies : List Reply) (after : SessionView) → IsRun before calls replies after → IsTrue (tells (raw_of before)) → IsSmooth (raw_of before) (raw_of after) → NoneLacksMemory (all_said replies) → AllSettle (file_seen before) calls (all_said replies) (file_seen after)

settles_over : SmoothRunsSettle → (raw : Raw) (plan : OpenPlan) (session : SessionView) (calls : List Call) (replies : List Reply) (bytes : List ℕ) → (run : RunsCalls raw plan calls session replies) → IsSmooth (raw_of run.opened) (raw_of session) → tells raw ≡ true → raw.seekable ≡ true → raw.place ≡ 0 → raw.bytes ≡ bytes → NoneLacksMemory (all_said replies) → AllSettle (opened_file plan bytes) calls (all_said replies) (file_seen session)
settles_over law raw plan session calls replies bytes run smooth told seeks place are memory =
    subst (λ (file : SessionFile). AllSettle file calls (all_said replies) (file_seen session)) (file_opened plan.kind plan.mode raw bytes run.opened run.opens told seeks place are)
    (law run.opened calls replies session run.run (tells_still raw (raw_of run.opened) (opening_keeps plan.kind (access_of plan.mode) raw run.opened run.opens).keeps ∙ told) smooth memory)

-- a session is live as it was opened
opened_live : (planned : PlanKind) (opened : Access) (raw : Raw) (session : SessionView) → OpensBy planned opened raw session → life_of session ≡ life.Live
opened_live (kind.Text planned) opened raw (TextSession text) opens = ap (λ (file : TextFile). file.life) opens.file
opened_live (kind.Buffered size) opened raw (BinarySession stream) opens = opens.life_is
opened_live kind.Bare opened raw (BinarySession stream) opens = opens.life_is
opened_live (kind.Text planned) opened raw (BinarySession stream) opens = absurd opens
opened_live (kind.Buffered size) opened raw (TextSession text) opens = absurd opens
opened_live kind.Bare opened raw (TextSession text) opens = absurd opens

-- what the session comes to by the calls and a Close is in the raw
closed_in_raw : (raw : Raw) (plan : OpenPlan) (session : SessionView) (calls : List Call) (replies : List Reply) → (run : RunsCalls raw plan (closed_calls calls) session replies) → IsSmooth (raw_of run.opened) (raw_of session) → tells raw ≡ true → NoneLacksMemory (all_said replies) → bytes_in (file_seen session) ≡ (raw_of session).bytes
closed_in_raw raw plan session calls replies run smooth told memory =
    close_leaves_in_raw run.opened calls replies session run.run (opened_in_step raw plan run.opened run.opens) (opened_live plan.kind (access_of plan.mode) raw run.opened run.opens)
    (tells_still raw (raw_of run.opened) (opening_keeps plan.kind (access_of plan.mode) raw run.opened run.opens).keeps ∙ told) smooth memory

-- what the path holds is what the raw gives
raw_bytes : (held : Option (List ℕ)) (bytes : List ℕ) → held ≡ Some bytes → unwrap_or held [] ≡ bytes
raw_bytes held bytes is = ap (λ (some : Option (List ℕ)). unwrap_or some []) is

-- a run is no text of the program's own
no_own_text : (command : Command) (path mode : List ℕ) (args : OpenArgs) (text : List ℕ) → Some command ≡ Some (Run path mode args) → own_text command ≡ Some text → ⊥
no_own_text command path mode args text run own =
    let is : command ≡ Run path mode args = cc in
    let none : None ≡ Some text = subst (λ (asked : Command). own_text asked ≡ Some text) is own in
    cc

-- with the number 0 the plan accepted the opening
follows_done : (path mode : List ℕ) (args : OpenArgs) (calls : List Call) (before after : Outside) → PlannedOutcome path mode args calls status.Done before after → FollowsPlan path mode args calls status.Done before after
follows_done path mode args calls before after (inl refuses) = absurd refuses.prints
follows_done path mode args calls before after (inr follows) = follows

-- What was done with the number 0.

done_script : (words : List (List ℕ)) (old new : SourceView) (before after : Outside) (path mode : List ℕ) (args : OpenArgs) → Outcome status.Done words old new before after → command_of words ≡ Some (Run path mode args) → RunsScript words status.Done old new before after
done_script words old new before after path mode args (inl did) form = did
done_script words old new before after path mode args (inr own) form = absurd (no_own_text own.command path mode args own.text (sym own.form ∙ form) own.asked)

-- words ask for one run
one_run : (path path' mode mode' : List ℕ) (args args' : OpenArgs) → Some (Run path mode args) ≡ Some (Run path' mode' args') → (path ≡ path') × (mode ≡ mode') × (args ≡ args')
one_run path path' mode mode' args args' same = (cc, cc, cc)

-- a plan by a new registry may open
built_in_may_open : (mode : List ℕ) (args : OpenArgs) (plan : OpenPlan) → built_in_plan mode args ≡ Ok plan → IsPlanned plan
built_in_may_open mode args plan is = planned_may_open {S = NoSearch} {H = NoHandler} (λ function name. None) fresh mode args plan is

replies_of : (path mode : List ℕ) (args : OpenArgs) (words : List (List ℕ)) (old new : SourceView) (before after : Outside) → (did : RunsScript words status.Done old new before after) → (did.path ≡ path) × (did.mode ≡ mode) × (did.args ≡ args) → PrintsReplies did.path did.mode did.args old new before after
replies_of path mode args words old new before after did same =
    let follows = follows_done did.path did.mode did.args did.calls before after did.does in
    let opened : OpensPath did.path (asked_by follows.plan did.calls) status.Done before after = follows.does in
    let ran = opened.does.1 in
    record {
      calls = did.calls;
      reads = did.reads;
      plan = follows.plan;
      planned = follows.planned;
      raw = opened.raw;
      is_opened = opened.opens.opened;
      begins = λ tells. let opens = opened.opens.told tells in record { tells = opens.tells; seeks = opens.seeks; place = opens.place; bytes_are = opens.bytes };
      session = ran.session;
      replies = ran.replies;
      run = ran.run;
      prints = λ sink. opened.does.2 sink ∙ ap (λ (lines : List ℕ). before.sink.written ++ lines) ran.lines_are;
      faults = opened.done_keeps.raw_faults ∙ ap (λ (old_count : ℕ). counted old_count opened.back.faults) opened.open_keeps.raw_faults ∙ ap (λ (raw : Raw). counted before.opener.raw_faults raw.faults) ran.raw_is;
      waits = opened.done_keeps.raw_waits ∙ ap (λ (old_count : ℕ). counted old_count opened.back.waits) opened.open_keeps.raw_waits ∙ ap (λ (raw : Raw). counted before.opener.raw_waits raw.waits) ran.raw_is;
      holds = λ tells. (opened.puts tells).held ∙ ap (λ (raw : Raw). Some raw.bytes) ran.raw_is;
      flat = opened.flat opened.does.0 ran;
      cookies = λ told. brings_back opened.raw follows.plan ran.run.opened told (built_in_may_open did.mode did.args follows.plan follows.planned) ran.run.opens;
      complete = λ ready. smooth_completes ran.run.opened (closed_calls did.calls) ran.replies ran.session ran.run.run (smooth_raw before after (raw_of ran.run.opened) (raw_of ran.session) ready
          (opened.done_keeps.raw_waits ∙ ap (λ (old_count : ℕ). counted old_count opened.back.waits) opened.open_keeps.raw_waits ∙ ap (λ (raw : Raw). counted before.opener.raw_waits raw.waits) ran.raw_is)
          (opened.done_keeps.raw_faults ∙ ap (λ (old_count : ℕ). counted old_count opened.back.faults) opened.open_keeps.raw_faults ∙ ap (λ (raw : Raw). counted before.opener.raw_faults raw.faults) ran.raw_is));
    }

-- with the number 0 a run printed the replies to its calls
pub prints_replies : (words : List (List ℕ)) (old new : SourceView) (before after : Outside) (path mode : List ℕ) (args : OpenArgs) → Ends 0 words old new before after → command_of words ≡ Some (Run path mode args) → PrintsReplies path mode args old new before after
prints_replies words old new before after path mode args ends form =
    let did = done_script words old new before after path mode args (all_done ends.ended words old new before after (sym ends.code_is) ends.outcome) form in
    let same = one_run did.path path did.mode mode did.args args (sym did.form ∙ form) in
    subst (λ (named : List ℕ). PrintsReplies named mode args old new before after) same.0
    (subst (λ (named : List ℕ). PrintsReplies did.path named args old new before after) same.1
    (subst (λ (given : OpenArgs). PrintsReplies did.path did.mode given old new before after) same.2
    (replies_of path mode args words old new before after did same)))

-- What was printed, where nothing went wrong.

settled : SmoothRunsSettle → (path mode : List ℕ) (args : OpenArgs) (old new : SourceView) (before after : Outside) → (printed : PrintsReplies path mode args old new before after) → IsTrue old.tells → IsTrue before.opener.tells → RawsAreReady before after → PrintsSettled path printed.plan old before after
settled law path mode args old new before after printed told tells ready =
    let begun = printed.begins tells in
    let smooth : IsSmooth (raw_of printed.run.opened) (raw_of printed.session) = smooth_raw before after (raw_of printed.run.opened) (raw_of printed.session) ready printed.waits printed.faults in
    record {
      calls = printed.calls;
      form = (printed.reads told).form;
      replies = printed.replies;
      prints = printed.prints;
      says = λ memory. record {
        last = file_seen printed.session;
        settles = settles_over law printed.raw printed.plan printed.session (closed_calls printed.calls) printed.replies (opened_bytes (raw_mode printed.plan) (before.opener.holds path)) printed.run smooth begun.tells begun.seeks begun.place begun.bytes_are memory;
        holds = printed.holds tells ∙ ap Some (sym (closed_in_raw printed.raw printed.plan printed.session printed.calls printed.replies printed.run smooth begun.tells memory));
      };
    }

-- with the number 0 a run in which no raw failed or waited printed what settles
pub prints_settled : SmoothRunsSettle → (words : List (List ℕ)) (old new : SourceView) (before after : Outside) (path mode : List ℕ) (args : OpenArgs) (plan : OpenPlan) → Ends 0 words old new before after → command_of words ≡ Some (Run path mode args) → built_in_plan mode args ≡ Ok plan → IsTrue old.tells → IsTrue before.opener.tells → RawsAreReady before after → PrintsSettled path plan old before after
prints_settled law words old new before after path mode args plan ends form accepted told tells ready =
    let printed = prints_replies words old new before after path mode args ends form in
    subst (λ (by : OpenPlan). PrintsSettled path by old before after) (one_plan (built_in_plan mode args) printed.plan plan printed.planned accepted) (settled law path mode args old new before after printed told tells ready)

-- calls of a text that all settle are answered by the exact replies
abbrev pub SettledTextsAreExact : Type 0
SettledTextsAreExact = (before : TextFile) (calls : List Call) (replies : List FileReply) (after : SessionFile) → KnowsAnswers before calls → AllSettle (OfText before) calls replies after → IsExact before calls replies after

-- what a run that only reads leaves at the path is what it held
held_still : (plan : OpenPlan) (calls : List Call) (replies : List Reply) (raw : Raw) (session : SessionView) (held : Option (List ℕ)) (bytes : List ℕ) → access_of plan.mode ≡ access.Read → held ≡ Some bytes → tells raw ≡ true → raw.bytes ≡ opened_bytes (raw_mode plan) held → (run : RunsCalls raw plan calls session replies) → (raw_of session).bytes ≡ bytes
held_still plan calls replies raw session held bytes reads holds told are run =
    let opened = opening_keeps plan.kind (access_of plan.mode) raw run.opened run.opens in
    run_spares run.opened calls replies session run.run (opened_to_read plan.kind (access_of plan.mode) raw run.opened reads run.opens) (opened.keeps.tells_bytes ∙ tells_its_bytes raw told)
    ∙ opened.bytes (tells_its_bytes raw told)
    ∙ are
    ∙ ap (λ (file : FileMode). opened_bytes (raw_mode_text (letter_of file) plan.mode.plus) held) (file_read plan.mode.file plan.mode.plus reads)
    ∙ ap (λ (some : Option (List ℕ)). unwrap_or some []) holds

path_still : (path mode : List ℕ) (args : OpenArgs) (old new : SourceView) (before after : Outside) (plan : OpenPlan) (bytes : List ℕ) → PrintsReplies path mode args old new before after → built_in_plan mode args ≡ Ok plan → access_of plan.mode ≡ access.Read → IsTrue before.opener.tells → before.opener.holds path ≡ Some bytes → after.opener.holds path ≡ Some bytes
path_still path mode args old new before after plan bytes printed accepted is_read tells holds =
    let begun = printed.begins tells in
    let one : printed.plan ≡ plan = one_plan (built_in_plan mode args) printed.plan plan printed.planned accepted in
    let reads : access_of printed.plan.mode ≡ access.Read = ap (λ (by : OpenPlan). access_of by.mode) one ∙ is_read in
    printed.holds tells ∙ ap Some (held_still printed.plan (closed_calls printed.calls) printed.replies printed.raw printed.session (before.opener.holds path) bytes reads holds begun.tells begun.bytes_are printed.run)

-- what a text is opened to of these bytes
text_opened_by : (plan : OpenPlan) (text : TextPlan) (bytes : List ℕ) → plan.kind ≡ kind.Text text → opened_file plan bytes ≡ OfText (text_by plan.mode text bytes)
text_opened_by plan text bytes is_text = ap (λ (planned : PlanKind). file_by planned plan.mode bytes) is_text

-- with the number 0 a run of a text in which no raw failed or waited printed the exact replies
pub prints_exactly : SmoothRunsSettle → SettledTextsAreExact → (words : List (List ℕ)) (old new : SourceView) (before after : Outside) (path mode : List ℕ) (args : OpenArgs) (plan : OpenPlan) (text : TextPlan) → Ends 0 words old new before after → command_of words ≡ Some (Run path mode args) → built_in_plan mode args ≡ Ok plan → plan.kind ≡ kind.Text text → IsTrue old.tells → IsTrue before.opener.tells → RawsAreReady before after → PrintsExactly path plan text old before after
prints_exactly law exact words old new before after path mode args plan text ends form accepted is_text told tells ready =
    let printed = prints_settled law words old new before after path mode args plan ends form accepted told tells ready in
    let bytes : List ℕ = opened_bytes (raw_mode plan) (before.opener.holds path) in
    let made : List Call = closed_calls printed.calls in
    let is_exact : (memory : NoneLacksMemory (all_said printed.replies)) → IsExact (text_by plan.mode text bytes) made (all_said printed.replies) (printed.says memory).last = λ memory.
    let settles = printed.says memory in
    exact (text_by plan.mode text bytes) made (all_said printed.replies) settles.last (inl (λ failed. let never : life.Live ≡ life.Failed = failed in absurd (cc))) (subst (λ (begun : SessionFile). AllSettle begun made (all_said printed.replies) settles.last) (text_opened_by plan text bytes is_text) settles.settles) in
    record {
      calls = printed.calls;
      form = printed.form;
      replies = printed.replies;
      prints = printed.prints;
      says = λ memory. (is_exact memory).says;
      holds = λ memory. (printed.says memory).holds ∙ ap (λ (last : SessionFile). Some (bytes_in last)) (is_exact memory).leaves;
      kept = λ reads held holds. path_still path mode args old new before after plan held (prints_replies words old new before after path mode args ends form) accepted reads tells holds;
    }
