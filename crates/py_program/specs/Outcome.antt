-- What the program did, by the status that it ends with.
use Rattle.std.specs.Prelude.{◌≡◌, ◌≢◌, ℕ, ◌⊎◌, IsTrue, IsFalse, List, [], ◌∷◌, ◌++◌, Option, Some, None, Result, Ok, Err, String}
use Rattle.std.specs.declared.alloc.Global.{Global}
use Rattle.py_flat.specs.declared.fault.IoFault.TheVariants as fault
use Rattle.py_flat.specs.declared.life.Life.TheVariants as life
use Rattle.py_flat.specs.Causes.{Rose}
use Rattle.py_raw.specs.RawStream.{Raw}
use Rattle.py_raw.specs.Source.{SourceView, SourceKeeps}
use Rattle.py_raw.specs.Sink.{SinkView, SinkKeeps}
use Rattle.py_raw.specs.Opener.{OpenerView, OpenKeeps, Opens, OpenFaults, OpenLacksMemory, HoldsTheSame, DoneKeeps, PutsAway}
use Rattle.py_calls.specs.declared.call.Call.{Call}
use Rattle.py_calls.specs.declared.call.Call.TheVariants.{Close}
use Rattle.py_calls.specs.declared.reply.Reply.{Reply}
use Rattle.py_calls.specs.Calls.{said}
use Rattle.py_open.specs.Session.{SessionView, Answers, raw_of, life_of}
use Rattle.py_open.specs.Opening.{RefusesSession}
use Rattle.py_open.specs.Run.{IsRun, RefusesOpening, RunsCalls}
use Rattle.py_open.specs.Paths.{raw_mode, RefusesOpened}
use Rattle.py_open.specs.Laws.{PassesAll, flat_left}
use Rattle.py_script.specs.ReplyLine.{reply_lines}
use Rattle.py_script.specs.Faults.{refused_line}
use Rattle.py_script.specs.CommandWords.{Command, Run, Help, Version, command_of}
use Rattle.py_script.specs.Help.{help_text, version_text}
use Rattle.py_program.specs.declared.status.Status.{Status}
use Rattle.py_program.specs.declared.status.Status.TheVariants as status
use Rattle.py_flat.specs.declared.fault.IoFault.{IoFault}
use Rattle.py_calls.specs.declared.open_args.OpenArgs.{OpenArgs}
use Rattle.py_calls.specs.declared.plan.OpenPlan.{OpenPlan}
use Rattle.py_calls.specs.Plan.{built_in_plan}
use Rattle.py_raw.specs.declared.opener.OpenError.{OpenError}
use Rattle.py_raw.specs.declared.opener.OpenError.TheVariants as open_error
use Rattle.py_program.specs.Status.{code_of}
use Rattle.py_program.specs.Outside.{texts, IsMalformed, ReadsScript, Prints, PrintsFront}

-- what the program changes: what its opener shows, and its output
pub record Outside : Type 0 where
  pub opener : OpenerView
  pub sink : SinkView

-- what the program changes of an opener and a sink, as they show themselves
abbrev pub outside : {O K : Type 0} → (O → OpenerView) → (K → SinkView) → O → K → Outside
outside shows_opener shows_sink opener sink = record { opener = shows_opener opener; sink = shows_sink sink }

-- what the words of the command line ask for; nothing of malformed ones
abbrev pub asked_in : List (String Global) → Option Command
asked_in words = command_of (texts words)

-- What is done over a raw that was opened.

-- what is asked of a raw: a session as it is planned, and the calls of a script
pub record Asked : Type 0 where
  pub plan : OpenPlan
  pub calls : List Call

-- the calls of the script, and the Close that the program adds
abbrev pub closed_calls : List Call → List Call
closed_calls calls = calls ++ Close ∷ []

-- the calls were made by a session over the raw, whose raw is `back`; `lines` are those of the replies
pub record RanCalls (raw : Raw) (asked : Asked) (back : Raw) (lines : List ℕ) : Type 0 where
  pub session : SessionView
  pub replies : List Reply
  pub run : RunsCalls raw asked.plan (closed_calls asked.calls) session replies
  pub raw_is : back ≡ raw_of session
  pub lines_are : lines ≡ reply_lines replies

-- the session couldn't be opened; `lines` is the refusal's
pub record RefusedRaw (raw : Raw) (asked : Asked) (back : Raw) (lines : List ℕ) : Type 0 where
  pub refused : IoFault
  pub why : RefusesOpened raw asked.plan refused back
  pub lines_are : lines ≡ refused_line refused

-- what a plan asks with the calls of a script
abbrev pub asked_by : OpenPlan → List Call → Asked
asked_by plan calls = record { plan = plan; calls = calls }

-- what there is to print over a raw
abbrev pub HasLines : Raw → Asked → Raw → List ℕ → Type 0
HasLines raw asked back lines = RanCalls raw asked back lines ⊎ RefusedRaw raw asked back lines

-- a front of what there is to print was printed
abbrev pub PrintsSome : Raw → Asked → Raw → SinkView → SinkView → Type 0
PrintsSome raw asked back old new = (lines : List ℕ) × HasLines raw asked back lines × PrintsFront old lines new

-- no call was made when out of memory, before the opening or in it, and nothing printed
pub record MakesNoCall (raw : Raw) (asked : Asked) (back : Raw) (old new : SinkView) : Type 0 where
  pub hands : (back ≡ raw) ⊎ RefusesOpening raw asked.plan fault.NoMemory back
  pub sink : new ≡ old

-- what was printed over a raw, by the status: every reply; or the refusal; or a front of the one or the other, since the sink failed
-- or there was no memory, for which no call may have been made
abbrev pub RawOutcome : Raw → Asked → Status → Raw → SinkView → SinkView → Type 0
RawOutcome raw asked status.Done back old new = (lines : List ℕ) × RanCalls raw asked back lines × Prints old lines new
RawOutcome raw asked status.Refused back old new = (lines : List ℕ) × RefusedRaw raw asked back lines × Prints old lines new
RawOutcome raw asked status.SinkFailed back old new = PrintsSome raw asked back old new × Rose old.faults new.faults
RawOutcome raw asked status.NoMemory back old new = PrintsSome raw asked back old new ⊎ MakesNoCall raw asked back old new
RawOutcome raw asked _ back old new = ⊥

-- a `close` or a `detach` of a live session that was done, anywhere in a run over a raw: where the opener tells, the path holds the
-- flat bytes of the session that the call came to
abbrev pub PathHoldsFlat : List ℕ → SessionView → SessionView → Outside → Outside → Type 0
PathHoldsFlat path opened session before after =
    (front rest : List Call) (replies others : List Reply) (mid next : SessionView) (call : Call) (reply : Reply) → IsRun opened front replies mid → Answers mid call reply next → IsRun next rest others session
    → life_of mid ≡ life.Live → life_of next ≢ life.Live → PassesAll mid call (said reply)
    → IsTrue before.opener.tells → after.opener.holds path ≡ Some (flat_left mid call)

-- the path was opened as it is planned, the calls ended so, and the raw was put away again, whatever the opener answered; where that
-- tells, the path holds the raw's bytes, the flat ones where a close or detach of a live session was done
pub record OpensPath (path : List ℕ) (asked : Asked) (ended : Status) (before after : Outside) : Type 0 where
  pub raw : Raw
  pub mid : OpenerView
  pub back : Raw
  pub open_keeps : OpenKeeps before.opener mid
  pub opens : Opens before.opener path (raw_mode asked.plan) raw mid
  pub does : RawOutcome raw asked ended back before.sink after.sink
  pub done_keeps : DoneKeeps back mid after.opener
  pub puts : IsTrue before.opener.tells → PutsAway back mid path after.opener
  pub flat : (lines : List ℕ) (ran : RanCalls raw asked back lines) → PathHoldsFlat path ran.run.opened ran.session before after

-- nothing was opened, and nothing printed
pub record OpensNothing (before after : Outside) : Type 0 where
  pub keeps : OpenKeeps before.opener after.opener
  pub holds : IsTrue before.opener.tells → HoldsTheSame before.opener after.opener
  pub sink : after.sink ≡ before.sink

-- the path couldn't be opened; or couldn't be put away when all was printed, which no opener that tells answers
abbrev pub OpenerFails : List ℕ → Asked → Outside → Outside → Type 0
OpenerFails path asked before after = (OpensNothing before after × OpenFaults before.opener path (raw_mode asked.plan) after.opener) ⊎ (OpensPath path asked status.Done before after × Rose before.opener.faults after.opener.faults × IsFalse before.opener.tells)

-- there was no memory for a path that the plan accepts: over the raw; or to put it away when all was printed; or the opener had none
abbrev pub LacksMemory : List ℕ → Asked → Outside → Outside → Type 0
LacksMemory path asked before after = OpensPath path asked status.NoMemory before after ⊎ (OpensPath path asked status.Done before after ⊎ (OpensNothing before after × OpenLacksMemory before.opener path (raw_mode asked.plan) after.opener))

-- what came of the calls of a script that was read, by the status
abbrev pub CallsOutcome : List ℕ → Asked → Status → Outside → Outside → Type 0
CallsOutcome path asked status.Done before after = OpensPath path asked status.Done before after
CallsOutcome path asked status.Refused before after = OpensPath path asked status.Refused before after
CallsOutcome path asked status.SinkFailed before after = OpensPath path asked status.SinkFailed before after
CallsOutcome path asked status.NoMemory before after = LacksMemory path asked before after
CallsOutcome path asked status.OpenerFailed before after = OpenerFails path asked before after
CallsOutcome path asked _ before after = ⊥

-- What the plan makes of the script's calls.

-- the line of a refusal by the plan was printed; or a front of it, since the sink failed or there was no memory
abbrev pub RefusalPrinted : IoFault → Status → SinkView → SinkView → Type 0
RefusalPrinted refused status.Refused old new = Prints old (refused_line refused) new
RefusalPrinted refused status.SinkFailed old new = Rose old.faults new.faults × PrintsFront old (refused_line refused) new
RefusalPrinted refused status.NoMemory old new = PrintsFront old (refused_line refused) new
RefusalPrinted refused _ old new = ⊥

-- the plan refuses the opening: nothing was opened
pub record RefusesPlan (mode : List ℕ) (args : OpenArgs) (ended : Status) (before after : Outside) : Type 0 where
  pub refused : IoFault
  pub planned : built_in_plan mode args ≡ Err refused
  pub opener : after.opener ≡ before.opener
  pub prints : RefusalPrinted refused ended before.sink after.sink

-- the plan accepts the opening: what it asks of a raw was done
pub record FollowsPlan (path mode : List ℕ) (args : OpenArgs) (calls : List Call) (ended : Status) (before after : Outside) : Type 0 where
  pub plan : OpenPlan
  pub planned : built_in_plan mode args ≡ Ok plan
  pub does : CallsOutcome path (asked_by plan calls) ended before after

-- what came of the script's calls, by whether the plan refuses the opening or accepts it
abbrev pub PlannedOutcome : List ℕ → List ℕ → OpenArgs → List Call → Status → Outside → Outside → Type 0
PlannedOutcome path mode args calls ended before after = RefusesPlan mode args ended before after ⊎ FollowsPlan path mode args calls ended before after

-- there was no memory for the registry, or to look for a name in it: nothing was called
abbrev pub LacksPlan : Status → Outside → Outside → Type 0
LacksPlan ended before after = (ended ≡ status.NoMemory) × (after ≡ before)

-- The whole program.

-- nothing was called
pub record CallsNothing (old new : SourceView) (before after : Outside) : Type 0 where
  pub source : new ≡ old
  pub same : after ≡ before

-- the words ask for a text of the program's own, all of which was printed, or a front, since the sink failed
abbrev pub TextPrinted : List ℕ → Status → SinkView → SinkView → Type 0
TextPrinted text status.Done old new = Prints old text new
TextPrinted text status.SinkFailed old new = Rose old.faults new.faults × PrintsFront old text new
TextPrinted text _ old new = ⊥

-- the text that a command prints by itself
abbrev pub own_text : Command → Option (List ℕ)
own_text Help = Some help_text
own_text Version = Some version_text
own_text (Run path mode args) = None

-- the words ask for a text of the program's own, and only the sink was called
pub record PrintsText (words : List (List ℕ)) (ended : Status) (old new : SourceView) (before after : Outside) : Type 0 where
  pub command : Command
  pub form : command_of words ≡ Some command
  pub text : List ℕ
  pub asked : own_text command ≡ Some text
  pub source : new ≡ old
  pub opener : after.opener ≡ before.opener
  pub sink : SinkKeeps before.sink after.sink
  pub prints : TextPrinted text ended before.sink after.sink

-- the words ask for a run, and only the source was called
pub record OnlyReads (words : List (List ℕ)) (old new : SourceView) (before after : Outside) : Type 0 where
  pub path : List ℕ
  pub mode : List ℕ
  pub args : OpenArgs
  pub form : command_of words ≡ Some (Run path mode args)
  pub source : SourceKeeps old new
  pub same : after ≡ before

-- the words ask for a run, the script was read to its end, and its calls ended so
pub record RunsScript (words : List (List ℕ)) (ended : Status) (old new : SourceView) (before after : Outside) : Type 0 where
  pub path : List ℕ
  pub mode : List ℕ
  pub args : OpenArgs
  pub form : command_of words ≡ Some (Run path mode args)
  pub calls : List Call
  pub source : SourceKeeps old new
  pub reads : IsTrue old.tells → ReadsScript old calls new
  pub sink : SinkKeeps before.sink after.sink
  pub does : PlannedOutcome path mode args calls ended before after

-- what the program did, by its status
abbrev pub Outcome : Status → List (List ℕ) → SourceView → SourceView → Outside → Outside → Type 0
Outcome status.WordsMalformed words old new before after = (command_of words ≡ None) × CallsNothing old new before after
Outcome status.ScriptMalformed words old new before after = OnlyReads words old new before after × (IsTrue old.tells → IsMalformed old.left)
Outcome status.SourceFailed words old new before after = OnlyReads words old new before after × Rose old.faults new.faults
Outcome status.NoMemory words old new before after = CallsNothing old new before after ⊎ (OnlyReads words old new before after ⊎ RunsScript words status.NoMemory old new before after)
Outcome status.Done words old new before after = RunsScript words status.Done old new before after ⊎ PrintsText words status.Done old new before after
Outcome status.SinkFailed words old new before after = RunsScript words status.SinkFailed old new before after ⊎ PrintsText words status.SinkFailed old new before after
Outcome ended words old new before after = RunsScript words ended old new before after

-- the program ended with a number: that of a status, by which the program did what its outcome says
pub record Ends (code : ℕ) (words : List (List ℕ)) (old new : SourceView) (before after : Outside) : Type 0 where
  pub ended : Status
  pub code_is : code ≡ code_of ended
  pub outcome : Outcome ended words old new before after

-- the status once a raw was put away: that of the calls, unless all was done and the opener failed or ran out of memory
abbrev pub after_done : Status → Result (Unit {0}) OpenError → Status
after_done status.Done (Err open_error.Fault) = status.OpenerFailed
after_done status.Done (Err open_error.Memory) = status.NoMemory
after_done ended done = ended
