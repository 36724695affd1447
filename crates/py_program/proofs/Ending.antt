-- What follows from how the program ended, a status at a time, of what the paths hold.
use Rattle.std.proofs.Common.{◌≡◌, ℕ, ◌⊎◌, inl, inr, Bool, true, false, IsTrue, IsFalse, List, Option, Some, None, Result, Ok, Err, IsErr, refl, sym, ◌∙◌, ap, subst, arith}
use Rattle.py_flat.specs.declared.fault.IoFault.{IoFault}
use Rattle.py_flat.specs.declared.fault.IoFault.TheVariants as fault
use Rattle.py_flat.specs.Causes.{Rose, RoseBy}
use Rattle.py_raw.specs.RawStream.{Raw}
use Rattle.py_raw.specs.Source.{SourceView}
use Rattle.py_raw.specs.Opener.{OpenerView, HoldsTheSame, OthersHoldTheSame, misses, opened_bytes}
use Rattle.py_calls.specs.declared.call.Call.{Call}
use Rattle.py_stream.specs.declared.access.Access.TheVariants as access
use Rattle.py_calls.specs.declared.open_args.OpenArgs.{OpenArgs}
use Rattle.py_calls.specs.declared.plan.OpenPlan.{OpenPlan}
use Rattle.py_calls.specs.Plan.{built_in_plan}
use Rattle.py_open.specs.Opening.{access_of}
use Rattle.py_script.specs.CommandWords.{Command, Run, Help, Version, command_of}
use Rattle.py_program.specs.declared.status.Status.{Status}
use Rattle.py_program.specs.declared.status.Status.TheVariants as status
use Rattle.py_program.specs.Status.{code_of}
use Rattle.py_open.specs.Paths.{raw_mode, MovesRaw, RefusesOpened}
use Rattle.py_program.specs.Outcome.{Outside, Asked, asked_by, OpensPath, OpenerFails, LacksMemory, CallsOutcome, PlannedOutcome, own_text, PrintsText, RunsScript, Outcome, Ends}
use Rattle.py_program.specs.Meaning.{IsRefusedPlan, AsksToRead, MayNotMove, LeavesPaths, KeepsOthers, IsAcceptedAt, TellsWellFormed}
use Rattle.py_program.proofs.Planned.{one_plan}
use Rattle.py_program.proofs.Keeping.{path_spares, path_keeps, path_left}

same_keeps : (before after : Outside) → after ≡ before → HoldsTheSame before.opener after.opener
same_keeps before after same = λ path. ap (λ (outside : Outside). outside.opener.holds path) same

opener_same : (before after : OpenerView) → after ≡ before → HoldsTheSame before after
opener_same before after same = λ path. ap (λ (opener : OpenerView). opener.holds path) same

-- Every path keeps what it held, where the plan only reads.

opener_keeps : (path : List ℕ) (asked : Asked) (before after : Outside) → OpenerFails path asked before after → IsTrue before.opener.tells → HoldsTheSame before.opener after.opener
opener_keeps path asked before after (inl refused) tells = refused.0.holds tells
opener_keeps path asked before after (inr opened) tells = let both : true ≡ false = sym tells ∙ opened.2 in absurd (cc)

memory_keeps : (path : List ℕ) (asked : Asked) (before after : Outside) → access_of asked.plan.mode ≡ access.Read → LacksMemory path asked before after → IsTrue before.opener.tells → HoldsTheSame before.opener after.opener
memory_keeps path asked before after reads (inl opened) tells = path_keeps path asked status.NoMemory before after reads opened tells
memory_keeps path asked before after reads (inr (inl opened)) tells = path_keeps path asked status.Done before after reads opened tells
memory_keeps path asked before after reads (inr (inr none)) tells = none.0.holds tells

calls_keep : (path : List ℕ) (asked : Asked) (ended : Status) (before after : Outside) → access_of asked.plan.mode ≡ access.Read → CallsOutcome path asked ended before after → IsTrue before.opener.tells → HoldsTheSame before.opener after.opener
calls_keep path asked status.Done before after reads did tells = path_keeps path asked status.Done before after reads did tells
calls_keep path asked status.Refused before after reads did tells = path_keeps path asked status.Refused before after reads did tells
calls_keep path asked status.SinkFailed before after reads did tells = path_keeps path asked status.SinkFailed before after reads did tells
calls_keep path asked status.NoMemory before after reads did tells = memory_keeps path asked before after reads did tells
calls_keep path asked status.OpenerFailed before after reads did tells = opener_keeps path asked before after did tells
calls_keep path asked status.WordsMalformed before after reads did tells = absurd did
calls_keep path asked status.ScriptMalformed before after reads did tells = absurd did
calls_keep path asked status.SourceFailed before after reads did tells = absurd did

-- the plan of a mode and arguments, if there is one, reads
abbrev pub PlansToRead : List ℕ → OpenArgs → Type 0
PlansToRead mode args = (plan : OpenPlan) → built_in_plan mode args ≡ Ok plan → access_of plan.mode ≡ access.Read

planned_keeps : (path mode : List ℕ) (args : OpenArgs) (calls : List Call) (ended : Status) (before after : Outside) → PlansToRead mode args → PlannedOutcome path mode args calls ended before after → IsTrue before.opener.tells → HoldsTheSame before.opener after.opener
planned_keeps path mode args calls ended before after reads (inl refused) tells = opener_same before.opener after.opener refused.opener
planned_keeps path mode args calls ended before after reads (inr follows) tells = calls_keep path (asked_by follows.plan calls) ended before after (reads follows.plan follows.planned) follows.does tells

-- the plan that the words ask for, if there is one, reads
abbrev pub WordsToRead : Option Command → Type 0
WordsToRead (Some (Run path mode args)) = PlansToRead mode args
WordsToRead command = Unit {0}

script_keeps : (words : List (List ℕ)) (ended : Status) (old new : SourceView) (before after : Outside) → WordsToRead (command_of words) → RunsScript words ended old new before after → IsTrue before.opener.tells → HoldsTheSame before.opener after.opener
script_keeps words ended old new before after reads did tells =
    planned_keeps did.path did.mode did.args did.calls ended before after (subst WordsToRead did.form reads) did.does tells

kept_by : (ended : Status) (words : List (List ℕ)) (old new : SourceView) (before after : Outside) → WordsToRead (command_of words) → Outcome ended words old new before after → IsTrue before.opener.tells → HoldsTheSame before.opener after.opener
kept_by status.WordsMalformed words old new before after reads did tells = same_keeps before after did.1.same
kept_by status.ScriptMalformed words old new before after reads did tells = same_keeps before after did.0.same
kept_by status.SourceFailed words old new before after reads did tells = same_keeps before after did.0.same
kept_by status.OpenerFailed words old new before after reads did tells = script_keeps words status.OpenerFailed old new before after reads did tells
kept_by status.Refused words old new before after reads did tells = script_keeps words status.Refused old new before after reads did tells
kept_by status.Done words old new before after reads (inl did) tells = script_keeps words status.Done old new before after reads did tells
kept_by status.Done words old new before after reads (inr text) tells = opener_same before.opener after.opener text.opener
kept_by status.SinkFailed words old new before after reads (inl did) tells = script_keeps words status.SinkFailed old new before after reads did tells
kept_by status.SinkFailed words old new before after reads (inr text) tells = opener_same before.opener after.opener text.opener
kept_by status.NoMemory words old new before after reads (inl none) tells = same_keeps before after none.same
kept_by status.NoMemory words old new before after reads (inr (inl read)) tells = same_keeps before after read.same
kept_by status.NoMemory words old new before after reads (inr (inr did)) tells = script_keeps words status.NoMemory old new before after reads did tells

-- a plan that is refused is none that writes
refused_reads : (command : Option Command) → IsRefusedPlan command → WordsToRead command
refused_reads (Some (Run path mode args)) refused = λ plan accepted. absurd (let wrong : IsErr {T = OpenPlan} {E = IoFault} (Ok plan) = subst (λ (planned : Result OpenPlan IoFault). IsErr planned) accepted refused in cc)
refused_reads (Some Help) refused = absurd refused
refused_reads (Some Version) refused = absurd refused
refused_reads None refused = absurd refused

asked_reads : (command : Option Command) → AsksToRead command → WordsToRead command
asked_reads (Some (Run path mode args)) asked = λ plan accepted. ap (λ (by : OpenPlan). access_of by.mode) (one_plan (built_in_plan mode args) plan asked.0 accepted asked.1) ∙ asked.2
asked_reads (Some Help) asked = absurd asked
asked_reads (Some Version) asked = absurd asked
asked_reads None asked = absurd asked

-- What was promised, by the status.

failed_keeps : (path mode : List ℕ) (args : OpenArgs) (calls : List Call) (before after : Outside) → PlannedOutcome path mode args calls status.OpenerFailed before after → IsTrue before.opener.tells → HoldsTheSame before.opener after.opener
failed_keeps path mode args calls before after (inl refused) tells = opener_same before.opener after.opener refused.opener
failed_keeps path mode args calls before after (inr follows) tells = opener_keeps path (asked_by follows.plan calls) before after follows.does tells

code_keeps : (ended : Status) (words : List (List ℕ)) (old new : SourceView) (before after : Outside) → (code_of ended ≡ 2) ⊎ ((code_of ended ≡ 3) ⊎ ((code_of ended ≡ 5) ⊎ (code_of ended ≡ 8))) → Outcome ended words old new before after → IsTrue before.opener.tells → HoldsTheSame before.opener after.opener
code_keeps status.WordsMalformed words old new before after is did tells = same_keeps before after did.1.same
code_keeps status.ScriptMalformed words old new before after is did tells = same_keeps before after did.0.same
code_keeps status.SourceFailed words old new before after is did tells = same_keeps before after did.0.same
code_keeps status.OpenerFailed words old new before after is did tells = failed_keeps did.path did.mode did.args did.calls before after did.does tells
code_keeps status.Refused words old new before after is did tells = absurd (omega arith)
code_keeps status.Done words old new before after is did tells = absurd (omega arith)
code_keeps status.SinkFailed words old new before after is did tells = absurd (omega arith)
code_keeps status.NoMemory words old new before after is did tells = absurd (omega arith)

-- where the program's number, or its words, leave the paths, every path holds what it held
pub paths_kept : (code : ℕ) (words : List (List ℕ)) (old new : SourceView) (before after : Outside) → Ends code words old new before after → IsTrue before.opener.tells → LeavesPaths code (command_of words) → HoldsTheSame before.opener after.opener
paths_kept code words old new before after ends tells (inl is) = code_keeps ends.ended words old new before after (inl (sym ends.code_is ∙ is)) ends.outcome tells
paths_kept code words old new before after ends tells (inr (inl is)) = code_keeps ends.ended words old new before after (inr (inl (sym ends.code_is ∙ is))) ends.outcome tells
paths_kept code words old new before after ends tells (inr (inr (inl is))) = code_keeps ends.ended words old new before after (inr (inr (inl (sym ends.code_is ∙ is)))) ends.outcome tells
paths_kept code words old new before after ends tells (inr (inr (inr (inl is)))) = code_keeps ends.ended words old new before after (inr (inr (inr (sym ends.code_is ∙ is)))) ends.outcome tells
paths_kept code words old new before after ends tells (inr (inr (inr (inr (inl refused))))) = kept_by ends.ended words old new before after (refused_reads (command_of words) refused) ends.outcome tells
paths_kept code words old new before after ends tells (inr (inr (inr (inr (inr asked))))) = kept_by ends.ended words old new before after (asked_reads (command_of words) asked) ends.outcome tells

-- Every other path keeps what it held.

calls_spare : (path : List ℕ) (asked : Asked) (ended : Status) (before after : Outside) → CallsOutcome path asked ended before after → IsTrue before.opener.tells → OthersHoldTheSame path before.opener after.opener
calls_spare path asked status.Done before after did tells = path_spares path asked status.Done before after did tells
calls_spare path asked status.Refused before after did tells = path_spares path asked status.Refused before after did tells
calls_spare path asked status.SinkFailed before after did tells = path_spares path asked status.SinkFailed before after did tells
calls_spare path asked status.NoMemory before after (inl opened) tells = path_spares path asked status.NoMemory before after opened tells
calls_spare path asked status.NoMemory before after (inr (inl opened)) tells = path_spares path asked status.Done before after opened tells
calls_spare path asked status.NoMemory before after (inr (inr none)) tells = λ other differs. none.0.holds tells other
calls_spare path asked status.OpenerFailed before after did tells = λ other differs. opener_keeps path asked before after did tells other
calls_spare path asked status.WordsMalformed before after did tells = absurd did
calls_spare path asked status.ScriptMalformed before after did tells = absurd did
calls_spare path asked status.SourceFailed before after did tells = absurd did

planned_spares : (path mode : List ℕ) (args : OpenArgs) (calls : List Call) (ended : Status) (before after : Outside) → PlannedOutcome path mode args calls ended before after → IsTrue before.opener.tells → OthersHoldTheSame path before.opener after.opener
planned_spares path mode args calls ended before after (inl refused) tells = λ other differs. opener_same before.opener after.opener refused.opener other
planned_spares path mode args calls ended before after (inr follows) tells = calls_spare path (asked_by follows.plan calls) ended before after follows.does tells

script_spares : (words : List (List ℕ)) (ended : Status) (old new : SourceView) (before after : Outside) → RunsScript words ended old new before after → IsTrue before.opener.tells → KeepsOthers (command_of words) before.opener after.opener
script_spares words ended old new before after did tells =
    subst (λ (command : Option Command). KeepsOthers command before.opener after.opener) (sym did.form) (planned_spares did.path did.mode did.args did.calls ended before after did.does tells)

all_spare : (command : Option Command) (before after : OpenerView) → HoldsTheSame before after → KeepsOthers command before after
all_spare (Some (Run path mode args)) before after same = λ other differs. same other
all_spare (Some Help) before after same = same
all_spare (Some Version) before after same = same
all_spare None before after same = same

spared_by : (ended : Status) (words : List (List ℕ)) (old new : SourceView) (before after : Outside) → Outcome ended words old new before after → IsTrue before.opener.tells → KeepsOthers (command_of words) before.opener after.opener
spared_by status.WordsMalformed words old new before after did tells = all_spare (command_of words) before.opener after.opener (same_keeps before after did.1.same)
spared_by status.ScriptMalformed words old new before after did tells = all_spare (command_of words) before.opener after.opener (same_keeps before after did.0.same)
spared_by status.SourceFailed words old new before after did tells = all_spare (command_of words) before.opener after.opener (same_keeps before after did.0.same)
spared_by status.OpenerFailed words old new before after did tells = script_spares words status.OpenerFailed old new before after did tells
spared_by status.Refused words old new before after did tells = script_spares words status.Refused old new before after did tells
spared_by status.Done words old new before after (inl did) tells = script_spares words status.Done old new before after did tells
spared_by status.Done words old new before after (inr text) tells = all_spare (command_of words) before.opener after.opener (opener_same before.opener after.opener text.opener)
spared_by status.SinkFailed words old new before after (inl did) tells = script_spares words status.SinkFailed old new before after did tells
spared_by status.SinkFailed words old new before after (inr text) tells = all_spare (command_of words) before.opener after.opener (opener_same before.opener after.opener text.opener)
spared_by status.NoMemory words old new before after (inl none) tells = all_spare (command_of words) before.opener after.opener (same_keeps before after none.same)
spared_by status.NoMemory words old new before after (inr (inl read)) tells = all_spare (command_of words) before.opener after.opener (same_keeps before after read.same)
spared_by status.NoMemory words old new before after (inr (inr did)) tells = script_spares words status.NoMemory old new before after did tells

-- every path but the one that the words name holds what it held
pub others_kept : (code : ℕ) (words : List (List ℕ)) (old new : SourceView) (before after : Outside) → Ends code words old new before after → IsTrue before.opener.tells → KeepsOthers (command_of words) before.opener after.opener
others_kept code words old new before after ends tells = spared_by ends.ended words old new before after ends.outcome tells

-- Refused openings.

-- with the number 4 the words asked for a run, whose opening was refused
all_refused : (ended : Status) (words : List (List ℕ)) (old new : SourceView) (before after : Outside) → code_of ended ≡ 4 → Outcome ended words old new before after → RunsScript words status.Refused old new before after
all_refused status.Refused words old new before after is did = did
all_refused status.Done words old new before after is did = absurd (omega arith)
all_refused status.WordsMalformed words old new before after is did = absurd (omega arith)
all_refused status.ScriptMalformed words old new before after is did = absurd (omega arith)
all_refused status.SourceFailed words old new before after is did = absurd (omega arith)
all_refused status.SinkFailed words old new before after is did = absurd (omega arith)
all_refused status.NoMemory words old new before after is did = absurd (omega arith)
all_refused status.OpenerFailed words old new before after is did = absurd (omega arith)

-- what the words ask for, if they were accepted at a path
pub accepted_path : (path named mode : List ℕ) (args : OpenArgs) (plan : OpenPlan) (command : Option Command) → command ≡ Some (Run named mode args) → IsAcceptedAt path plan command → (named ≡ path) × (built_in_plan mode args ≡ Ok plan)
accepted_path path named mode args plan command form accepted = subst (λ (asked : Option Command). IsAcceptedAt path plan asked) form accepted

left_by : (path named mode : List ℕ) (args : OpenArgs) (plan : OpenPlan) (calls : List Call) (before after : Outside) → named ≡ path → built_in_plan mode args ≡ Ok plan → PlannedOutcome named mode args calls status.Refused before after → IsTrue before.opener.tells → after.opener.holds path ≡ Some (opened_bytes (raw_mode plan) (before.opener.holds path))
left_by path named mode args plan calls before after is accepted (inl refuses) tells = let both : Ok plan ≡ Err refuses.refused = sym accepted ∙ refuses.planned in absurd (cc)
left_by path named mode args plan calls before after is accepted (inr follows) tells =
    let P : List ℕ → Type 0 = λ at. after.opener.holds at ≡ Some (opened_bytes (raw_mode plan) (before.opener.holds at)) in
    let Q : OpenPlan → Type 0 = λ by. after.opener.holds named ≡ Some (opened_bytes (raw_mode by) (before.opener.holds named)) in
    subst P is (subst Q (one_plan (built_in_plan mode args) follows.plan plan follows.planned accepted) (path_left named (asked_by follows.plan calls) before after follows.does tells))

-- with the number 4 the path holds what its opening left
pub path_left_by : (words : List (List ℕ)) (old new : SourceView) (before after : Outside) (path : List ℕ) (plan : OpenPlan) → Ends 4 words old new before after → IsAcceptedAt path plan (command_of words) → IsTrue before.opener.tells → after.opener.holds path ≡ Some (opened_bytes (raw_mode plan) (before.opener.holds path))
path_left_by words old new before after path plan ends accepted tells =
    let did = all_refused ends.ended words old new before after (sym ends.code_is) ends.outcome in
    let at = accepted_path path did.path did.mode did.args plan (command_of words) did.form accepted in
    left_by path did.path did.mode did.args plan did.calls before after at.0 at.1 did.does tells

-- a raw that can't seek is of an opener that doesn't tell
never_told : (tells : Bool) (raw : Raw) → (IsTrue tells → raw.seekable ≡ true) → IsFalse raw.seekable → IsFalse tells
never_told true raw seeks still = let both : true ≡ false = sym (seeks refl) ∙ still in absurd (cc)
never_told false raw seeks still = refl

-- faults of a raw that was opened are the opener's once it is put away
faults_rise : (back old mid new : ℕ) → Rose 0 back → mid ≡ old → RoseBy back mid new → Rose old new
faults_rise back old mid new rose same by = grind arith

opened_refused : (path : List ℕ) (asked : Asked) (before after : Outside) (opened : OpensPath path asked status.Refused before after) (refused : IoFault) → RefusesOpened opened.raw asked.plan refused opened.back → Rose before.opener.raw_faults after.opener.raw_faults ⊎ (IsFalse before.opener.tells × MovesRaw asked.plan)
opened_refused path asked before after opened fault.RawFault why =
    inl (faults_rise opened.back.faults before.opener.raw_faults opened.mid.raw_faults after.opener.raw_faults (rw opened.opens.opened.faults at why.2) opened.open_keeps.raw_faults opened.done_keeps.raw_faults)
opened_refused path asked before after opened fault.Unsupported why =
    inr (never_told before.opener.tells opened.raw (λ tells. (opened.opens.told tells).seeks) why.1, why.0)
opened_refused path asked before after opened _ why = absurd why

planned_refused : (path mode : List ℕ) (args : OpenArgs) (calls : List Call) (before after : Outside) → PlannedOutcome path mode args calls status.Refused before after → IsErr (built_in_plan mode args) ⊎ (Rose before.opener.raw_faults after.opener.raw_faults ⊎ MayNotMove before.opener (Some (Run path mode args)))
planned_refused path mode args calls before after (inl refuses) = inl (rw refuses.planned refl)
planned_refused path mode args calls before after (inr follows) =
    elim (opened_refused path (asked_by follows.plan calls) before after follows.does follows.does.does.1.refused follows.does.does.1.why) [
      | inl rose ↦ inr (inl rose)
      | inr still ↦ inr (inr (still.0, (follows.plan, follows.planned, still.1)))
    ]

-- with the number 4 the plan refuses the opening, the raw failed, or it can't seek and has to be moved, of an opener that doesn't tell
pub refused_by_cause : (code : ℕ) (words : List (List ℕ)) (old new : SourceView) (before after : Outside) → Ends code words old new before after → code ≡ 4 → IsRefusedPlan (command_of words) ⊎ (Rose before.opener.raw_faults after.opener.raw_faults ⊎ MayNotMove before.opener (command_of words))
refused_by_cause code words old new before after ends is =
    let did = all_refused ends.ended words old new before after (sym ends.code_is ∙ is) ends.outcome in
    subst (λ (command : Option Command). IsRefusedPlan command ⊎ (Rose before.opener.raw_faults after.opener.raw_faults ⊎ MayNotMove before.opener command)) (sym did.form) (planned_refused did.path did.mode did.args did.calls before after did.does)

-- Openings that the opener refuses.

all_failed : (ended : Status) (words : List (List ℕ)) (old new : SourceView) (before after : Outside) → code_of ended ≡ 8 → Outcome ended words old new before after → RunsScript words status.OpenerFailed old new before after
all_failed status.OpenerFailed words old new before after is did = did
all_failed status.Done words old new before after is did = absurd (omega arith)
all_failed status.WordsMalformed words old new before after is did = absurd (omega arith)
all_failed status.ScriptMalformed words old new before after is did = absurd (omega arith)
all_failed status.SourceFailed words old new before after is did = absurd (omega arith)
all_failed status.SinkFailed words old new before after is did = absurd (omega arith)
all_failed status.NoMemory words old new before after is did = absurd (omega arith)
all_failed status.Refused words old new before after is did = absurd (omega arith)

opener_misses : (path : List ℕ) (asked : Asked) (before after : Outside) → OpenerFails path asked before after → IsTrue before.opener.tells → misses (raw_mode asked.plan) (before.opener.holds path) ≡ true
opener_misses path asked before after (inl refused) tells = refused.1.missed tells
opener_misses path asked before after (inr opened) tells = let both : true ≡ false = sym tells ∙ opened.2 in absurd (cc)

missed_by : (path named mode : List ℕ) (args : OpenArgs) (plan : OpenPlan) (calls : List Call) (before after : Outside) → named ≡ path → built_in_plan mode args ≡ Ok plan → PlannedOutcome named mode args calls status.OpenerFailed before after → IsTrue before.opener.tells → misses (raw_mode plan) (before.opener.holds path) ≡ true
missed_by path named mode args plan calls before after is accepted (inl refuses) tells = absurd refuses.prints
missed_by path named mode args plan calls before after is accepted (inr follows) tells =
    let P : List ℕ → Type 0 = λ at. misses (raw_mode plan) (before.opener.holds at) ≡ true in
    let Q : OpenPlan → Type 0 = λ by. misses (raw_mode by) (before.opener.holds named) ≡ true in
    subst P is (subst Q (one_plan (built_in_plan mode args) follows.plan plan follows.planned accepted) (opener_misses named (asked_by follows.plan calls) before after follows.does tells))

-- with the number 8 the plan's mode can't open what the path held
pub path_missed : (words : List (List ℕ)) (old new : SourceView) (before after : Outside) (path : List ℕ) (plan : OpenPlan) → Ends 8 words old new before after → IsAcceptedAt path plan (command_of words) → IsTrue before.opener.tells → misses (raw_mode plan) (before.opener.holds path) ≡ true
path_missed words old new before after path plan ends accepted tells =
    let did = all_failed ends.ended words old new before after (sym ends.code_is) ends.outcome in
    let at = accepted_path path did.path did.mode did.args plan (command_of words) did.form accepted in
    missed_by path did.path did.mode did.args plan did.calls before after at.0 at.1 did.does tells

-- A path that the plan's mode can't open.

-- a path that was opened isn't one that the mode can't open
opened_hit : (path : List ℕ) (asked : Asked) (ended : Status) (before after : Outside) → OpensPath path asked ended before after → IsTrue before.opener.tells → misses (raw_mode asked.plan) (before.opener.holds path) ≡ true → ⊥
opened_hit path asked ended before after opened tells missed = let both : true ≡ false = sym missed ∙ (opened.opens.told tells).found in cc

planned_hit : (path named mode : List ℕ) (args : OpenArgs) (plan : OpenPlan) (calls : List Call) (ended : Status) (before after : Outside) → ((asked : Asked) → CallsOutcome named asked ended before after → OpensPath named asked ended before after) → named ≡ path → built_in_plan mode args ≡ Ok plan → PlannedOutcome named mode args calls ended before after → IsTrue before.opener.tells → misses (raw_mode plan) (before.opener.holds path) ≡ true → ⊥
planned_hit path named mode args plan calls ended before after opens is accepted (inl refuses) tells missed = let both : Ok plan ≡ Err refuses.refused = sym accepted ∙ refuses.planned in cc
planned_hit path named mode args plan calls ended before after opens is accepted (inr follows) tells missed =
    let P : List ℕ → Type 0 = λ at. misses (raw_mode plan) (before.opener.holds at) ≡ true in
    let Q : OpenPlan → Type 0 = λ by. misses (raw_mode by) (before.opener.holds named) ≡ true in
    opened_hit named (asked_by follows.plan calls) ended before after (opens (asked_by follows.plan calls) follows.does) tells
    (subst Q (one_plan (built_in_plan mode args) plan follows.plan accepted follows.planned) (subst P (sym is) missed))

runs_hit : (words : List (List ℕ)) (ended : Status) (old new : SourceView) (before after : Outside) (path : List ℕ) (plan : OpenPlan) → ((named : List ℕ) (asked : Asked) → CallsOutcome named asked ended before after → OpensPath named asked ended before after) → RunsScript words ended old new before after → IsAcceptedAt path plan (command_of words) → IsTrue before.opener.tells → misses (raw_mode plan) (before.opener.holds path) ≡ true → ⊥
runs_hit words ended old new before after path plan opens did accepted tells missed =
    let at = accepted_path path did.path did.mode did.args plan (command_of words) did.form accepted in
    planned_hit path did.path did.mode did.args plan did.calls ended before after (opens did.path) at.0 at.1 did.does tells missed

-- a text of the program's own isn't a path that is opened
text_opens_none : (command : Command) (text path : List ℕ) (plan : OpenPlan) → own_text command ≡ Some text → IsAcceptedAt path plan (Some command) → ⊥
text_opens_none Help text path plan is accepted = accepted
text_opens_none Version text path plan is accepted = accepted
text_opens_none (Run named mode args) text path plan is accepted = cc

prints_hit : (words : List (List ℕ)) (ended : Status) (old new : SourceView) (before after : Outside) (path : List ℕ) (plan : OpenPlan) → PrintsText words ended old new before after → IsAcceptedAt path plan (command_of words) → ⊥
prints_hit words ended old new before after path plan did accepted =
    text_opens_none did.command did.text path plan did.asked (subst (λ (command : Option Command). IsAcceptedAt path plan command) did.form accepted)

found_by : (code : ℕ) (ended : Status) (words : List (List ℕ)) (old new : SourceView) (before after : Outside) (path : List ℕ) (plan : OpenPlan) → code ≡ code_of ended → Outcome ended words old new before after → IsAcceptedAt path plan (command_of words) → TellsWellFormed old → IsTrue before.opener.tells → misses (raw_mode plan) (before.opener.holds path) ≡ true → (code ≡ 8) ⊎ ((code ≡ 5) ⊎ (code ≡ 7))
found_by code status.OpenerFailed words old new before after path plan is did accepted well tells missed = inl is
found_by code status.SourceFailed words old new before after path plan is did accepted well tells missed = inr (inl is)
found_by code status.NoMemory words old new before after path plan is did accepted well tells missed = inr (inr is)
found_by code status.WordsMalformed words old new before after path plan is did accepted well tells missed = absurd (subst (λ (command : Option Command). IsAcceptedAt path plan command) did.0 accepted)
found_by code status.ScriptMalformed words old new before after path plan is did accepted well tells missed = absurd (well.form (did.1 well.told))
found_by code status.Refused words old new before after path plan is did accepted well tells missed = absurd (runs_hit words status.Refused old new before after path plan (λ named asked opened. opened) did accepted tells missed)
found_by code status.Done words old new before after path plan is (inl did) accepted well tells missed = absurd (runs_hit words status.Done old new before after path plan (λ named asked opened. opened) did accepted tells missed)
found_by code status.Done words old new before after path plan is (inr did) accepted well tells missed = absurd (prints_hit words status.Done old new before after path plan did accepted)
found_by code status.SinkFailed words old new before after path plan is (inl did) accepted well tells missed = absurd (runs_hit words status.SinkFailed old new before after path plan (λ named asked opened. opened) did accepted tells missed)
found_by code status.SinkFailed words old new before after path plan is (inr did) accepted well tells missed = absurd (prints_hit words status.SinkFailed old new before after path plan did accepted)

-- a path that the plan's mode can't open ends with 8, unless the source failed or memory ran out
pub path_found : (code : ℕ) (words : List (List ℕ)) (old new : SourceView) (before after : Outside) (path : List ℕ) (plan : OpenPlan) → Ends code words old new before after → IsAcceptedAt path plan (command_of words) → TellsWellFormed old → IsTrue before.opener.tells → misses (raw_mode plan) (before.opener.holds path) ≡ true → (code ≡ 8) ⊎ ((code ≡ 5) ⊎ (code ≡ 7))
path_found code words old new before after path plan ends accepted well tells missed = found_by code ends.ended words old new before after path plan ends.code_is ends.outcome accepted well tells missed
