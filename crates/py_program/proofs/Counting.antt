-- What the program leaves of its opener's counts: none falls, and one raw at most is opened.
use Rattle.std.proofs.Common.{◌≡◌, ℕ, ◌⊎◌, inl, inr, true, false, IsTrue, List, Option, Some, None, Ok, Err, refl, sym, ◌∙◌, ap, subst, arith}
use Rattle.py_flat.specs.Causes.{counted}
use Rattle.py_raw.specs.Source.{SourceView}
use Rattle.py_raw.specs.Opener.{OpenerView}
use Rattle.py_calls.specs.declared.call.Call.{Call}
use Rattle.py_calls.specs.declared.open_args.OpenArgs.{OpenArgs}
use Rattle.py_calls.specs.declared.plan.OpenPlan.{OpenPlan}
use Rattle.py_calls.specs.Plan.{built_in_plan}
use Rattle.py_script.specs.CommandWords.{Command, Run, Help, Version, command_of}
use Rattle.py_program.specs.declared.status.Status.{Status}
use Rattle.py_program.specs.declared.status.Status.TheVariants as status
use Rattle.py_program.specs.Status.{code_of}
use Rattle.py_program.specs.Outcome.{Outside, Asked, asked_by, own_text, OpensPath, OpensNothing, OpenerFails, LacksMemory, CallsOutcome, PlannedOutcome, RunsScript, PrintsText, Outcome, Ends}
use Rattle.py_program.specs.Meaning.{IsAcceptedAt, CountsNeverFall, OpensNone, OpensOne}
use Rattle.py_program.proofs.Ending.{accepted_path}

-- what became of the counts of an opener
abbrev pub Counts : OpenerView → OpenerView → Type 0
Counts old new = CountsNeverFall old new × (OpensNone old new ⊎ OpensOne old new)

fall_none : (opener : OpenerView) → CountsNeverFall opener opener
fall_none opener = record { faults = omega arith; raw_faults = omega arith; raw_waits = omega arith }

none_same : (old new : OpenerView) → new ≡ old → OpensNone old new
none_same old new same = record { opened = ap (λ (opener : OpenerView). opener.opened) same; taken_back = ap (λ (opener : OpenerView). opener.taken_back) same }

-- an opener that wasn't called
counts_same : (old new : OpenerView) → new ≡ old → Counts old new
counts_same old new same = (subst (λ (opener : OpenerView). CountsNeverFall old opener) (sym same) (fall_none old), inl (none_same old new same))

outside_same : (before after : Outside) → after ≡ before → after.opener ≡ before.opener
outside_same before after same = ap (λ (outside : Outside). outside.opener) same

-- an opening that was refused
none_opened : (before after : Outside) → OpensNothing before after → after.opener.opened ≡ before.opener.opened → OpensNone before.opener after.opener
none_opened before after nothing same = record { opened = same; taken_back = nothing.keeps.taken_back }

counts_none : (before after : Outside) → OpensNothing before after → after.opener.opened ≡ before.opener.opened → Counts before.opener after.opener
counts_none before after nothing same =
    let faults = nothing.keeps.raw_faults in
    let waits = nothing.keeps.raw_waits in
    (record { faults = nothing.keeps.faults; raw_faults = omega arith; raw_waits = omega arith }, inl (none_opened before after nothing same))

-- a path that was opened, and whose raw was put away
one_opened : (path : List ℕ) (asked : Asked) (ended : Status) (before after : Outside) → OpensPath path asked ended before after → OpensOne before.opener after.opener
one_opened path asked ended before after opened = record {
  opened = opened.done_keeps.opened ∙ opened.opens.counted;
  taken_back = opened.done_keeps.taken_back ∙ ap (λ (count : ℕ). counted count 1) opened.open_keeps.taken_back;
}

counts_one : (path : List ℕ) (asked : Asked) (ended : Status) (before after : Outside) → OpensPath path asked ended before after → Counts before.opener after.opener
counts_one path asked ended before after opened =
    let first = opened.open_keeps.faults in
    let second = opened.done_keeps.faults in
    let faults = opened.open_keeps.raw_faults in
    let more_faults = opened.done_keeps.keeps_raw_faults in
    let waits = opened.open_keeps.raw_waits in
    let more_waits = opened.done_keeps.keeps_raw_waits in
    (record { faults = omega arith; raw_faults = omega arith; raw_waits = omega arith }, inr (one_opened path asked ended before after opened))

-- By the status.

opener_counts : (path : List ℕ) (asked : Asked) (before after : Outside) → OpenerFails path asked before after → Counts before.opener after.opener
opener_counts path asked before after (inl refused) = counts_none before after refused.0 refused.1.none
opener_counts path asked before after (inr opened) = counts_one path asked status.Done before after opened.0

memory_counts : (path : List ℕ) (asked : Asked) (before after : Outside) → LacksMemory path asked before after → Counts before.opener after.opener
memory_counts path asked before after (inl opened) = counts_one path asked status.NoMemory before after opened
memory_counts path asked before after (inr (inl opened)) = counts_one path asked status.Done before after opened
memory_counts path asked before after (inr (inr none)) = counts_none before after none.0 none.1.none

calls_counts : (path : List ℕ) (asked : Asked) (ended : Status) (before after : Outside) → CallsOutcome path asked ended before after → Counts before.opener after.opener
calls_counts path asked status.Done before after did = counts_one path asked status.Done before after did
calls_counts path asked status.Refused before after did = counts_one path asked status.Refused before after did
calls_counts path asked status.SinkFailed before after did = counts_one path asked status.SinkFailed before after did
calls_counts path asked status.NoMemory before after did = memory_counts path asked before after did
calls_counts path asked status.OpenerFailed before after did = opener_counts path asked before after did
calls_counts path asked status.WordsMalformed before after did = absurd did
calls_counts path asked status.ScriptMalformed before after did = absurd did
calls_counts path asked status.SourceFailed before after did = absurd did

script_counts : (words : List (List ℕ)) (ended : Status) (old new : SourceView) (before after : Outside) → RunsScript words ended old new before after → Counts before.opener after.opener
script_counts words ended old new before after did =
    elim did.does [
      | inl refused ↦ counts_same before.opener after.opener refused.opener
      | inr follows ↦ calls_counts did.path (asked_by follows.plan did.calls) ended before after follows.does
    ]

counts_by : (ended : Status) (words : List (List ℕ)) (old new : SourceView) (before after : Outside) → Outcome ended words old new before after → Counts before.opener after.opener
counts_by status.WordsMalformed words old new before after did = counts_same before.opener after.opener (outside_same before after did.1.same)
counts_by status.ScriptMalformed words old new before after did = counts_same before.opener after.opener (outside_same before after did.0.same)
counts_by status.SourceFailed words old new before after did = counts_same before.opener after.opener (outside_same before after did.0.same)
counts_by status.OpenerFailed words old new before after did = script_counts words status.OpenerFailed old new before after did
counts_by status.Refused words old new before after did = script_counts words status.Refused old new before after did
counts_by status.Done words old new before after (inl did) = script_counts words status.Done old new before after did
counts_by status.Done words old new before after (inr text) = counts_same before.opener after.opener text.opener
counts_by status.SinkFailed words old new before after (inl did) = script_counts words status.SinkFailed old new before after did
counts_by status.SinkFailed words old new before after (inr text) = counts_same before.opener after.opener text.opener
counts_by status.NoMemory words old new before after (inl none) = counts_same before.opener after.opener (outside_same before after none.same)
counts_by status.NoMemory words old new before after (inr (inl read)) = counts_same before.opener after.opener (outside_same before after read.same)
counts_by status.NoMemory words old new before after (inr (inr did)) = script_counts words status.NoMemory old new before after did

-- no count falls, and one raw at most was opened, which then was taken back
pub all_counts : (code : ℕ) (words : List (List ℕ)) (old new : SourceView) (before after : Outside) → Ends code words old new before after → Counts before.opener after.opener
all_counts code words old new before after ends = counts_by ends.ended words old new before after ends.outcome

-- One raw.

-- a text of the program's own is none of a run
no_text_accepted : (command : Command) (text path : List ℕ) (plan : OpenPlan) → own_text command ≡ Some text → ¬ IsAcceptedAt path plan (Some command)
no_text_accepted Help text path plan own accepted = accepted
no_text_accepted Version text path plan own accepted = accepted
no_text_accepted (Run named mode args) text path plan own accepted = let wrong : None ≡ Some text = own in absurd (cc)

text_unopened : (words : List (List ℕ)) (ended : Status) (old new : SourceView) (before after : Outside) (path : List ℕ) (plan : OpenPlan) → PrintsText words ended old new before after → ¬ IsAcceptedAt path plan (command_of words)
text_unopened words ended old new before after path plan did accepted = no_text_accepted did.command did.text path plan did.asked (subst (λ (command : Option Command). IsAcceptedAt path plan command) did.form accepted)

-- a status with which the path was opened
abbrev pub IsOpening : Status → Type 0
IsOpening status.Done = Unit {0}
IsOpening status.Refused = Unit {0}
IsOpening status.SinkFailed = Unit {0}
IsOpening ended = ⊥

calls_one : (path : List ℕ) (asked : Asked) (ended : Status) (before after : Outside) → IsOpening ended → CallsOutcome path asked ended before after → OpensOne before.opener after.opener
calls_one path asked status.Done before after is did = one_opened path asked status.Done before after did
calls_one path asked status.Refused before after is did = one_opened path asked status.Refused before after did
calls_one path asked status.SinkFailed before after is did = one_opened path asked status.SinkFailed before after did
calls_one path asked ended before after is did = absurd is

planned_one : (path mode : List ℕ) (args : OpenArgs) (plan : OpenPlan) (calls : List Call) (ended : Status) (before after : Outside) → IsOpening ended → built_in_plan mode args ≡ Ok plan → PlannedOutcome path mode args calls ended before after → OpensOne before.opener after.opener
planned_one path mode args plan calls ended before after is accepted (inl refuses) = let both : Ok plan ≡ Err refuses.refused = sym accepted ∙ refuses.planned in absurd (cc)
planned_one path mode args plan calls ended before after is accepted (inr follows) = calls_one path (asked_by follows.plan calls) ended before after is follows.does

script_one : (words : List (List ℕ)) (ended : Status) (old new : SourceView) (before after : Outside) (path : List ℕ) (plan : OpenPlan) → IsOpening ended → IsAcceptedAt path plan (command_of words) → RunsScript words ended old new before after → OpensOne before.opener after.opener
script_one words ended old new before after path plan is accepted did =
    planned_one did.path did.mode did.args plan did.calls ended before after is (accepted_path path did.path did.mode did.args plan (command_of words) did.form accepted).1 did.does

one_by : (ended : Status) (words : List (List ℕ)) (old new : SourceView) (before after : Outside) (path : List ℕ) (plan : OpenPlan) → (code_of ended ≡ 0) ⊎ ((code_of ended ≡ 4) ⊎ (code_of ended ≡ 6)) → IsAcceptedAt path plan (command_of words) → Outcome ended words old new before after → OpensOne before.opener after.opener
one_by status.Done words old new before after path plan is accepted (inl did) = script_one words status.Done old new before after path plan tt accepted did
one_by status.Done words old new before after path plan is accepted (inr text) = absurd (text_unopened words status.Done old new before after path plan text accepted)
one_by status.SinkFailed words old new before after path plan is accepted (inl did) = script_one words status.SinkFailed old new before after path plan tt accepted did
one_by status.SinkFailed words old new before after path plan is accepted (inr text) = absurd (text_unopened words status.SinkFailed old new before after path plan text accepted)
one_by status.Refused words old new before after path plan is accepted did = script_one words status.Refused old new before after path plan tt accepted did
one_by status.WordsMalformed words old new before after path plan is accepted did = absurd (omega arith)
one_by status.ScriptMalformed words old new before after path plan is accepted did = absurd (omega arith)
one_by status.SourceFailed words old new before after path plan is accepted did = absurd (omega arith)
one_by status.NoMemory words old new before after path plan is accepted did = absurd (omega arith)
one_by status.OpenerFailed words old new before after path plan is accepted did = absurd (omega arith)

-- with the numbers 0, 4 and 6 of a run whose opening the plan accepts one raw was opened, and taken back
pub opens_one : (code : ℕ) (words : List (List ℕ)) (old new : SourceView) (before after : Outside) → Ends code words old new before after → (path : List ℕ) (plan : OpenPlan) → IsAcceptedAt path plan (command_of words) → (code ≡ 0) ⊎ ((code ≡ 4) ⊎ (code ≡ 6)) → OpensOne before.opener after.opener
opens_one code words old new before after ends path plan accepted (inl is) = one_by ends.ended words old new before after path plan (inl (sym ends.code_is ∙ is)) accepted ends.outcome
opens_one code words old new before after ends path plan accepted (inr (inl is)) = one_by ends.ended words old new before after path plan (inr (inl (sym ends.code_is ∙ is))) accepted ends.outcome
opens_one code words old new before after ends path plan accepted (inr (inr is)) = one_by ends.ended words old new before after path plan (inr (inr (sym ends.code_is ∙ is))) accepted ends.outcome

-- No raw.

failed_none : (path mode : List ℕ) (args : OpenArgs) (calls : List Call) (before after : Outside) → IsTrue before.opener.tells → PlannedOutcome path mode args calls status.OpenerFailed before after → OpensNone before.opener after.opener
failed_none path mode args calls before after tells (inl refuses) = absurd refuses.prints
failed_none path mode args calls before after tells (inr follows) =
    elim follows.does [
      | inl refused ↦ none_opened before after refused.0 refused.1.none
      | inr opened ↦ absurd (let both : true ≡ false = sym tells ∙ opened.2 in cc)
    ]

-- a number is none of those with which nothing is opened
opening_code : (code : ℕ) (Tells : Type 0) → (code ≡ 0) ⊎ ((code ≡ 4) ⊎ ((code ≡ 6) ⊎ (code ≡ 7))) → (code ≡ 2) ⊎ ((code ≡ 3) ⊎ ((code ≡ 5) ⊎ ((code ≡ 8) × Tells))) → ⊥
opening_code code Tells is (inl two) = omega arith
opening_code code Tells is (inr (inl three)) = omega arith
opening_code code Tells is (inr (inr (inl five))) = omega arith
opening_code code Tells is (inr (inr (inr eight))) = let number : code ≡ 8 = eight.0 in omega arith

none_by : (ended : Status) (words : List (List ℕ)) (old new : SourceView) (before after : Outside) → (code_of ended ≡ 2) ⊎ ((code_of ended ≡ 3) ⊎ ((code_of ended ≡ 5) ⊎ ((code_of ended ≡ 8) × IsTrue before.opener.tells))) → Outcome ended words old new before after → OpensNone before.opener after.opener
none_by status.WordsMalformed words old new before after is did = none_same before.opener after.opener (outside_same before after did.1.same)
none_by status.ScriptMalformed words old new before after is did = none_same before.opener after.opener (outside_same before after did.0.same)
none_by status.SourceFailed words old new before after is did = none_same before.opener after.opener (outside_same before after did.0.same)
none_by status.OpenerFailed words old new before after (inr (inr (inr is))) did = failed_none did.path did.mode did.args did.calls before after is.1 did.does
none_by status.OpenerFailed words old new before after (inl is) did = absurd (omega arith)
none_by status.OpenerFailed words old new before after (inr (inl is)) did = absurd (omega arith)
none_by status.OpenerFailed words old new before after (inr (inr (inl is))) did = absurd (omega arith)
none_by status.Done words old new before after is did = absurd (opening_code 0 (IsTrue before.opener.tells) (inl refl) is)
none_by status.Refused words old new before after is did = absurd (opening_code 4 (IsTrue before.opener.tells) (inr (inl refl)) is)
none_by status.SinkFailed words old new before after is did = absurd (opening_code 6 (IsTrue before.opener.tells) (inr (inr (inl refl))) is)
none_by status.NoMemory words old new before after is did = absurd (opening_code 7 (IsTrue before.opener.tells) (inr (inr (inr refl))) is)

-- with the numbers 2, 3 and 5, and with 8 of an opener that tells, no raw was opened
pub opens_none : (code : ℕ) (words : List (List ℕ)) (old new : SourceView) (before after : Outside) → Ends code words old new before after → (code ≡ 2) ⊎ ((code ≡ 3) ⊎ ((code ≡ 5) ⊎ ((code ≡ 8) × IsTrue before.opener.tells))) → OpensNone before.opener after.opener
opens_none code words old new before after ends (inl is) = none_by ends.ended words old new before after (inl (sym ends.code_is ∙ is)) ends.outcome
opens_none code words old new before after ends (inr (inl is)) = none_by ends.ended words old new before after (inr (inl (sym ends.code_is ∙ is))) ends.outcome
opens_none code words old new before after ends (inr (inr (inl is))) = none_by ends.ended words old new before after (inr (inr (inl (sym ends.code_is ∙ is)))) ends.outcome
opens_none code words old new before after ends (inr (inr (inr is))) = none_by ends.ended words old new before after (inr (inr (inr (sym ends.code_is ∙ is.0, is.1)))) ends.outcome
