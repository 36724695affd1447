-- What holds of a plan that is accepted, and of one that refuses.
use Rattle.std.proofs.Common.{◌≡◌, ℕ, inl, List, Result, Ok, Err, MatchResult, refl, sym, ◌∙◌, subst}
use Rattle.py_flat.specs.declared.fault.IoFault.{IoFault}
use Rattle.py_raw.specs.Sink.{SinkView}
use Rattle.py_raw.specs.Opener.{OpenerView}
use Rattle.py_calls.specs.declared.call.Call.{Call}
use Rattle.py_calls.specs.declared.open_args.OpenArgs.{OpenArgs}
use Rattle.py_calls.specs.declared.plan.OpenPlan.{OpenPlan}
use Rattle.py_calls.specs.Plan.{built_in_plan}
use Rattle.py_script.specs.Faults.{refused_line}
use Rattle.py_program.specs.declared.status.Status.{Status}
use Rattle.py_program.specs.declared.status.Status.TheVariants as status
use Rattle.py_program.specs.Outside.{PrintOutcome}
use Rattle.py_program.specs.Outcome.{RefusalPrinted, RefusesPlan, PlannedOutcome}

-- a mode and arguments have one plan
pub one_plan : (result : Result OpenPlan IoFault) (first second : OpenPlan) → result ≡ Ok first → result ≡ Ok second → first ≡ second
one_plan result first second one two = let both : Ok first ≡ Ok second = sym one ∙ two in cc

-- A plan that refuses.

refuses : (mode : List ℕ) (args : OpenArgs) (refused : IoFault) (opener : OpenerView) (old new : SinkView) (ended : Status) → built_in_plan mode args ≡ Err refused → RefusalPrinted refused ended old new → RefusesPlan mode args ended (record { opener = opener; sink = old }) (record { opener = opener; sink = new })
refuses mode args refused opener old new ended planned prints = record { refused = refused; planned = planned; opener = refl; prints = prints }

printed_refusal : (refused : IoFault) (old new : SinkView) (printed : Result (Unit {0}) Status) (ended : Status) → PrintOutcome old (refused_line refused) printed new → MatchResult printed (λ done. ended ≡ status.Refused) (λ stop. ended ≡ stop) → RefusalPrinted refused ended old new
printed_refusal refused old new (Ok done) ended prints is = subst (λ (last : Status). RefusalPrinted refused last old new) (sym is) prints
printed_refusal refused old new (Err status.SinkFailed) ended prints is = subst (λ (last : Status). RefusalPrinted refused last old new) (sym is) prints
printed_refusal refused old new (Err status.NoMemory) ended prints is = subst (λ (last : Status). RefusalPrinted refused last old new) (sym is) prints
printed_refusal refused old new (Err status.Done) ended prints is = absurd prints
printed_refusal refused old new (Err status.WordsMalformed) ended prints is = absurd prints
printed_refusal refused old new (Err status.ScriptMalformed) ended prints is = absurd prints
printed_refusal refused old new (Err status.Refused) ended prints is = absurd prints
printed_refusal refused old new (Err status.SourceFailed) ended prints is = absurd prints
printed_refusal refused old new (Err status.OpenerFailed) ended prints is = absurd prints

-- an opening that the plan refuses had its refusal printed, or a front of it
pub plan_refused : (path mode : List ℕ) (args : OpenArgs) (calls : List Call) (refused : IoFault) (opener : OpenerView) (old new : SinkView) (printed : Result (Unit {0}) Status) (ended : Status) → built_in_plan mode args ≡ Err refused → PrintOutcome old (refused_line refused) printed new → MatchResult printed (λ done. ended ≡ status.Refused) (λ stop. ended ≡ stop) → PlannedOutcome path mode args calls ended (record { opener = opener; sink = old }) (record { opener = opener; sink = new })
plan_refused path mode args calls refused opener old new printed ended planned prints is =
    inl (refuses mode args refused opener old new ended planned (printed_refusal refused old new printed ended prints is))
