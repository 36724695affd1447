-- A run in which nothing went wrong does what the model says.
use Rattle.std.proofs.Common.{◌≡◌, ◌≢◌, ℕ, ◌⊎◌, inl, inr, ◌≤◌, true, false, IsTrue, List, length, Option, Some, None, Result, Ok, IsErr, refl, sym, ◌∙◌, subst, arith}
use Rattle.py_flat.specs.declared.fault.IoFault.{IoFault}
use Rattle.py_raw.specs.Source.{SourceView}
use Rattle.py_calls.specs.declared.call.Call.{Call}
use Rattle.py_calls.specs.declared.open_args.OpenArgs.{OpenArgs}
use Rattle.py_calls.specs.declared.plan.OpenPlan.{OpenPlan}
use Rattle.py_calls.specs.Plan.{built_in_plan}
use Rattle.py_open.proofs.Runs.{smooth_settles}
use Rattle.py_script.specs.CommandWords.{Command, Run, command_of}
use Rattle.py_script.specs.Script.{script_calls}
use Rattle.py_raw.specs.Opener.{opened_bytes}
use Rattle.py_program.specs.Outside.{script_limit, IsMalformed}
use Rattle.py_open.specs.Paths.{raw_mode}
use Rattle.py_program.specs.Outcome.{Outside, closed_calls, Ends}
use Rattle.py_program.specs.Meaning.{NothingFails, IsRefusedPlan, MayNotMove, KeepsOthers, SettlesAtPath, TellsCalls, IsSmoothOutside, DoesAsTheModel}
use Rattle.py_program.proofs.Ending.{others_kept}
use Rattle.py_program.proofs.Exact.{prints_settled}

-- a script that is short and has calls isn't malformed
well_formed : (script : List ℕ) (calls : List Call) → length script ≤ script_limit → script_calls script ≡ Some calls → ¬ IsMalformed script
well_formed script calls short form (inl long) = omega arith
well_formed script calls short form (inr none) = let wrong : Some calls ≡ None = sym form ∙ none in absurd (cc)

-- an opening that the plan accepts is none that it refuses
accepted_plan : (command : Option Command) (path mode : List ℕ) (args : OpenArgs) (plan : OpenPlan) → command ≡ Some (Run path mode args) → built_in_plan mode args ≡ Ok plan → ¬ IsRefusedPlan command
accepted_plan command path mode args plan form accepted refused =
    let asked : IsErr (built_in_plan mode args) = subst IsRefusedPlan form refused in
    absurd (let wrong : IsErr {T = OpenPlan} {E = IoFault} (Ok plan) = subst (λ (planned : Result OpenPlan IoFault). IsErr planned) accepted asked in cc)

-- with the number 0 all is as the model says
done_as_model : (words : List (List ℕ)) (old new : SourceView) (before after : Outside) (path mode : List ℕ) (args : OpenArgs) (plan : OpenPlan) (calls : List Call) → Ends 0 words old new before after → command_of words ≡ Some (Run path mode args) → built_in_plan mode args ≡ Ok plan → TellsCalls old calls → IsTrue before.opener.tells → IsSmoothOutside old new before after → DoesAsTheModel 0 path plan calls before after
done_as_model words old new before after path mode args plan calls ends form accepted script tells smooth =
    let printed = prints_settled smooth_settles words old new before after path mode args plan ends form accepted script.told tells (record { faults = smooth.fails.raws; waits = smooth.waits }) in
    let same : printed.calls ≡ calls = let both : Some printed.calls ≡ Some calls = sym printed.form ∙ script.form in cc in
    record {
      done = refl;
      replies = printed.replies;
      prints = printed.prints;
      says = λ memory. subst (λ (made : List Call). SettlesAtPath path plan (opened_bytes (raw_mode plan) (before.opener.holds path)) (closed_calls made) printed.replies after.opener) same (printed.says memory);
      others = subst (λ (command : Option Command). KeepsOthers command before.opener after.opener) form (others_kept 0 words old new before after ends tells);
    }

-- of well-formed words, where no plan refuses and nothing fails, the number is 0, 3 or 7, or 4 of an opener that doesn't tell; with 3 the
-- script is malformed
pub does_as_model : (code : ℕ) (words : List (List ℕ)) (old new : SourceView) (before after : Outside) → Ends code words old new before after
    → (command_of words ≢ None → ¬ IsRefusedPlan (command_of words) → NothingFails old new before after → (code ≡ 0) ⊎ ((code ≡ 3) ⊎ ((code ≡ 7) ⊎ ((code ≡ 4) × MayNotMove before.opener (command_of words)))))
    → (code ≡ 3 → IsTrue old.tells → IsMalformed old.left)
    → (path mode : List ℕ) (args : OpenArgs) (plan : OpenPlan) (calls : List Call) → command_of words ≡ Some (Run path mode args) → built_in_plan mode args ≡ Ok plan → TellsCalls old calls → IsTrue before.opener.tells → IsSmoothOutside old new before after → code ≢ 7 → DoesAsTheModel code path plan calls before after
does_as_model code words old new before after ends complete malformed path mode args plan calls form accepted script tells smooth had =
    elim (complete (λ none. let wrong : Some (Run path mode args) ≡ None = sym form ∙ none in absurd (cc)) (accepted_plan (command_of words) path mode args plan form accepted) smooth.fails) [
      | inl is ↦ subst (λ (number : ℕ). DoesAsTheModel number path plan calls before after) (sym is) (done_as_model words old new before after path mode args plan calls (subst (λ (number : ℕ). Ends number words old new before after) is ends) form accepted script tells smooth)
      | inr (inl is) ↦ absurd (well_formed old.left calls script.short script.form (malformed is script.told))
      | inr (inr (inl is)) ↦ absurd (had is)
      | inr (inr (inr still)) ↦ let both : true ≡ false = sym tells ∙ still.1.0 in absurd (cc)
    ]
