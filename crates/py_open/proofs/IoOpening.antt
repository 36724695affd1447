-- Over an opener that tells, a path's opening fails by the opener exactly where that misses the path.
use Rattle.std.proofs.Common.{◌≡◌, ◌⊎◌, inl, inr, ℕ, IsTrue, true, false, List, Option, Some, None, Result, Ok, Err, refl, sym, ◌∙◌, ap, subst}
use Rattle.py_flat.specs.declared.fault.IoFault.{IoFault}
use Rattle.py_flat.specs.declared.fault.IoFault.TheVariants as fault
use Rattle.py_raw.specs.RawStream.{Raw}
use Rattle.py_raw.specs.Opener.{OpenerView, Opens, misses}
use Rattle.py_registry.specs.declared.codec.PyCodec.{PyCodec}
use Rattle.py_registry.specs.Machine.{Machine}
use Rattle.py_calls.specs.declared.open_args.OpenArgs.{OpenArgs}
use Rattle.py_calls.specs.declared.plan.OpenPlan.{OpenPlan}
use Rattle.py_calls.specs.Plan.{plan_of}
use Rattle.py_open.specs.declared.open_failed.OpenFailed.{OpenFailed}
use Rattle.py_open.specs.declared.open_failed.OpenFailed.TheVariants as failed
use Rattle.py_open.specs.Session.{SessionView}
use Rattle.py_open.specs.Paths.{raw_mode, PathOutcome, IoOpenOutcome, FailsWhereMissed}

-- a path that was opened isn't missed
not_missed : (before : OpenerView) (path : List ℕ) (plan : OpenPlan) (raw : Raw) (after : OpenerView) → Opens before path (raw_mode plan) raw after → IsTrue before.tells → misses (raw_mode plan) (before.holds path) ≡ true → ⊥
not_missed before path plan raw after opens tells missed = let both : true ≡ false = sym missed ∙ (opens.told tells).found in cc

missed_by : {R : Type 0} (shows : R → Raw) (before : OpenerView) (path : List ℕ) (plan : OpenPlan) (result : Result SessionView (OpenFailed R)) (after : OpenerView) → PathOutcome shows before path plan result after → IsTrue before.tells → misses (raw_mode plan) (before.holds path) ≡ true → result ≡ Err failed.Opener
missed_by shows before path plan (Ok session) after opened tells missed = absurd (not_missed before path plan opened.raw after opened.opens tells missed)
missed_by shows before path plan (Err (failed.Refused why (Some back))) after hands tells missed = absurd (not_missed before path plan hands.raw after hands.opens tells missed)
missed_by shows before path plan (Err (failed.Refused why None)) after lacks tells missed = let both : true ≡ false = sym missed ∙ lacks.1.found tells in absurd (cc)
missed_by shows before path plan (Err failed.Opener) after fails tells missed = refl

pub fails_where_missed : {S H R : Type 0} (finds : S → List ℕ → Option (PyCodec S)) (registry : Machine S H) (shows : R → Raw) (before : OpenerView) (path mode : List ℕ) (args : OpenArgs) (result : Result SessionView (OpenFailed R)) (after : OpenerView) (left : Machine S H) → IoOpenOutcome finds registry shows before path mode args result after left → IsTrue before.tells → FailsWhereMissed finds registry before path mode args result
fails_where_missed finds registry shows before path mode args result after left (inl refused) tells = record {
  only = λ failed_is. let both : Err failed.Opener ≡ Err (failed.Refused refused.why None) = sym failed_is ∙ refused.says in absurd (cc);
  where_missed = λ plan planned missed.
      elim refused.plan [
        | inl refuses ↦ let both : Ok plan ≡ Err refused.why = sym planned ∙ refuses in absurd (cc)
        | inr lacks ↦ inr (refused.says ∙ ap (λ (why : IoFault). Err (failed.Refused why None)) lacks.0, lacks.1)
      ];
}
fails_where_missed finds registry shows before path mode args result after left (inr opens) tells = record {
  only = λ failed_is.
      let fails = subst (λ (is : Result SessionView (OpenFailed _)). PathOutcome shows before path opens.plan is after) failed_is opens.outcome in
      (opens.plan, opens.accepts.planned, fails.missed tells);
  where_missed = λ plan planned missed.
      let both : Ok opens.plan ≡ Ok plan = sym opens.accepts.planned ∙ planned in
      let same : opens.plan ≡ plan = cc in
      inl (missed_by shows before path plan result after (subst (λ (by : OpenPlan). PathOutcome shows before path by result after) same opens.outcome) tells missed);
}
