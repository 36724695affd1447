use Rattle.std.proofs.Common.{inl, inr}
use Rattle.std.proofs.lemmas.Bool.{or_left}
use Rattle.py_flat.specs.AllowedStep.{settled, out_of_memory}
use Rattle.py_plain_text.proofs.TextSteps.{exact-settles, leaves_starved}
use Rattle.py_plain_text.proofs.laws.plain_steps.Goals as goal

pub returns : goal.returns
returns c = λ before call reply after step.
    elim step [ inl starved ↦ out_of_memory starved.0 (inl (or_left _ _ (or_left _ _ starved.1), leaves_starved before after call starved.2)) | inr exact ↦ settled (exact-settles before call reply after exact) ]
