use Rattle.std.proofs.Common.{◌≡◌, ℕ, List, [], ◌∷◌, Option, Some, None, unwrap_or, option_map, Err, Bor, inl, refl, ap, ◌∙◌, subst, codes}
use Rattle.py_open.specs.declared.open_failed.OpenFailed.TheVariants as failed
use Rattle.py_open.specs.Paths.{mode_or_r, IoOpenOutcome}
use Rattle.py_open.proofs.paths.io_open.Goals as goal

-- the mode that is planned, without one `r`
mode_is : (mode : Option (Bor (List ℕ))) (asked other : Bor (List ℕ)) → asked ≡ unwrap_or mode other → other.now ≡ codes "r" → asked.now ≡ mode_or_r (option_map (λ (text : Bor (List ℕ)). text.now) mode)
mode_is None asked other is letter = ap (λ (text : Bor (List ℕ)). text.now) is ∙ letter
mode_is (Some mode) asked other is letter = ap (λ (text : Bor (List ℕ)). text.now) is

pub returns-in-Err-clause-outcome : goal.returns-in-Err-clause-outcome
returns-in-Err-clause-outcome g c =
    subst (λ (mode : List ℕ). IoOpenOutcome g.S.SearchFunction.finds c.args.registry.now g.O.Raw.RawStream.shows (g.O.Opener.shows c.args.opener.now) c.args.path.now mode c.args.args.now (Err (failed.Refused c.in-Err.fault None)) (g.O.Opener.shows c.args.opener.now) c.plan_open.new.registry)
    (mode_is c.args.mode c.unwrap_or.result _ c.unwrap_or.ensures refl)
    (inl (record { why = c.in-Err.fault; says = refl; plan = c.in-Err.ensures.0; opener = refl; registry_same = c.in-Err.ensures.1 }))
