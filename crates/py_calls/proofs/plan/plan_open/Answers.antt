use Rattle.std.proofs.Common.{◌≡◌, Ok, None, subst, rules}
use Rattle.py_calls.specs.declared.mode.EncodeMode.TheVariants.{Text}
use Rattle.py_calls.specs.Mode.{mode_of}
use Rattle.py_calls.specs.Plan.{refused_early}
use Rattle.py_calls.specs.Planned.{TextOutcome}
use Rattle.py_calls.proofs.Planning.{plans_text}
use Rattle.py_calls.proofs.plan.plan_open.Goals as goal

pub returns-in_ok-kind-in-Text : goal.returns-in_ok-kind-in-Text
returns-in_ok-kind-in-Text g c =
    let named : mode_of c.args.mode.now ≡ Ok c.in_ok-mode.mode = grind rules in
    let early : refused_early c.in_ok-mode.mode c.args.args.now ≡ None = grind rules in
    let text : c.in_ok-mode.mode.encode ≡ Text = c.in-Text.is in
    let made : c.text_kind.result ≡ Ok c.in_ok-kind-in-Text.kind = grind rules in
    plans_text g.S.SearchFunction.finds c.args.registry.now c.text_kind.new.registry c.args.mode.now c.args.args.now c.in_ok-mode.mode c.in_ok-kind-in-Text.kind named early text
    (subst (λ (result : _). TextOutcome g.S.SearchFunction.finds c.args.registry.now c.in_ok-mode.mode c.args.args.now result c.text_kind.new.registry) made c.text_kind.ensures)
