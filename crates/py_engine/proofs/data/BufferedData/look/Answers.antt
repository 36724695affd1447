use Rattle.std.proofs.Common.{refl, ap, ◌∙◌, subst}
use Rattle.std.proofs.lemmas.Result.{err_from_is_err_and}
use Rattle.py_flat.specs.Calls.{Peek}
use Rattle.py_engine.specs.Engine.{EngineView, Stands}
use Rattle.py_engine.proofs.Random.{begins_not, look_once}
use Rattle.py_engine.proofs.Ahead.{look_lends}
use Rattle.py_engine.proofs.data.BufferedData.look.Goals as goal

pub returns-in_err-begin-clause-answers : goal.returns-in_err-begin-clause-answers
returns-in_err-begin-clause-answers g c =
    let left = err_from_is_err_and c.from_residual.result c.from_residual.ensures.1 in
    rw (left.1, left.2) (begins_not c.args.self.now c.begin.new.self Peek c.in_err-begin.field-0.0 refl (subst Stands c.self.view_is c.self.invariant) c.in_err-begin.ensures)

pub returns-clause-answers : goal.returns-clause-answers
returns-clause-answers g c = look_once c.args.self.now c.begin.new.self c.has_some-shown.new.self c.has_some-shown.result c.in_ok-begin.ensures (rw (c.size-size.ensures.size ∙ ap (λ (engine : EngineView). engine.window.size) c.self-2.view_is) at c.has_some-shown.ensures)

pub returns-clause-lends : goal.returns-clause-lends
returns-clause-lends g c = look_lends c.args.self.now c.begin.new.self c.has_some-shown.new.self c.has_some-shown.result (subst Stands c.self-3.view_is c.self-3.invariant) c.in_ok-begin.ensures (rw (c.size-size.ensures.size ∙ ap (λ (engine : EngineView). engine.window.size) c.self-2.view_is) at c.has_some-shown.ensures)
