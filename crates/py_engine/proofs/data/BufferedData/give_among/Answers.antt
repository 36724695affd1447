use Rattle.std.proofs.Common.{ap, ◌∙◌, subst, arith}
use Rattle.std.proofs.lemmas.Result.{err_from_is_err_and}
use Rattle.py_window.specs.Window.{place_of}
use Rattle.py_engine.specs.Engine.{EngineView, Stands}
use Rattle.py_engine.proofs.RandomWriting.{given_not, given_past, begun_gives}
use Rattle.py_engine.proofs.data.BufferedData.give_among.Goals as goal

pub returns-in_err-begin-clause-outcome : goal.returns-in_err-begin-clause-outcome
returns-in_err-begin-clause-outcome g c =
    let left = err_from_is_err_and c.from_residual.result c.from_residual.ensures.1 in
    rw (left.1, left.2) (given_not c.args.self.now c.begin.new.self c.args.given c.in_err-begin.field-0.0 (subst Stands c.self.view_is c.self.invariant) c.in_err-begin.ensures)

pub returns-in-None-clause-outcome : goal.returns-in-None-clause-outcome
returns-in-None-clause-outcome g c =
    given_past c.args.self.now c.begin.new.self c.args.given (subst Stands c.self.view_is c.self.invariant) (c.is_behind.ensures.no c.if-is_behind.false) c.in_ok-begin.ensures
    (omega (arith, (c.place-place.ensures.place ∙ ap (λ (engine : EngineView). place_of engine.window) c.self-2.view_is), c.in-None.ensures))

pub returns-in-Some-clause-outcome : goal.returns-in-Some-clause-outcome
returns-in-Some-clause-outcome g c = begun_gives c.args.self.now c.begin.new.self c.give_placed.new.self c.args.given c.give_placed.result c.in_ok-begin.ensures c.give_placed.ensures.outcome
