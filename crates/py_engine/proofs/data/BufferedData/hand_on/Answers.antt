use Rattle.std.proofs.Common.{Err, subst}
use Rattle.std.proofs.lemmas.Result.{err_from_is_err_and}
use Rattle.py_engine.specs.Engine.{EngineView, stream_of}
use Rattle.py_engine.specs.Passing.{HandOnOutcome}
use Rattle.py_engine.proofs.Stepping.{engine_of, hands_some, hands_none, hands_not}
use Rattle.py_engine.proofs.data.BufferedData.hand_on.Goals as goal

pub returns-in_err-count-clause-outcome : goal.returns-in_err-count-clause-outcome
returns-in_err-count-clause-outcome g c =
    let left = err_from_is_err_and c.from_residual.result c.from_residual.ensures.1 in
    let needs = rw (← c.self.view_is) at c.requires in
    rw (left.1, left.2) (subst (λ (old : EngineView). HandOnOutcome (stream_of old) c.args.bytes.now (Err c.in_err-count.field-0.0) (stream_of (engine_of c.write.new.self c.self.inside.raw_place c.self.inside.window))) c.self.view_is
    (hands_not c.self.inside.live c.self.inside.raw_place c.self.inside.window c.write.new.self c.self.invariant needs.writes needs.live c.write.ensures.keeps c.write.ensures.open c.args.bytes.now c.in_err-count.field-0.0 needs.none c.in_err-count.ensures.outcome))

pub returns-in-Some-clause-outcome : goal.returns-in-Some-clause-outcome
returns-in-Some-clause-outcome g c =
    let needs = rw (← c.self.view_is) at c.requires in
    rw (← c.self.view_is, c.restart_at.ensures, c.place.ensures.place) (hands_some c.self.inside.live c.self.inside.raw_place c.self.inside.window c.write.new.self c.self.invariant needs.writes needs.live c.write.ensures.keeps c.write.ensures.open c.args.bytes.now c.in-Some.count c.requires.some needs.none needs.within (rw c.in-Some.is at c.in_ok-count.ensures.outcome))

pub returns-in-None-clause-outcome : goal.returns-in-None-clause-outcome
returns-in-None-clause-outcome g c =
    let needs = rw (← c.self.view_is) at c.requires in
    rw (← c.self.view_is) (hands_none c.self.inside.live c.self.inside.raw_place c.self.inside.window c.write.new.self c.self.invariant needs.writes needs.live c.write.ensures.keeps c.write.ensures.open c.args.bytes.now (rw c.in-None.is at c.in_ok-count.ensures.outcome))
