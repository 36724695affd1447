use Rattle.std.proofs.Common.{Err, subst}
use Rattle.std.proofs.lemmas.Result.{err_from_is_err_and}
use Rattle.py_engine.specs.Engine.{EngineView, stream_of}
use Rattle.py_engine.specs.Passing.{DrainOutcome}
use Rattle.py_engine.proofs.Stepping.{engine_of}
use Rattle.py_engine.proofs.Draining.{drains_some, drains_stands, drains_none, drains_not}
use Rattle.py_engine.proofs.data.BufferedData.drain.Goals as goal

pub returns-in_err-count-clause-outcome : goal.returns-in_err-count-clause-outcome
returns-in_err-count-clause-outcome g c =
    let left = err_from_is_err_and c.from_residual.result c.from_residual.ensures.1 in
    let needs = rw (← c.self.view_is) at c.requires in
    rw (left.1, left.2) (subst (λ (old : EngineView). DrainOutcome (stream_of old) (Err c.in_err-count.field-0.0) (stream_of (engine_of c.write.new.self c.self.inside.raw_place c.self.inside.window))) c.self.view_is
    (drains_not c.self.inside.live c.self.inside.raw_place c.self.inside.window c.write.new.self c.self.invariant needs.writes needs.live needs.there needs.some c.write.ensures.keeps c.write.ensures.open c.pending.result.now c.in_err-count.field-0.0 c.pending.ensures c.in_err-count.ensures.outcome))

pub returns-in-Some-clause-outcome : goal.returns-in-Some-clause-outcome
returns-in-Some-clause-outcome g c =
    let needs = rw (← c.self.view_is) at c.requires in
    rw (← c.self.view_is, c.pass_on.ensures) (drains_some c.self.inside.live c.self.inside.raw_place c.self.inside.window c.write.new.self c.self.invariant needs.writes needs.live needs.there needs.some c.write.ensures.keeps c.write.ensures.open c.pending.result.now c.in-Some.count c.pending.ensures (rw c.in-Some.is at c.in_ok-count.ensures.outcome))

pub returns-in-None-clause-outcome : goal.returns-in-None-clause-outcome
returns-in-None-clause-outcome g c =
    let needs = rw (← c.self.view_is) at c.requires in
    rw (← c.self.view_is) (drains_none c.self.inside.live c.self.inside.raw_place c.self.inside.window c.write.new.self c.self.invariant needs.writes needs.live needs.there needs.some c.write.ensures.keeps c.write.ensures.open c.pending.result.now (rw c.in-None.is at c.in_ok-count.ensures.outcome))

pub invariant_of-self-in-Some : goal.invariant_of-self-in-Some
invariant_of-self-in-Some g c =
    let needs = rw (← c.self.view_is) at c.requires in
    rw c.pass_on.ensures (drains_stands c.self.inside.live c.self.inside.raw_place c.self.inside.window c.write.new.self c.self.invariant needs.writes needs.live needs.there needs.some c.write.ensures.keeps c.write.ensures.open c.pending.result.now c.in-Some.count c.pending.ensures (rw c.in-Some.is at c.in_ok-count.ensures.outcome))
