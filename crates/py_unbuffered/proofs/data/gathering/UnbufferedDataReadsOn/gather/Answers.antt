use Rattle.std.proofs.Common.{[], rules, ◌≡◌, ℕ, ◌<◌, List, ◌∷◌, Result, Err, refl, sym, subst, ◌∙◌, arith}
use Rattle.py_lines.specs.Collecting.{HasEnough, WantsMore}
use Rattle.py_flat.specs.declared.fault.IoFault.{IoFault}
use Rattle.py_stream.specs.declared.stop.Stop.{Stop}
use Rattle.py_stream.specs.Reading.{GatherOutcome}
use Rattle.py_unbuffered.specs.Engine.{stream_of, Brings, Waits}
use Rattle.py_unbuffered.proofs.Begun.{Stands}
use Rattle.py_unbuffered.proofs.Reading.{gathered_none, gather_ends, gather_waits, gather_refused, gathered_more, gather_enough, gather_starves}
use Rattle.py_unbuffered.proofs.data.gathering.UnbufferedDataReadsOn.gather.Goals as goal

pub loop-moved-init : goal.loop-moved-init
loop-moved-init g c = record {
  gathered = gathered_none (g.C.Collector.wanted c.args.collector.now) c.args.self.now (g.C.Collector.collected c.args.collector.now) c.requires.none (subst Stands c.self.view_is c.self.invariant) c.requires.live c.requires.ends c.requires.asks;
  same = λ rest. refl;
  stays = c.requires.open;
}

pub returns-in_err-transfer-clause-outcome : goal.returns-in_err-transfer-clause-outcome
returns-in_err-transfer-clause-outcome g c =
    let says : c.from_residual.result ≡ Err c.in_err-transfer.field-0.0 = search rules in
    subst (λ (result : Result Stop IoFault). GatherOutcome (g.C.Collector.wanted c.args.collector.now) (stream_of c.args.self.now) result (g.C.Collector.collected c.loop-moved.collector) (stream_of c.transfer.new.self)) (sym says)
    (gather_refused (g.C.Collector.wanted c.args.collector.now) c.args.self.now c.loop-moved.self (g.C.Collector.collected c.loop-moved.collector) c.loop-moved.moved c.loop-moved.invariant.gathered (0 ∷ []) c.in_err-transfer.field-0.0 c.transfer.new.buffer (g.C.Collector.collected c.loop-moved.collector) c.transfer.new.self c.in_err-transfer.ensures.outcome)

pub returns-in-Some-eq0-clause-outcome : goal.returns-in-Some-eq0-clause-outcome
returns-in-Some-eq0-clause-outcome g c =
    let brings : Brings c.loop-moved.self (0 ∷ []) c.in-Some-eq0.field-0 c.transfer.new.buffer c.transfer.new.self = rw c.in-Some-eq0.is at c.in_ok-transfer.ensures.outcome in
    gather_ends (g.C.Collector.wanted c.args.collector.now) c.args.self.now c.loop-moved.self (g.C.Collector.collected c.loop-moved.collector) c.loop-moved.moved c.loop-moved.invariant.gathered (0 ∷ []) c.in-Some-eq0.field-0 c.transfer.new.buffer c.transfer.new.self c.in-Some-eq0.field-0-test brings (λ (none : (0 ∷ []) ≡ []). cc)

pub returns-in-None-clause-outcome : goal.returns-in-None-clause-outcome
returns-in-None-clause-outcome g c =
    let waits : Waits c.loop-moved.self c.transfer.new.self = rw c.in-None.is at c.in_ok-transfer.ensures.outcome in
    gather_waits (g.C.Collector.wanted c.args.collector.now) c.args.self.now c.loop-moved.self (g.C.Collector.collected c.loop-moved.collector) c.loop-moved.moved c.loop-moved.invariant.gathered c.transfer.new.self waits

pub returns-in-Ok-Enough-clause-outcome : goal.returns-in-Ok-Enough-clause-outcome
returns-in-Ok-Enough-clause-outcome g c =
    let brings : Brings c.loop-moved.self (0 ∷ []) c.in-Some.field-0 c.transfer.new.buffer c.transfer.new.self = rw c.in-Some.is at c.in_ok-transfer.ensures.outcome in
    let some : 0 < c.in-Some.field-0 = grind (arith, c.in-Some.field-0-test) in
    let wants : List ℕ → List ℕ = g.C.Collector.wanted c.loop-moved.collector in
    let enough : HasEnough wants (g.C.Collector.collected c.loop-moved.collector) c.transfer.new.buffer c.in-Ok-Enough.field-0-0 (g.C.Collector.collected c.collect.new.self) = rw c.in-Ok-Enough.field-0-is at c.in-Ok-Enough.ensures.outcome in
    gather_enough (g.C.Collector.wanted c.args.collector.now) c.args.self.now c.loop-moved.self (g.C.Collector.collected c.loop-moved.collector) c.loop-moved.moved c.loop-moved.invariant.gathered (0 ∷ []) c.in-Some.field-0 c.transfer.new.buffer c.transfer.new.self brings some c.transfer.auto.buffer wants c.in-Ok-Enough.field-0-0 (g.C.Collector.collected c.collect.new.self) c.loop-moved.invariant.same enough

pub loop-moved-smaller : goal.loop-moved-smaller
loop-moved-smaller g c = grind arith

pub loop-moved-preserved : goal.loop-moved-preserved
loop-moved-preserved g c =
    let brings : Brings c.loop-moved.self (0 ∷ []) c.in-Some.field-0 c.transfer.new.buffer c.transfer.new.self = rw c.in-Some.is at c.in_ok-transfer.ensures.outcome in
    let some : 0 < c.in-Some.field-0 = grind (arith, c.in-Some.field-0-test) in
    let wants : List ℕ → List ℕ = g.C.Collector.wanted c.loop-moved.collector in
    let more : WantsMore wants (g.C.Collector.collected c.loop-moved.collector) c.transfer.new.buffer (g.C.Collector.collected c.collect.new.self) = rw c.in-Ok-All.field-0-is at c.in-Ok-All.ensures.outcome in
    record {
      gathered = gathered_more (g.C.Collector.wanted c.args.collector.now) c.args.self.now c.loop-moved.self (g.C.Collector.collected c.loop-moved.collector) c.loop-moved.moved c.loop-moved.invariant.gathered (0 ∷ []) c.in-Some.field-0 c.transfer.new.buffer c.transfer.new.self brings some c.transfer.auto.buffer wants (g.C.Collector.collected c.collect.new.self) c.loop-moved.invariant.same more;
      same = λ rest. c.in-Ok-All.ensures.same rest ∙ c.loop-moved.invariant.same rest;
      stays = rw c.in-Ok-All.field-0-is at c.in-Ok-All.ensures.open;
    }

pub returns-in-Err-clause-outcome : goal.returns-in-Err-clause-outcome
returns-in-Err-clause-outcome g c =
    let brings : Brings c.loop-moved.self (0 ∷ []) c.in-Some.field-0 c.transfer.new.buffer c.transfer.new.self = rw c.in-Some.is at c.in_ok-transfer.ensures.outcome in
    let some : 0 < c.in-Some.field-0 = grind (arith, c.in-Some.field-0-test) in
    gather_starves (g.C.Collector.wanted c.args.collector.now) c.args.self.now c.loop-moved.self (g.C.Collector.collected c.loop-moved.collector) c.loop-moved.moved c.loop-moved.invariant.gathered (0 ∷ []) c.in-Some.field-0 c.transfer.new.buffer c.transfer.new.self brings some c.transfer.auto.buffer c.starve.new.self c.starve.result (g.C.Collector.collected c.collect.new.self) c.starve.ensures.fault c.starve.ensures.engine
