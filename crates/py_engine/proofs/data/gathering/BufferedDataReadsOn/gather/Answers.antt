use Rattle.std.proofs.Common.{rules, ◌≡◌, ◌≤◌, ℕ, List, length, Result, Err, sym, ap, ◌∙◌, subst, arith}
use Rattle.py_flat.specs.declared.fault.IoFault.{IoFault}
use Rattle.py_flat.specs.Causes.{Rose}
use Rattle.py_raw.specs.RawStream.{NoWait, WaitsOnce}
use Rattle.py_stream.specs.declared.stop.Stop.{Stop}
use Rattle.py_window.specs.Window.{ahead_of}
use Rattle.py_engine.specs.Engine.{EngineView}
use Rattle.py_engine.specs.Reading.{reading_of, IsReading, Fills, UsesUp, IsLast}
use Rattle.py_stream.specs.Reading.{GatherOutcome}
use Rattle.py_lines.specs.Collecting.{HasEnough, WantsMore}
use Rattle.py_engine.proofs.Transfers.{made_advanced, stands_advanced}
use Rattle.py_engine.proofs.Gathering.{stops_enough, goes_on, moved_some, starves_so_far, fails_so_far, stops_at_end, stops_waiting}
use Rattle.py_engine.proofs.Stepping.{engine_of}
use Rattle.py_engine.proofs.data.gathering.BufferedDataReadsOn.gather.Goals as goal

pub returns-in-Ok-Enough-clause-outcome : goal.returns-in-Ok-Enough-clause-outcome
returns-in-Ok-Enough-clause-outcome g c =
    let wanted : List ℕ → List ℕ = g.C.Collector.wanted c.loop-used.collector in
    let before : List ℕ = g.C.Collector.collected c.loop-used.collector in
    let after : List ℕ = g.C.Collector.collected c.collect.new.self in
    stops_enough c.args.self.now c.loop-used.self before c.loop-used.moved c.loop-used.invariant.gathered _ wanted (g.C.Collector.wanted c.args.collector.now) c.in-Ok-Enough.used after c.loop-used.invariant.same c.loop-used.invariant.some
    (made_advanced c.loop-used.self c.self-in-loop-used.inside.live.raw c.self-in-loop-used.inside.raw_place c.self-in-loop-used.inside.window c.advance.new.self c.self-in-loop-used.inside.live.access c.self-in-loop-used.inside.live.life c.self-in-loop-used.inside.live.short c.in-Ok-Enough.used c.self-in-loop-used.view_is c.advance.ensures)
    (subst (λ (bytes : List ℕ). HasEnough wanted before bytes c.in-Ok-Enough.used after) (c.ahead.ensures ∙ ap (λ (e : EngineView). ahead_of e.window) c.self-in-loop-used.view_is) (rw c.in-Ok-Enough.field-0-is at c.in-Ok-Enough.ensures.outcome))

pub loop-used-preserved : goal.loop-used-preserved
loop-used-preserved g c =
    let now : EngineView = c.loop-used.self in
    let wanted : List ℕ → List ℕ = g.C.Collector.wanted c.loop-used.collector in
    let lent : c.ahead.result.now ≡ ahead_of now.window = c.ahead.ensures ∙ ap (λ (e : EngineView). ahead_of e.window) c.self-in-loop-used.view_is in
    let more : WantsMore wanted (g.C.Collector.collected c.loop-used.collector) c.ahead.result.now (g.C.Collector.collected c.collect.new.self) = rw c.in-Ok-All.field-0-is at c.in-Ok-All.ensures.outcome in
    let fills : Fills now c.in-More.field-0 c.fill.new.self = rw c.in-More.is at c.in_ok-fill.ensures in
    grind (arith, goes_on c.args.self.now now _ _ _ c.loop-used.moved c.loop-used.invariant.gathered wanted lent more c.fill.new.self c.in-More.field-0 fills, moved_some c.args.self.now now _ _ _ c.loop-used.moved c.loop-used.invariant.gathered wanted lent more c.fill.new.self (g.C.Collector.wanted c.args.collector.now) c.in-More.field-0 c.loop-used.invariant.same fills)

pub returns-in-End-clause-outcome : goal.returns-in-End-clause-outcome
returns-in-End-clause-outcome g c =
    let ends : UsesUp 1 c.loop-used.self c.fill.new.self × IsLast c.loop-used.self × NoWait c.loop-used.self.raw c.fill.new.self.raw = rw c.in-End.is at c.in_ok-fill.ensures in
    stops_at_end c.args.self.now c.loop-used.self _ _ _ c.loop-used.moved c.loop-used.invariant.gathered (g.C.Collector.wanted c.loop-used.collector) (c.ahead.ensures ∙ ap (λ (e : EngineView). ahead_of e.window) c.self-in-loop-used.view_is) (rw c.in-Ok-All.field-0-is at c.in-Ok-All.ensures.outcome) c.fill.new.self (g.C.Collector.wanted c.args.collector.now) c.loop-used.invariant.same ends.0 ends.1 ends.2

pub returns-in-Waits-clause-outcome : goal.returns-in-Waits-clause-outcome
returns-in-Waits-clause-outcome g c =
    let waits : UsesUp 0 c.loop-used.self c.fill.new.self × Rose c.loop-used.self.raw.waits c.fill.new.self.raw.waits × WaitsOnce c.loop-used.self.raw c.fill.new.self.raw = rw c.in-Waits.is at c.in_ok-fill.ensures in
    stops_waiting c.args.self.now c.loop-used.self _ _ _ c.loop-used.moved c.loop-used.invariant.gathered (g.C.Collector.wanted c.loop-used.collector) (c.ahead.ensures ∙ ap (λ (e : EngineView). ahead_of e.window) c.self-in-loop-used.view_is) (rw c.in-Ok-All.field-0-is at c.in-Ok-All.ensures.outcome) c.fill.new.self (g.C.Collector.wanted c.args.collector.now) c.loop-used.invariant.same waits.0 waits.1 waits.2

pub returns-in-Err-clause-outcome : goal.returns-in-Err-clause-outcome
returns-in-Err-clause-outcome g c =
    let first : List ℕ → List ℕ = g.C.Collector.wanted c.args.collector.now in
    let after : List ℕ = g.C.Collector.collected c.collect.new.self in
    subst (λ (why : IoFault). GatherOutcome first (reading_of c.args.self.now) (Err why) after (reading_of c.starve.new.self)) (sym c.starve.ensures.fault)
    (starves_so_far c.args.self.now c.loop-used.self c.starve.new.self _ after c.loop-used.moved first c.loop-used.invariant.gathered c.loop-used.invariant.some c.starve.ensures.engine)

pub returns-in_err-fill-clause-outcome : goal.returns-in_err-fill-clause-outcome
returns-in_err-fill-clause-outcome g c =
    let first : List ℕ → List ℕ = g.C.Collector.wanted c.args.collector.now in
    let after : List ℕ = g.C.Collector.collected c.collect.new.self in
    subst (λ (result : Result Stop IoFault). GatherOutcome first (reading_of c.args.self.now) result after (reading_of c.fill.new.self)) (sym (search rules))
    (fails_so_far c.args.self.now c.loop-used.self c.fill.new.self _ after c.loop-used.moved (g.C.Collector.wanted c.loop-used.collector) first c.ahead.result.now c.in_err-fill.field-0.0 c.loop-used.invariant.gathered c.loop-used.invariant.some (c.ahead.ensures ∙ ap (λ (e : EngineView). ahead_of e.window) c.self-in-loop-used.view_is) c.loop-used.invariant.same (rw c.in-Ok-All.field-0-is at c.in-Ok-All.ensures.outcome) c.in_err-fill.ensures)

pub invariant_of-self : goal.invariant_of-self
invariant_of-self g c =
    let was = c.self-in-loop-used.inside in
    let enough : HasEnough (g.C.Collector.wanted c.loop-used.collector) (g.C.Collector.collected c.loop-used.collector) c.ahead.result.now c.in-Ok-Enough.used (g.C.Collector.collected c.collect.new.self) = rw c.in-Ok-Enough.field-0-is at c.in-Ok-Enough.ensures.outcome in
    rw c.advance.ensures
    (stands_advanced (engine_of was.live was.raw_place was.window) c.in-Ok-Enough.used (subst IsReading (sym c.self-in-loop-used.view_is) c.loop-used.invariant.gathered.kept.is) (subst (λ (bytes : List ℕ). c.in-Ok-Enough.used ≤ length bytes) c.ahead.ensures enough.fits))
