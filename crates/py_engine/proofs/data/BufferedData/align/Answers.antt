use Rattle.std.proofs.Common.{arith}
use Rattle.py_engine.specs.Engine.{EngineView}
use Rattle.py_engine.proofs.Stepping.{engine_of}
use Rattle.py_engine.proofs.Draining.{ends_reading, ends_here}
use Rattle.py_engine.proofs.data.BufferedData.align.Goals as goal

pub returns-then-place-self-clause-reads : goal.returns-then-place-self-clause-reads
returns-then-place-self-clause-reads g c =
    let was = c.self.inside in
    let needs = rw (← c.self.view_is) at c.requires in
    rw c.end_at.ensures (ends_reading (engine_of was.live was.raw_place was.window) c.self.invariant needs.update needs.none (omega (arith, c.place.ensures.place, c.if-place-self.true)))

pub returns-then-place-self-clause-outcome : goal.returns-then-place-self-clause-outcome
returns-then-place-self-clause-outcome g c =
    let was = c.self.inside in
    let needs = rw (← c.self.view_is) at c.requires in
    let old : EngineView = engine_of was.live was.raw_place was.window in
    rw (← c.self.view_is, c.end_at.ensures) (ends_here old c.self.invariant (ends_reading old c.self.invariant needs.update needs.none (omega (arith, c.place.ensures.place, c.if-place-self.true))) needs.none)
