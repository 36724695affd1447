use Rattle.py_engine.specs.Engine.{EngineView}
use Rattle.py_engine.proofs.Stepping.{engine_of}
use Rattle.py_engine.proofs.RandomWriting.{owes_held}
use Rattle.py_engine.proofs.data.BufferedData.owe_all.Goals as goal

pub invariant_of-self : goal.invariant_of-self
invariant_of-self g c =
    let old : EngineView = engine_of c.self.inside.live c.self.inside.raw_place c.self.inside.window in
    let needs = rw (← c.self.view_is) at c.requires in
    rw c.own_all.ensures (owes_held old c.self.invariant needs.update needs.live needs.full).is

pub returns-clause-fills : goal.returns-clause-fills
returns-clause-fills g c =
    let old : EngineView = engine_of c.self.inside.live c.self.inside.raw_place c.self.inside.window in
    let needs = rw (← c.self.view_is) at c.requires in
    rw (← c.self.view_is, c.own_all.ensures) (owes_held old c.self.invariant needs.update needs.live needs.full).fills
