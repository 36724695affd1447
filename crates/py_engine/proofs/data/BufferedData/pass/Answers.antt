use Rattle.std.proofs.Common.{ℕ, subst, sym, ap, ◌∙◌}
use Rattle.py_engine.specs.Engine.{EngineView}
use Rattle.py_engine.specs.Reading.{IsReading, PassesOutcome}
use Rattle.py_engine.proofs.Stepping.{engine_of}
use Rattle.py_engine.proofs.Transfers.{passes_so}
use Rattle.py_engine.proofs.data.BufferedData.pass.Goals as goal

pub returns-clause-outcome : goal.returns-clause-outcome
returns-clause-outcome g c =
    let was = c.self.inside in
    let inside : EngineView = engine_of was.live was.raw_place was.window in
    let passed = c.pass-filled in
    let is : IsReading inside = subst IsReading (sym c.self.view_is) c.requires.reads in
    subst (λ (old : EngineView). PassesOutcome old c.args.moved passed.result passed.new.buffer (engine_of passed.new.live c.end_place-self-inside.result passed.new.self)) c.self.view_is
    (subst (λ (place : ℕ). PassesOutcome inside c.args.moved passed.result passed.new.buffer (engine_of passed.new.live place passed.new.self)) (sym c.end_place-self-inside.ensures.place)
    (passes_so was.live passed.new.live was.raw_place c.args.moved was.window passed.new.self passed.new.buffer passed.result is (ap (λ (engine : EngineView). engine.life) c.self.view_is ∙ c.requires.live) passed.ensures.keeps passed.ensures.open passed.ensures.outcome))
