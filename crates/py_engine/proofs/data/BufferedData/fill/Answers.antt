use Rattle.std.proofs.Common.{ℕ, subst, sym, ap, ◌∙◌}
use Rattle.py_engine.specs.Engine.{EngineView}
use Rattle.py_engine.specs.Reading.{IsReading, FillsOutcome}
use Rattle.py_engine.proofs.Stepping.{engine_of}
use Rattle.py_engine.proofs.Transfers.{fills_so}
use Rattle.py_engine.proofs.data.BufferedData.fill.Goals as goal

pub returns : goal.returns
returns g c =
    let was = c.self.inside in
    let inside : EngineView = engine_of was.live was.raw_place was.window in
    let filled = c.fill-filled in
    let is : IsReading inside = subst IsReading (sym c.self.view_is) c.requires.reads in
    subst (λ (old : EngineView). FillsOutcome old c.args.moved filled.result (engine_of filled.new.live c.end_place-self-inside.result filled.new.self)) c.self.view_is
    (subst (λ (place : ℕ). FillsOutcome inside c.args.moved filled.result (engine_of filled.new.live place filled.new.self)) (sym c.end_place-self-inside.ensures.place)
    (fills_so was.live filled.new.live was.raw_place c.args.moved was.window filled.new.self filled.result is (ap (λ (engine : EngineView). engine.life) c.self.view_is ∙ c.requires.live) filled.ensures.keeps filled.ensures.open filled.ensures.outcome))
