use Rattle.std.proofs.Common.{length, sym, ap, ◌∙◌, subst, arith}
use Rattle.py_window.specs.Window.{WindowView, ahead_of}
use Rattle.py_engine.specs.Engine.{EngineView, IsEngine}
use Rattle.py_stream.specs.Access.{is_read}
use Rattle.py_engine.proofs.Random.{stands_moved}
use Rattle.py_engine.proofs.data.BufferedData.step_on.Goals as goal

pub invariant_of-self : goal.invariant_of-self
invariant_of-self g c =
    subst (λ (window : WindowView). IsEngine c.self.inside.live.raw c.self.inside.raw_place window c.self.inside.live.access c.self.inside.live.life) (sym c.advance.ensures)
    (stands_moved c.self.inside.live.raw c.self.inside.raw_place c.self.inside.window c.self.inside.live.access c.self.inside.live.life c.args.count (ap (λ (engine : EngineView). is_read engine.access) c.self.view_is ∙ c.requires.reads) (omega (arith, c.requires.held, ap (λ (engine : EngineView). length (ahead_of engine.window)) c.self.view_is)) c.self.invariant)
