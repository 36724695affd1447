use Rattle.std.proofs.Common.{◌≡◌, ℕ, List, sym, ap, ◌∙◌, subst}
use Rattle.py_window.specs.Window.{ahead_of}
use Rattle.py_engine.specs.Engine.{EngineView, Stands, stream_of}
use Rattle.py_engine.specs.Ahead.{LendsAhead}
use Rattle.py_engine.proofs.Ahead.{lends_ahead}
use Rattle.py_engine.proofs.data.BufferedData.ahead.Goals as goal

pub returns-clause-lends : goal.returns-clause-lends
returns-clause-lends g c = λ reads live.
    let lent : c.ahead.result.now ≡ ahead_of c.args.self.now.window = c.ahead.ensures ∙ ap (λ (engine : EngineView). ahead_of engine.window) c.self.view_is in
    subst (λ (bytes : List ℕ). LendsAhead (stream_of c.args.self.now) bytes) (sym lent) (lends_ahead c.args.self.now (subst Stands c.self.view_is c.self.invariant) reads live)
