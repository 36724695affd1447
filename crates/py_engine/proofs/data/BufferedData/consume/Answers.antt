use Rattle.std.proofs.Common.{◌≡◌, ◌≢◌, rules, min, length, ap, ◌∙◌, subst, arith}
use Rattle.py_window.specs.Window.{ahead_of}
use Rattle.py_engine.specs.Engine.{EngineView, Stands}
use Rattle.py_engine.proofs.Ahead.{passes_none, passes_some}
use Rattle.py_engine.proofs.data.BufferedData.consume.Goals as goal

pub returns-then-count-eq0 : goal.returns-then-count-eq0
returns-then-count-eq0 g c =
    let lent : c.ahead.result.now ≡ ahead_of c.begin.new.self.window = c.ahead.ensures ∙ ap (λ (engine : EngineView). ahead_of engine.window) c.self-2.view_is in
    let least : c.min-count.result ≡ min c.args.amount (length (ahead_of c.begin.new.self.window)) = omega (arith, c.min-count.ensures, ap length lent) in
    let none : c.min-count.result ≡ 0 = search rules in
    passes_none c.args.self.now c.begin.new.self (subst Stands c.self.view_is c.self.invariant) c.requires.reads c.in_ok-begin.ensures c.args.amount (omega (arith, least, none))

pub returns : goal.returns
returns g c =
    let lent : c.ahead.result.now ≡ ahead_of c.begin.new.self.window = c.ahead.ensures ∙ ap (λ (engine : EngineView). ahead_of engine.window) c.self-2.view_is in
    let least : c.min-count.result ≡ min c.args.amount (length (ahead_of c.begin.new.self.window)) = omega (arith, c.min-count.ensures, ap length lent) in
    let some : c.min-count.result ≢ 0 = search rules in
    passes_some c.args.self.now c.begin.new.self (subst Stands c.self.view_is c.self.invariant) c.requires.reads c.in_ok-begin.ensures c.step_on.new.self c.args.amount c.min-count.result least some c.step_on.ensures
