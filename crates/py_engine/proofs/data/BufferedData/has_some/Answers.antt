use Rattle.std.proofs.Common.{◌≡◌, ◌<◌, [], length, subst, arith}
use Rattle.py_window.specs.Window.{ahead_of}
use Rattle.py_engine.specs.Engine.{EngineView, Stands}
use Rattle.py_engine.proofs.Random.{begun_self, used_up_ahead, some_now, some_once}
use Rattle.py_engine.proofs.data.BufferedData.has_some.Goals as goal

pub returns-then-not-is_used_up : goal.returns-then-not-is_used_up
returns-then-not-is_used_up g c =
    let some : 0 < length (ahead_of c.args.self.now.window) = subst (λ (engine : EngineView). 0 < length (ahead_of engine.window)) c.self.view_is (c.is_used_up.ensures.left c.if-not-is_used_up.true) in
    some_now c.args.self.now c.args.wanted (subst Stands c.self.view_is c.self.invariant) c.requires.reads (begun_self c.args.self.now c.requires.live c.requires.whole) (λ none. omega (arith, none, c.requires.wants)) some

pub returns : goal.returns
returns g c =
    let none : ahead_of c.args.self.now.window ≡ [] = subst (λ (engine : EngineView). ahead_of engine.window ≡ []) c.self.view_is (c.is_used_up.ensures.used c.if-not-is_used_up.false) in
    some_once c.args.self.now c.has_once.new.self c.args.wanted c.has_once.result (used_up_ahead c.args.self.now none) c.has_once.ensures
