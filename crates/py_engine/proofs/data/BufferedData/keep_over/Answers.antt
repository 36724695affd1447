use Rattle.std.proofs.Common.{ℕ, ◌+◌, ◌≤◌, List, length, take, ◌∙◌, arith}
use Rattle.std.proofs.lemmas.List.{length-take, length-take-le}
use Rattle.py_flat.specs.BinaryStep.{payload}
use Rattle.py_window.specs.Window.{place_of, room_of}
use Rattle.py_engine.specs.Engine.{EngineView}
use Rattle.py_engine.specs.RandomWriting.{call_of}
use Rattle.py_engine.proofs.Stepping.{engine_of}
use Rattle.py_engine.proofs.RandomWriting.{pushes, fills}
use Rattle.py_engine.proofs.data.BufferedData.keep_over.Goals as goal

pub invariant_of-self : goal.invariant_of-self
invariant_of-self g c =
    let old : EngineView = engine_of c.self.inside.live c.self.inside.raw_place c.self.inside.window in
    let needs = rw (← c.self.view_is) at c.requires in
    let own : List ℕ = payload (call_of c.args.given) in
    let fits : length (take c.room-room.result own) ≤ room_of old.window = omega (arith, length-take c.room-room.result own, c.room-room.ensures.room) in
    let far : place_of old.window + length (take c.room-room.result own) ≤ 9223372036854775807 = omega (arith, length-take c.room-room.result own, needs.within) in
    rw c.push.ensures (pushes old (take c.room-room.result own) c.self.invariant needs.update fits far needs.there needs.live).is

pub returns-clause-keeps : goal.returns-clause-keeps
returns-clause-keeps g c =
    let old : EngineView = engine_of c.self.inside.live c.self.inside.raw_place c.self.inside.window in
    let needs = rw (← c.self.view_is) at c.requires in
    let own : List ℕ = payload (call_of c.args.given) in
    let fits : length (take c.room-room.result own) ≤ room_of old.window = omega (arith, length-take c.room-room.result own, c.room-room.ensures.room) in
    let far : place_of old.window + length (take c.room-room.result own) ≤ 9223372036854775807 = omega (arith, length-take c.room-room.result own, needs.within) in
    rw (← c.self.view_is, c.push.ensures) (pushes old (take c.room-room.result own) c.self.invariant needs.update fits far needs.there needs.live).keeps

pub returns-clause-full : goal.returns-clause-full
returns-clause-full g c =
    let old : EngineView = engine_of c.self.inside.live c.self.inside.raw_place c.self.inside.window in
    let needs = rw (← c.self.view_is) at c.requires in
    let own : List ℕ = payload (call_of c.args.given) in
    let far : place_of old.window + length (take c.room-room.result own) ≤ 9223372036854775807 = omega (arith, length-take c.room-room.result own, needs.within) in
    λ many some. rw c.push.ensures
    (fills old.window (take c.room-room.result own) c.self.invariant.window_is (omega (arith, length-take-le c.room-room.result own many, some)) (length-take-le c.room-room.result own many ∙ c.room-room.ensures.room) far)
