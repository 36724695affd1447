use Rattle.std.proofs.Common.{rules, length-append, arith}
use Rattle.py_engine.specs.Engine.{EngineView}
use Rattle.py_engine.proofs.Stepping.{room_there, kept_behind, took_kept}
use Rattle.py_engine.proofs.data.BufferedData.keep.Goals as goal

pub invariant_of-self : goal.invariant_of-self
invariant_of-self g c = grind (arith, room_there, kept_behind)

pub returns-then-not-is_empty-clause-took : goal.returns-then-not-is_empty-clause-took
returns-then-not-is_empty-clause-took g c =
    let given : EngineView = record { raw = c.self.inside.live.raw; raw_place = c.self.inside.raw_place; window = c.self.inside.window; access = c.self.inside.live.access; life = c.self.inside.live.life; short = c.self.inside.live.short } in
    let needs = rw (← c.self.view_is) at c.requires in
    rw (← c.self.view_is, c.push.ensures) (took_kept given c.args.bytes.now c.self.invariant needs.writes needs.live (search rules) (room_there given c.args.bytes.now c.self.invariant needs.writes needs.room) needs.within)

pub returns-then-not-is_empty-clause-more : goal.returns-then-not-is_empty-clause-more
returns-then-not-is_empty-clause-more g c = grind (arith, room_there, kept_behind, length-append)
