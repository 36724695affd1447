use Rattle.std.proofs.Common.{◌+◌, ℕ, ◌≤◌, length, unwrap_or, Ok, sym, ap, ◌∙◌, subst, arith}
use Rattle.py_flat.specs.Limits.{greatest_place}
use Rattle.py_stream.specs.LiveRaw.{LiveView}
use Rattle.py_unbuffered.specs.Engine.{EngineView, PutOutcome}
use Rattle.py_unbuffered.proofs.Putting.{put_answers}
use Rattle.py_unbuffered.proofs.data.UnbufferedData.put.Goals as goal

pub returns : goal.returns
returns g c =
    let live : LiveView = c.self.inside.live in
    let place : ℕ = c.self.inside.place in
    let old : EngineView = record { raw = live.raw; place = place; access = live.access; life = live.life; short = live.short } in
    let gave = c.in_ok-count.ensures.outcome in
    let within : place + length c.args.bytes.now ≤ greatest_place = omega (arith, ap (λ (engine : EngineView). engine.place) c.self.view_is, c.requires.within) in
    let gives = put_answers old c.write.new.self.raw c.args.bytes.now c.args.moved c.in_ok-count.count c.self.invariant (ap (λ (engine : EngineView). engine.life) c.self.view_is ∙ c.requires.live) within c.in_ok-count.ensures.keeps c.in_ok-count.ensures.open gave.0 in
    subst (λ (before : EngineView). PutOutcome before c.args.moved c.args.bytes.now (Ok c.in_ok-count.count) (record { raw = c.write.new.self.raw; place = place + c.unwrap_or.result; access = c.write.new.self.access; life = c.write.new.self.life; short = c.write.new.self.short })) c.self.view_is
    (subst (λ (count : ℕ). PutOutcome old c.args.moved c.args.bytes.now (Ok c.in_ok-count.count) (record { raw = c.write.new.self.raw; place = place + count; access = c.write.new.self.access; life = c.write.new.self.life; short = c.write.new.self.short })) (sym c.unwrap_or.ensures)
    (subst (λ (now : LiveView). PutOutcome old c.args.moved c.args.bytes.now (Ok c.in_ok-count.count) (record { raw = now.raw; place = place + unwrap_or c.in_ok-count.count 0; access = now.access; life = now.life; short = now.short })) (sym gave.1) gives))
