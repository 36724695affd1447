use Rattle.std.proofs.Common.{◌-◌, ◌∙◌, length, drop, refl, sym, ap, arith, rules, take_all}
use Rattle.std.proofs.lemmas.List.{length-drop}
use Rattle.py_adapters.proofs.Known.{gives_front, gives_behind}
use Rattle.py_adapters.proofs.Turns.{came_more, came_until, all_came, ended_error, ended_none}
use Rattle.py_adapters.proofs.std_stream.StdStreamRead.read_exact.Goals as goal

pub loop-at-preserved : goal.loop-at-preserved
loop-at-preserved g c =
    let start = c.loop-at.at in
    let own = c.loop-at.buf in
    let count = c.in_ok-count.count in
    let within = c.loop-at.invariant.1 in
    let part = take_all (length own - start) (drop start own) (omega (arith, length-drop start own)) in (
      search rules,
      search rules,
      gives_behind c.args.buf.now own _ c.read.new.buf start count within part c.loop-at.invariant.2 c.in_ok-count.ensures.behind,
      gives_front _ _ _ own c.read.new.buf start count within c.loop-at.invariant.3 c.in_ok-count.ensures.bytes.0,
      came_more g.S.ReadOnce.answers (length c.args.buf.now) start _ count _ _ _ own c.read.new.buf c.loop-at.invariant.4 within (ap length part ∙ (length-drop start own ∙ ap (λ n. n - start) c.loop-at.invariant.0)) (search rules) c.in_ok-count.ensures.bound.0 c.in_ok-count.ensures.answers,
    )

pub returns-in_err-count-clause-turns : goal.returns-in_err-count-clause-turns
returns-in_err-count-clause-turns g c =
    let start = c.loop-at.at in
    let own = c.loop-at.buf in
    let part = take_all (length own - start) (drop start own) (omega (arith, length-drop start own)) in
    came_until g.S.ReadOnce.answers (length c.args.buf.now) start _ c.args.self.now c.loop-at.self c.read.new.self own c.read.new.buf c.args.buf.now c.from_residual.result c.in_err-count.field-0.0 c.loop-at.invariant.4 (search rules) (sym c.loop-at.invariant.0) (ap length part ∙ (length-drop start own ∙ ap (λ n. n - start) c.loop-at.invariant.0)) c.loop-at.invariant.2 (c.in_err-count.ensures.behind ∙ part) (search rules)
    (ended_error _ _ c.in_err-count.ensures.answers)

pub returns-then-count-eq0-clause-turns : goal.returns-then-count-eq0-clause-turns
returns-then-count-eq0-clause-turns g c =
    let start = c.loop-at.at in
    let own = c.loop-at.buf in
    let part = take_all (length own - start) (drop start own) (omega (arith, length-drop start own)) in
    came_until g.S.ReadOnce.answers (length c.args.buf.now) start _ c.args.self.now c.loop-at.self c.read.new.self own c.read.new.buf c.args.buf.now _ c.io_ended.result c.loop-at.invariant.4 (search rules) (sym c.loop-at.invariant.0) (ap length part ∙ (length-drop start own ∙ ap (λ n. n - start) c.loop-at.invariant.0)) c.loop-at.invariant.2 (rw c.if-count-eq0.true at c.in_ok-count.ensures.behind ∙ part) refl
    (ended_none _ _ _ c.if-count-eq0.true c.io_ended.ensures c.in_ok-count.ensures.answers)

pub returns-clause-turns : goal.returns-clause-turns
returns-clause-turns g c =
    all_came g.S.ReadOnce.answers (length c.args.buf.now) c.loop-at.at c.args.self.now c.loop-at.self c.loop-at.buf c.args.buf.now _ c.loop-at.invariant.4 (omega (arith, c.loop-at-test.false, c.loop-at.invariant.0, c.loop-at.invariant.1)) (sym c.loop-at.invariant.0) c.loop-at.invariant.2 refl
