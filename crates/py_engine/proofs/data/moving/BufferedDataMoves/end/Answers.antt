use Rattle.std.proofs.Common.{◌≡◌, ◌+◌, max, arith, length, sym, ap, subst, ◌∙◌}
use Rattle.std.proofs.lemmas.Result.{err_from_is_err_and}
use Rattle.py_window.specs.Window.{pending_of}
use Rattle.py_engine.specs.Engine.{EngineView, Stands}
use Rattle.py_engine.proofs.Standing.{asks_settled, asks_owing, end_refused}
use Rattle.py_engine.proofs.data.moving.BufferedDataMoves.end.Goals as goal
use Rattle.py_engine.proofs.data.moving.BufferedDataMoves.end.Goals.{then-is_settled, else-is_settled}

pub returns-in_err-end : goal.returns-in_err-end
returns-in_err-end g c =
    let left = err_from_is_err_and c.from_residual.result c.from_residual.ensures.1 in
    rw (left.1, left.2) (end_refused c.args.self.now c.raw_end.new.self c.in_err-end.field-0.0 (subst Stands c.self.view_is c.self.invariant) c.in_err-end.ensures)

pub returns : goal.returns
returns g c =
    let old : EngineView = c.args.self.now in
    let new : EngineView = c.raw_end.new.self in
    let is : Stands new = subst Stands c.self-2.view_is c.self-2.invariant in
    elim c.if-is_settled.branch [
      | then-is_settled w ↦ rw w.result-is (asks_settled old new c.in_ok-end.end is c.in_ok-end.ensures (ap (λ (engine : EngineView). pending_of engine.window) (sym c.self-2.view_is) ∙ c.is_settled.ensures.none w.if-is_settled.true))
      | else-is_settled w ↦
          let last : w.max.result ≡ max c.in_ok-end.end (new.window.begin + new.window.to) = w.max.ensures ∙ ap (max c.in_ok-end.end) (w.pending_end.ensures.place ∙ ap (λ (engine : EngineView). engine.window.begin + engine.window.to) c.self-2.view_is) in
          rw (w.result-is, last) (asks_owing old new c.in_ok-end.end is c.in_ok-end.ensures (omega (arith, c.is_settled.ensures.some w.if-is_settled.false, ap (λ (engine : EngineView). length (pending_of engine.window)) c.self-2.view_is)))
    ]
