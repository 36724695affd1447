use Rattle.std.proofs.Common.{ℕ, ◌+◌, ◌<◌, length, sym, subst, ap, ◌∙◌}
use Rattle.std.proofs.lemmas.Result.{err_from_is_err_and}
use Rattle.py_stream.specs.Moving.{MovesRaw}
use Rattle.py_engine.specs.Engine.{EngineView, stream_of, Stands}
use Rattle.py_window.specs.Window.{pending_of}
use Rattle.py_engine.proofs.Draining.{stays_itself, settles_nothing, owed_moved, owed_unmoved}
use Rattle.py_engine.proofs.data.BufferedData.pass_owed.Goals as goal

pub returns-then-is_settled-clause-outcome : goal.returns-then-is_settled-clause-outcome
returns-then-is_settled-clause-outcome g c = settles_nothing c.args.self.now (subst Stands c.self.view_is c.self.invariant) c.requires.live (ap (λ (engine : EngineView). pending_of engine.window) (sym c.self.view_is) ∙ c.is_settled.ensures.none c.if-is_settled.true)

pub returns-in_err-move_raw-clause-outcome : goal.returns-in_err-move_raw-clause-outcome
returns-in_err-move_raw-clause-outcome g c =
    let left = err_from_is_err_and c.from_residual.result c.from_residual.ensures.1 in
    rw (left.1, left.2) (owed_unmoved (stream_of c.args.self.now) (stream_of c.move_raw.new.self) c.in_err-move_raw.field-0.0 c.pending_place-place.result c.requires.live (stays_itself c.args.self.now (subst Stands c.self.view_is c.self.invariant))
    (subst (λ (engine : EngineView). 0 < length (pending_of engine.window)) c.self.view_is (c.is_settled.ensures.some c.if-is_settled.false)) c.in_err-move_raw.ensures.outcome)

pub returns-clause-outcome : goal.returns-clause-outcome
returns-clause-outcome g c =
    let moves = subst (λ (place : ℕ). MovesRaw (stream_of c.args.self.now) place (stream_of c.move_raw.new.self)) (c.pending_place-place.ensures.place ∙ ap (λ (engine : EngineView). engine.window.begin + engine.window.from) c.self.view_is) c.in_ok-move_raw.ensures.outcome in
    owed_moved (stream_of c.args.self.now) (stream_of c.move_raw.new.self) (stream_of c.flush_pending.new.self) c.flush_pending.result moves c.flush_pending.ensures.outcome
