use Rattle.std.proofs.Common.{◌≡◌, ℕ, ◌+◌, Ok, subst, ap, ◌∙◌}
use Rattle.py_stream.specs.Moving.{MoveRawOutcome}
use Rattle.py_engine.specs.Engine.{EngineView, stream_of, Stands}
use Rattle.py_engine.proofs.Standing.{begins}
use Rattle.py_engine.proofs.Draining.{none_at_place}
use Rattle.py_engine.proofs.Preparing.{prepares_moved}
use Rattle.py_engine.proofs.data.BufferedData.prepare_flush.Goals as goal

pub returns-clause-prepares : goal.returns-clause-prepares
returns-clause-prepares g c = λ taken.
    let old : EngineView = c.args.self.now in
    let started : EngineView = c.begin.new.self in
    let is : Stands old = subst Stands c.self.view_is c.self.invariant in
    let place : c.pending_place-place.result ≡ (stream_of old).owed.place = c.pending_place-place.ensures.place ∙ ap (λ (engine : EngineView). engine.window.begin + engine.window.from) (c.self-2.view_is ∙ c.in_ok-begin.ensures.1) in
    prepares_moved (stream_of old) (stream_of started) (stream_of c.move_raw.new.self) c.move_raw.result taken (none_at_place old is.window_is) (begins old started (Ok tt) c.in_ok-begin.ensures)
    (subst (λ (at : ℕ). MoveRawOutcome (stream_of started) at c.move_raw.result (stream_of c.move_raw.new.self)) place c.move_raw.ensures.outcome)
