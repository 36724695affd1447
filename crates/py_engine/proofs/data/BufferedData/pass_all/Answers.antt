use Rattle.std.proofs.Common.{◌≡◌, true, sym, subst, ap, ◌∙◌}
use Rattle.py_stream.specs.Access.{is_written}
use Rattle.py_engine.specs.Engine.{EngineView, stream_of, Stands}
use Rattle.py_engine.proofs.Draining.{settles_by_here, passes_all}
use Rattle.py_engine.proofs.data.BufferedData.pass_all.Goals as goal

pub returns-clause-outcome : goal.returns-clause-outcome
returns-clause-outcome g c =
    let writes : is_written c.args.self.now.access ≡ true = sym (ap (λ (engine : EngineView). is_written engine.access) c.self.view_is) ∙ (sym c.writes.ensures ∙ c.if-not-writes.false) in
    passes_all c.args.self.now.access (stream_of c.args.self.now) (stream_of c.stand_here.new.self) c.stand_here.result writes
    (settles_by_here c.args.self.now c.pass_pending.new.self c.stand_here.new.self c.stand_here.result c.in_ok-pass_pending.ensures.outcome (subst Stands c.self-2.view_is c.self-2.invariant) (ap is_written c.in_ok-pass_pending.ensures.access ∙ writes) c.stand_here.ensures.outcome)
