use Rattle.std.proofs.Common.{◌≡◌, Result, Err, rules, refl, subst, sym, ◌∙◌}
use Rattle.py_flat.specs.declared.fault.IoFault.{IoFault}
use Rattle.py_engine.specs.declared.data.passing_on.Passed.{Passed}
use Rattle.py_engine.specs.Engine.{stream_of, Stands}
use Rattle.py_engine.proofs.Standing.{is_sound}
use Rattle.py_engine.proofs.Draining.{none_at_place, passes_none, passes_more, passes_waiting, passes_refused}
use Rattle.py_engine.specs.Passing.{FlushOutcome}
use Rattle.py_engine.proofs.data.BufferedData.flush_pending.Goals as goal

pub returns-in_err-drain-clause-outcome : goal.returns-in_err-drain-clause-outcome
returns-in_err-drain-clause-outcome g c =
    let says : c.from_residual.result ≡ Err c.in_err-drain.field-0.0 = search rules in
    subst (λ (result : Result Passed IoFault). FlushOutcome (stream_of c.args.self.now) result (stream_of c.drain.new.self)) (sym says)
    (passes_refused (stream_of c.args.self.now) (stream_of c.loop-self.self) (stream_of c.drain.new.self) c.in_err-drain.field-0.0 c.loop-self.invariant.so_far c.in_err-drain.ensures.outcome)

pub returns-in-Waits-clause-outcome : goal.returns-in-Waits-clause-outcome
returns-in-Waits-clause-outcome g c = passes_waiting (stream_of c.args.self.now) (stream_of c.loop-self.self) (stream_of c.drain.new.self) c.loop-self.invariant.so_far (rw c.in-Waits.is at c.in_ok-drain.ensures.outcome)

pub loop-self-init : goal.loop-self-init
loop-self-init g c =
    let stands = subst Stands c.self.view_is c.self.invariant in
    record { so_far = passes_none (stream_of c.args.self.now) (is_sound c.args.self.now stands) c.requires.live (none_at_place c.args.self.now stands.window_is) c.requires.there; access = refl; behind = λ behind. behind }

pub loop-self-preserved : goal.loop-self-preserved
loop-self-preserved g c =
    let was = c.loop-self.invariant in
    record {
      so_far = passes_more (stream_of c.args.self.now) (stream_of c.loop-self.self) (stream_of c.drain.new.self) was.so_far (rw c.in-All.is at c.in_ok-drain.ensures.outcome);
      access = c.drain.ensures.access ∙ was.access;
      behind = λ behind. c.drain.ensures.behind (was.behind behind);
    }
