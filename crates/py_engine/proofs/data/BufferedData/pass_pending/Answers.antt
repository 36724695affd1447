use Rattle.std.proofs.Common.{true, Ok, Err, sym, subst}
use Rattle.std.proofs.lemmas.Result.{err_from_is_err_and}
use Rattle.py_flat.specs.declared.fault.IoFault.TheVariants as fault
use Rattle.py_stream.specs.Settling.{SettleOutcome}
use Rattle.py_engine.specs.Engine.{EngineView, stream_of}
use Rattle.py_engine.specs.Passing.{OwedOutcome}
use Rattle.py_engine.specs.declared.data.passing_on.Passed.TheVariants as passing
use Rattle.py_engine.proofs.Draining.{owed_refused}
use Rattle.py_engine.proofs.data.BufferedData.pass_pending.Goals as goal

pub returns-in_err-pass_owed-clause-outcome : goal.returns-in_err-pass_owed-clause-outcome
returns-in_err-pass_owed-clause-outcome g c =
    let left = err_from_is_err_and c.from_residual.result c.from_residual.ensures.1 in
    rw (left.1, left.2) (owed_refused (stream_of c.args.self.now) (stream_of c.pass_owed.new.self) c.in_err-pass_owed.field-0.0 c.in_err-pass_owed.ensures.outcome)

pub returns-in-All-clause-outcome : goal.returns-in-All-clause-outcome
returns-in-All-clause-outcome g c = rw c.in-All.is at c.in_ok-pass_owed.ensures.outcome

pub returns-in-Waits-clause-outcome : goal.returns-in-Waits-clause-outcome
returns-in-Waits-clause-outcome g c =
    let waits : OwedOutcome (stream_of c.args.self.now) (Ok passing.Waits) (stream_of c.pass_owed.new.self) = rw c.in-Waits.is at c.in_ok-pass_owed.ensures.outcome in
    rw c.note_wait.ensures
    (subst (λ (engine : EngineView). SettleOutcome (stream_of c.args.self.now) (Err (fault.WouldBlock 0)) (record (stream_of engine) { short = true })) (sym c.self.view_is) waits.0)
