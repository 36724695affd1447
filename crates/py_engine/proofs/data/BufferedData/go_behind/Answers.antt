use Rattle.std.proofs.Common.{Ok, ap, ◌∙◌, subst}
use Rattle.std.proofs.lemmas.Result.{err_from_is_err_and}
use Rattle.py_stream.specs.Access.{is_written}
use Rattle.py_stream.specs.Settling.{SettleOutcome}
use Rattle.py_engine.specs.Engine.{stream_of, Stands}
use Rattle.py_engine.proofs.Draining.{owed_not_here, settles_by_here}
use Rattle.py_engine.proofs.RandomWriting.{goes_on_behind, goes_refused}
use Rattle.py_engine.proofs.data.BufferedData.go_behind.Goals as goal

pub returns-in_err-pass_owed-clause-outcome : goal.returns-in_err-pass_owed-clause-outcome
returns-in_err-pass_owed-clause-outcome g c =
    let left = err_from_is_err_and c.from_residual.result c.from_residual.ensures.1 in
    rw (left.1, left.2) (goes_refused c.args.self.now c.pass_owed.new.self (subst Stands c.self.view_is c.self.invariant) c.requires.update c.requires.live c.requires.whole c.in_err-pass_owed.field-0.0 c.in_err-pass_owed.ensures.outcome)

pub returns-in_err-stand_here-in-All-clause-outcome : goal.returns-in_err-stand_here-in-All-clause-outcome
returns-in_err-stand_here-in-All-clause-outcome g c =
    let left = err_from_is_err_and c.from_residual-in_err-stand_here-in-All.result c.from_residual-in_err-stand_here-in-All.ensures.1 in
    let settled : SettleOutcome (stream_of c.args.self.now) (Ok tt) (stream_of c.pass_owed.new.self) = rw c.in-All.is at c.in_ok-pass_owed.ensures.outcome in
    rw (left.1, left.2) (goes_refused c.args.self.now c.stand_here.new.self (subst Stands c.self.view_is c.self.invariant) c.requires.update c.requires.live c.requires.whole c.in_err-stand_here-in-All.field-0.0
    (owed_not_here c.args.self.now c.pass_owed.new.self c.stand_here.new.self c.in_err-stand_here-in-All.field-0.0 settled (subst Stands c.self-in-All.view_is c.self-in-All.invariant) (ap is_written (c.in_ok-pass_owed.ensures.access ∙ c.requires.update)) c.in_err-stand_here-in-All.ensures.outcome))

pub returns-in_ok-stand_here-in-All-clause-outcome : goal.returns-in_ok-stand_here-in-All-clause-outcome
returns-in_ok-stand_here-in-All-clause-outcome g c =
    let settled : SettleOutcome (stream_of c.args.self.now) (Ok tt) (stream_of c.pass_owed.new.self) = rw c.in-All.is at c.in_ok-pass_owed.ensures.outcome in
    goes_on_behind c.args.self.now c.stand_here.new.self (subst Stands c.self.view_is c.self.invariant) c.requires.update c.requires.live c.requires.whole (subst Stands c.self-in-All-2.view_is c.self-in-All-2.invariant) c.in_ok-stand_here-in-All.ensures.behind
    (settles_by_here c.args.self.now c.pass_owed.new.self c.stand_here.new.self (Ok tt) settled (subst Stands c.self-in-All.view_is c.self-in-All.invariant) (ap is_written (c.in_ok-pass_owed.ensures.access ∙ c.requires.update)) c.in_ok-stand_here-in-All.ensures.outcome)
