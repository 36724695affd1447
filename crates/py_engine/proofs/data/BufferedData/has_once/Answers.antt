use Rattle.std.proofs.Common.{subst, arith}
use Rattle.std.proofs.lemmas.Result.{err_from_is_err_and}
use Rattle.py_engine.specs.Engine.{Stands}
use Rattle.py_engine.specs.Random.{WentAhead}
use Rattle.py_engine.proofs.Random.{begun_self, went_not, went_unready, once_goes, once_now, once_not, once_ready}
use Rattle.py_engine.proofs.data.BufferedData.has_once.Goals as goal

pub returns-then-gives_at_once : goal.returns-then-gives_at_once
returns-then-gives_at_once g c = once_now c.args.self.now c.args.wanted (subst Stands c.self.view_is c.self.invariant) c.requires.reads (begun_self c.args.self.now c.requires.live c.requires.whole) (λ none. omega (arith, none, c.requires.wants)) (c.gives_at_once.ensures.yes c.if-gives_at_once.true)

pub returns-in_err-go_ahead : goal.returns-in_err-go_ahead
returns-in_err-go_ahead g c =
    let left = err_from_is_err_and c.from_residual.result c.from_residual.ensures.1 in
    rw (left.1, left.2) (λ call single some first. went_not c.args.self.now c.args.self.now call (begun_self c.args.self.now c.requires.live c.requires.whole) (once_goes c.args.self.now call single some first (c.gives_at_once.ensures.no c.if-gives_at_once.false)) c.go_ahead.new.self c.in_err-go_ahead.field-0.0 c.in_err-go_ahead.ensures)

pub returns-then-not-branch : goal.returns-then-not-branch
returns-then-not-branch g c = λ call single some first. went_unready c.args.self.now c.args.self.now call (begun_self c.args.self.now c.requires.live c.requires.whole) (once_goes c.args.self.now call single some first (c.gives_at_once.ensures.no c.if-gives_at_once.false)) c.go_ahead.new.self c.in_ok-go_ahead.field-0 c.if-not-branch.true c.in_ok-go_ahead.ensures

pub returns-in_err-stop : goal.returns-in_err-stop
returns-in_err-stop g c =
    let went : WentAhead c.args.self.now c.go_ahead.new.self = rw c.if-not-branch.false at c.in_ok-go_ahead.ensures in
    let left = err_from_is_err_and c.from_residual-in_err-stop.result c.from_residual-in_err-stop.ensures.1 in
    rw (left.1, left.2) (once_not c.args.self.now c.go_ahead.new.self (begun_self c.args.self.now c.requires.live c.requires.whole) (c.gives_at_once.ensures.no c.if-gives_at_once.false) went c.ready.new.self c.args.wanted c.in_err-stop.field-0.0 c.in_err-stop.ensures)

pub returns : goal.returns
returns g c =
    let went : WentAhead c.args.self.now c.go_ahead.new.self = rw c.if-not-branch.false at c.in_ok-go_ahead.ensures in
    once_ready c.args.self.now c.go_ahead.new.self (begun_self c.args.self.now c.requires.live c.requires.whole) (c.gives_at_once.ensures.no c.if-gives_at_once.false) went c.ready.new.self c.answers.new.self c.args.wanted c.in_ok-stop.stop c.answers.result (λ none. omega (arith, none, c.requires.wants)) c.in_ok-stop.ensures c.answers.ensures.answer c.answers.ensures.engine
