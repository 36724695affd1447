use Rattle.std.proofs.Common.{false}
use Rattle.py_read_text.specs.Reading.{Coming}
use Rattle.py_read_text.proofs.Following.{follows_on, looked}
use Rattle.py_read_text.proofs.looking.look.Goals as goal

pub returns-in-Some-find-clause-follows : goal.returns-in-Some-find-clause-follows
returns-in-Some-find-clause-follows c = looked _ _ _ _ c.loop-stop.invariant c.in_ok-stop.ensures.0 c.find-in-loop-stop.ensures.same

pub loop-stop-preserved : goal.loop-stop-preserved
loop-stop-preserved c = looked _ _ _ _ c.loop-stop.invariant c.in_ok-stop.ensures.0 c.find-in-loop-stop.ensures.same

pub returns-in-Some-Drained-clause-follows : goal.returns-in-Some-Drained-clause-follows
returns-in-Some-Drained-clause-follows c = looked _ _ _ _ c.loop-stop.invariant c.in_ok-stop.ensures.0 c.find-in-loop-stop.ensures.same

pub returns-in_err-stop-in-Some-Refused-clause-follows : goal.returns-in_err-stop-in-Some-Refused-clause-follows
returns-in_err-stop-in-Some-Refused-clause-follows c = follows_on (Coming false) _ _ _ (looked _ _ _ _ c.loop-stop.invariant c.in_ok-stop.ensures.0 c.find-in-loop-stop.ensures.same) c.stopped.ensures.follows

pub returns-in-Some-Refused-clause-follows : goal.returns-in-Some-Refused-clause-follows
returns-in-Some-Refused-clause-follows c = follows_on (Coming false) _ _ _ (looked _ _ _ _ c.loop-stop.invariant c.in_ok-stop.ensures.0 c.find-in-loop-stop.ensures.same) c.stopped.ensures.follows
