use Rattle.std.proofs.Common.{true}
use Rattle.py_read_text.specs.Reading.{Coming}
use Rattle.py_read_text.proofs.Following.{follows_on, decoded_last, kept_cr, gave_cr}
use Rattle.py_read_text.proofs.looking.look_at_end.Goals as goal

pub returns-in_err-release-in-Drained-clause-follows : goal.returns-in_err-release-in-Drained-clause-follows
returns-in_err-release-in-Drained-clause-follows c = kept_cr _ _ _ c.requires.drained c.in_ok-decode_last.ensures.0 c.in_err-release-in-Drained.ensures.same

pub returns-in_ok-release-in-Drained-clause-follows : goal.returns-in_ok-release-in-Drained-clause-follows
returns-in_ok-release-in-Drained-clause-follows c = gave_cr _ _ _ _ c.requires.drained c.in_ok-decode_last.ensures.0 c.in_ok-decode_last.ensures.1 c.in-Drained.is c.in_ok-release-in-Drained.ensures.released

pub returns-in-Refused-clause-follows : goal.returns-in-Refused-clause-follows
returns-in-Refused-clause-follows c = follows_on (Coming true) _ _ _ (decoded_last _ _ c.requires.drained c.in_ok-decode_last.ensures.0) c.stopped.ensures.follows
