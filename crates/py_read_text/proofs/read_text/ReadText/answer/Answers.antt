use Rattle.std.proofs.Common.{subst}
use Rattle.py_read_text.proofs.Answering.{Holds}
use Rattle.py_read_text.proofs.Owing.{joined_of}
use Rattle.py_read_text.proofs.Results.{stopped, finished}
use Rattle.py_read_text.proofs.read_text.ReadText.answer.Goals as goal

pub returns-in-Ok : goal.returns-in-Ok
returns-in-Ok g c =
    let ensured = c.finish-answer.ensures in
    finished _ _ _ c.args.wanted c.in-Ok.gathered c.finish-answer.result c.requires.live c.requires.reads c.life.ensures.joined (joined_of c.finish-answer.new.self (subst Holds c.self-in-Ok.view_is c.self-in-Ok.invariant)) c.in-Ok.ensures.keeps c.in-Ok.ensures.nothing c.in-Ok.ensures.needs c.in-Ok.ensures.brings c.in-Ok.ensures.outcome ensured.waits ensured.lacks ensured.finishes

pub returns-in-Err : goal.returns-in-Err
returns-in-Err g c =
    stopped _ _ c.args.wanted c.in-Err.fault c.requires.live c.requires.reads c.life.ensures.joined (joined_of c.gather-gathered.new.self (subst Holds c.self.view_is c.self.invariant)) c.in-Err.ensures.keeps c.in-Err.ensures.nothing c.in-Err.ensures.needs c.in-Err.ensures.brings c.in-Err.ensures.outcome
