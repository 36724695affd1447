use Rattle.std.proofs.Common.{false}
use Rattle.py_textio.proofs.Over.{flush_over}
use Rattle.py_textio.proofs.Stopping.{passing_stops}
use Rattle.py_textio.proofs.written_text.WrittenText.settle_and_flush.Goals as goal

pub returns-in-Ok : goal.returns-in-Ok
returns-in-Ok g c = flush_over c.args.self.now c.settle.new.self c.flush_on.new.self _ _ c.life.ensures.joined c.in-Ok.ensures.joined c.in-Ok.ensures.writes c.requires.live c.in-Ok.ensures.stood c.in-Ok.ensures.there c.requires.owes c.in-Ok.ensures.outcome c.flush_on.ensures

pub returns-in-Err : goal.returns-in-Err
returns-in-Err g c =
    rw c.with_taken.ensures (passing_stops c.args.self.now c.settle.new.self false c.in-Err.fault (record { writes = c.in-Err.ensures.writes; live = c.requires.live; some = c.requires.owes; stood = c.in-Err.ensures.stood }) (λ closes. absurd (cc)) c.in-Err.ensures.there c.in-Err.ensures.outcome c.in-Err.ensures.joined)
