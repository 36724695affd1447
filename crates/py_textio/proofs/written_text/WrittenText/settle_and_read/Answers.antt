use Rattle.py_textio.proofs.Over.{read_over}
use Rattle.py_textio.proofs.Stopping.{read_stops}
use Rattle.py_textio.proofs.written_text.WrittenText.settle_and_read.Goals as goal

pub returns-in-Ok : goal.returns-in-Ok
returns-in-Ok g c = read_over c.args.self.now c.settle.new.self c.read_on.new.self c.args.wanted _ _ c.life.ensures.joined c.in-Ok.ensures.joined c.in-Ok.ensures.writes c.requires.live c.in-Ok.ensures.stood c.in-Ok.ensures.there c.requires.owes c.requires.reads c.requires.some c.in-Ok.ensures.outcome c.read_on.ensures

pub returns-in-Err : goal.returns-in-Err
returns-in-Err g c =
    rw (c.unready.ensures.reply, c.unready.ensures.waits) (read_stops c.args.self.now c.settle.new.self c.args.wanted c.in-Err.fault (record { writes = c.in-Err.ensures.writes; live = c.requires.live; some = c.requires.owes; stood = c.in-Err.ensures.stood }) c.requires.reads c.requires.some c.in-Err.ensures.there c.in-Err.ensures.outcome c.in-Err.ensures.joined)
