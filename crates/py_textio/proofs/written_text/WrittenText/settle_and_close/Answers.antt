use Rattle.std.proofs.Common.{sym, ◌∙◌}
use Rattle.py_textio.proofs.Over.{close_over}
use Rattle.py_textio.proofs.Stopping.{close_fails, close_stops}
use Rattle.py_textio.proofs.written_text.WrittenText.settle_and_close.Goals as goal

pub returns-in-Ok : goal.returns-in-Ok
returns-in-Ok g c = close_over c.args.self.now c.settle.new.self c.close_on.new.self _ _ c.life.ensures.joined c.in-Ok.ensures.joined c.in-Ok.ensures.writes c.requires.live c.in-Ok.ensures.stood c.in-Ok.ensures.there c.requires.owes c.in-Ok.ensures.outcome c.close_on.ensures

pub returns-then-is_raw_fault : goal.returns-then-is_raw_fault
returns-then-is_raw_fault g c =
    close_fails c.args.self.now c.settle.new.self c.end.new.self c.in-Err.fault (record { writes = c.in-Err.ensures.writes; live = c.requires.live; some = c.requires.owes; stood = c.in-Err.ensures.stood }) (sym c.is_raw_fault.ensures ∙ c.if-is_raw_fault.true) c.in-Err.ensures.there c.in-Err.ensures.outcome c.in-Err.ensures.joined c.end.ensures

pub returns-else-is_raw_fault : goal.returns-else-is_raw_fault
returns-else-is_raw_fault g c =
    rw c.with_taken.ensures (close_stops c.args.self.now c.settle.new.self c.in-Err.fault (record { writes = c.in-Err.ensures.writes; live = c.requires.live; some = c.requires.owes; stood = c.in-Err.ensures.stood }) (sym c.is_raw_fault.ensures ∙ c.if-is_raw_fault.false) c.in-Err.ensures.there c.in-Err.ensures.outcome c.in-Err.ensures.joined)
