use Rattle.std.proofs.Common.{chars, arith}
use Rattle.py_textio.proofs.Writing.{may_write, kept_all, unkept}
use Rattle.py_textio.proofs.written_text.WrittenText.keep.Goals as goal

pub returns-in-Ok : goal.returns-in-Ok
returns-in-Ok g c =
    let may = may_write c.args.self.now (chars c.args.text.now) c.requires.live c.requires.writes c.requires.clean c.requires.whole (omega (arith, c.requires.most, c.requires.kept.near)) in
    kept_all c.args.self.now c.put.new.self (chars c.args.text.now) c.args.most c.character_count.result may c.requires.kept c.requires.most c.character_count.ensures c.in-Ok.ensures.put c.life-in-Ok.ensures.joined

pub returns-in-Err : goal.returns-in-Err
returns-in-Err g c =
    let may = may_write c.args.self.now (chars c.args.text.now) c.requires.live c.requires.writes c.requires.clean c.requires.whole (omega (arith, c.requires.most, c.requires.kept.near)) in
    unkept c.args.self.now c.put.new.self (chars c.args.text.now) c.args.most c.in-Err.fault may c.requires.kept c.in-Err.ensures.memory c.in-Err.ensures.same c.life.ensures.joined
