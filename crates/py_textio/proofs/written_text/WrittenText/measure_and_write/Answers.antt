use Rattle.std.proofs.Common.{◌≡◌, chars, Some, subst}
use Rattle.py_plain_text.specs.TextRefusals.{encode_error}
use Rattle.py_plain_text.specs.TextWriting.{written_refusal}
use Rattle.py_textio.specs.Written.{WrittenView}
use Rattle.py_textio.proofs.Writing.{write_run}
use Rattle.py_textio.proofs.written_text.WrittenText.measure_and_write.Goals as goal

pub returns-in-Err : goal.returns-in-Err
returns-in-Err g c =
    let refuses = rw (c.coder-coder.ensures.encoding, c.coder-coder.ensures.errors) at c.in-Err.ensures.err in
    write_run c.args.self.now (chars c.args.text.now) c.in-Err.fault c.requires.live c.requires.writes c.requires.clean (subst (λ (view : WrittenView). encode_error (written_refusal view.text.settings (chars c.args.text.now)) ≡ Some c.in-Err.fault) c.self.view_is refuses) c.life.ensures.joined
