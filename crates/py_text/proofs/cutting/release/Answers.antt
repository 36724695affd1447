use Rattle.std.proofs.Common.{rules, ◌≡◌, true, chars}
use Rattle.py_codec.specs.Answers.{text_of}
use Rattle.py_blocks.proofs.Appended.{text_of-push}
use Rattle.py_flat.specs.Lines.{lf}
use Rattle.py_text.proofs.Copying.{given-before}
use Rattle.py_text.proofs.cutting.release.Goals as goal

pub returns-clause-gives : goal.returns-clause-gives
returns-clause-gives c =
    let holds : c.args.held ≡ true = search rules in
    given-before (text_of c.args.out.now) (text_of c.push.new.self) c.args.held (chars c.behind_lf.result.now) (chars c.args.text.now) holds (text_of-push c.args.out.now c.push.new.self lf c.in_ok-push.ensures.bytes) c.behind_lf.ensures.gives
