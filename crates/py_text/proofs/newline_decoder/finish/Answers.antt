use Rattle.std.proofs.Common.{rules, ◌≡◌, true}
use Rattle.py_codec.specs.Answers.{text_of}
use Rattle.py_blocks.proofs.Appended.{text_of-push}
use Rattle.py_flat.specs.Lines.{lf}
use Rattle.py_text.proofs.Copying.{given-last}
use Rattle.py_text.proofs.newline_decoder.finish.Goals as goal

pub returns-in_ok-push-clause-gives : goal.returns-in_ok-push-clause-gives
returns-in_ok-push-clause-gives c =
    let ends : c.args.last ≡ true = search rules in
    let holds : c.args.held ≡ true = search rules in
    given-last (text_of c.args.text.now) (text_of c.push.new.self) c.args.last c.args.held ends holds (text_of-push c.args.text.now c.push.new.self lf c.in_ok-push.ensures.bytes)
