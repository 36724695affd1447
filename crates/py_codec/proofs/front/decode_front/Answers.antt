use Rattle.std.proofs.Common.{◌++◌, chars, ap, ◌∙◌}
use Rattle.py_codec.specs.Answers.{text_of}
use Rattle.py_blocks.proofs.Appended.{text_of-push_str}
use Rattle.py_codec.proofs.front.decode_front.Goals as goal

pub returns-in-Ok-clause-front : goal.returns-in-Ok-clause-front
returns-in-Ok-clause-front g c =
    let shown = c.in_ok-text.ensures.front in
    let appended = text_of-push_str c.args.out.now c.push_str.new.self c.deref.result.now c.in-Ok.ensures.bytes
    ∙ ap (λ bytes. text_of c.args.out.now ++ chars bytes) c.deref.ensures
    ∙ ap (λ cs. text_of c.args.out.now ++ cs) shown.2 in
    (shown.0, shown.1, appended, shown.3)
