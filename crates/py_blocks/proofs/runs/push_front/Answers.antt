use Rattle.std.proofs.Common.{◌++◌, chars, ap, ◌∙◌}
use Rattle.py_blocks.specs.Texts.{text_of}
use Rattle.py_blocks.proofs.Appended.{text_of-push_str}
use Rattle.py_blocks.proofs.runs.push_front.Goals as goal

pub returns-clause-appended : goal.returns-clause-appended
returns-clause-appended c =
    text_of-push_str c.args.text.now c.push_str.new.self c.from_utf8_unchecked.result.now c.in_ok-push_str.ensures.bytes
    ∙ ap (λ bytes. text_of c.args.text.now ++ chars bytes) c.from_utf8_unchecked.ensures
