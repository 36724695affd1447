use Rattle.std.proofs.Common.{length, chars, string_bytes, ◌∙◌, ap, ◌++◌}
use Rattle.py_codec.specs.Answers.{text_of}
use Rattle.py_blocks.proofs.Appended.{text_of-push_str}
use Rattle.py_codec.proofs.Restarts.{handled_by-in}
use Rattle.py_codec.proofs.replacing.push_custom.Goals as goal

pub returns-in-Ok-push_str-clause-shown : goal.returns-in-Ok-push_str-clause-shown
returns-in-Ok-push_str-clause-shown g c =
    let handled = handled_by-in c.args.start (length c.args.bytes.now) c.in-Ok.answer.1 (chars (string_bytes c.in-Ok.answer.0)) _ c.if-restart-start.false c.if-bytes-restart.false c.in-Ok.ensures.text in
    let pushed = text_of-push_str c.args.text.now c.push_str.new.self c.deref.result.now c.in-Ok-push_str.ensures.bytes in
    (_, handled, pushed ∙ ap (λ bytes. text_of c.args.text.now ++ chars bytes) c.deref.ensures)
