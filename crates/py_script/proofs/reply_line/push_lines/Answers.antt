use Rattle.std.proofs.Common.{◌++◌, ◌∷◌, [], ap, ◌∙◌, arith}
use Rattle.py_script.specs.Words.{spaced}
use Rattle.py_script.specs.ReplyLine.{hex_of}
use Rattle.py_script.proofs.LineLemmas.{hex_lines_more}
use Rattle.py_script.proofs.reply_line.push_lines.Goals as goal

pub loop-bytes-preserved : goal.loop-bytes-preserved
loop-bytes-preserved c =
    c.in_ok-push_hex.ensures
    ∙ ap (λ bytes. c.loop-bytes.line.items ++ spaced (hex_of bytes ∷ [])) c.as_slice.ensures
    ∙ ap (λ front. front ++ spaced (hex_of c.bytes-item.result ∷ [])) c.loop-bytes.invariant
    ∙ hex_lines_more c.push_number.new.line.items c.args.lines.now c.loop-bytes.bytes-index c.bytes-item.result (omega arith) c.bytes-item.is
