use Rattle.std.proofs.Common.{[]}
use Rattle.py_plain_text.specs.TextWriting.{written_as}
use Rattle.py_plain.proofs.Escaped.{each_spelled-onto}
use Rattle.py_plain_text.proofs.plain_write.written.Goals as goal

pub loop-character-preserved : goal.loop-character-preserved
loop-character-preserved c =
    let more = each_spelled-onto (written_as c.args.rule) [] c.args.text.now c.loop-character.character-index c.character-item.result c.loop-character-test.true in
    rw (c.in_ok-push_written.ensures, c.loop-character.invariant, c.character-item.is) more
