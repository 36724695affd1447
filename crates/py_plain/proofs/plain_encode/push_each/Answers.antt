use Rattle.py_plain.specs.Escaping.{spelled_by}
use Rattle.py_plain.proofs.Escaped.{each_spelled-onto}
use Rattle.py_plain.proofs.plain_encode.push_each.Goals as goal

pub loop-character-preserved : goal.loop-character-preserved
loop-character-preserved c =
    let more = each_spelled-onto (spelled_by c.args.escape) c.args.out.now.items c.args.characters.now c.loop-character.character-index c.character-item.result c.loop-character-test.true in
    rw (c.in_ok-push_escape.ensures, c.loop-character.invariant, c.from.ensures, c.character-item.is) more
