use Rattle.py_plain.specs.Escaping.{spelled_by}
use Rattle.py_plain.proofs.Escaped.{each_spelled-onto}
use Rattle.py_plain.proofs.replacement.push_each.Goals as goal

pub loop-byte-preserved : goal.loop-byte-preserved
loop-byte-preserved c =
    let more = each_spelled-onto (spelled_by c.args.escape) c.args.out.now.items c.args.bytes.now c.loop-byte.byte-index 0 c.loop-byte-test.true in
    rw (c.in_ok-push_escape.ensures, c.loop-byte.invariant, c.from.ensures) more
