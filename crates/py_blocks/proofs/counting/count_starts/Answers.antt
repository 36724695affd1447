use Rattle.std.proofs.Common.{◌-◌, length, ◌∙◌, arith}
use Rattle.py_blocks.proofs.Beginning.{count-ends}
use Rattle.py_blocks.proofs.counting.count_starts.Goals as goal

pub returns : goal.returns
returns c =
    let bytes = c.args.bytes.now in
    c.starts_in_two.ensures ∙ count-ends bytes (length bytes - 8) (omega (arith, c.if-bytes-lt-FEW.false)) (omega (arith, c.if-bytes-gt-BLOCK.false))
