use Rattle.std.proofs.Common.{◌-◌, length, arith}
use Rattle.py_blocks.proofs.Beginning.{count-ascii, count-last}
use Rattle.py_blocks.proofs.counting.starts_in_many.Goals as goal

pub returns-then-is_ascii : goal.returns-then-is_ascii
returns-then-is_ascii c = count-ascii c.args.bytes.now c.is_ascii.result _ c.is_ascii.ensures.cases c.if-is_ascii.true

pub returns : goal.returns
returns c =
    let bytes = c.args.bytes.now in
    let place = c.starts_in_blocks-count.result.1 in
    omega (arith, c.starts_in_blocks-count.ensures.counted, c.starts_behind.ensures, count-last bytes place (length bytes - 16) (omega (arith, c.starts_in_blocks-count.ensures.near)) (omega (arith, c.requires)))
