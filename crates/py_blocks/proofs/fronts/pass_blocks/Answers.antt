use Rattle.std.proofs.Common.{arith}
use Rattle.py_blocks.proofs.Beginning.{count-further}
use Rattle.py_blocks.proofs.fronts.pass_blocks.Goals as goal

pub loop-front-preserved : goal.loop-front-preserved
loop-front-preserved c = record {
  within = omega arith;
  counted = omega (arith, c.loop-front.invariant.counted, c.starts_in_block-more.ensures, count-further c.args.bytes.now c.loop-front.front.bytes 16);
  few = omega (arith, c.loop-front.invariant.few, c.if-more-most.false);
}
