use Rattle.std.proofs.Common.{◌+◌, arith}
use Rattle.py_blocks.proofs.OwnAscii.{IsAscii-further}
use Rattle.py_blocks.proofs.ascii.ascii_blocks.Goals as goal

pub loop-front-preserved : goal.loop-front-preserved
loop-front-preserved c = record {
  within = omega arith;
  ascii = IsAscii-further c.loop-front.front (c.loop-front.front + 64) c.args.bytes.now (omega arith) c.loop-front.invariant.ascii c.if-is_ascii.ensures.cases;
}
