use Rattle.std.proofs.Common.{arith}
use Rattle.py_blocks.proofs.OwnAscii.{IsAscii-next}
use Rattle.py_blocks.proofs.ascii.ascii_front.Goals as goal

pub loop-front-preserved : goal.loop-front-preserved
loop-front-preserved c = record {
  within = omega arith;
  ascii = IsAscii-next c.loop-front.front c.args.bytes.now (omega arith) c.loop-front.invariant.ascii (omega arith);
}
