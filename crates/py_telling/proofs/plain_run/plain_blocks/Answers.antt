use Rattle.std.proofs.Common.{◌+◌, arith}
use Rattle.py_telling.proofs.Plain.{plain_further}
use Rattle.py_telling.proofs.plain_run.plain_blocks.Goals as goal

pub loop-run-preserved : goal.loop-run-preserved
loop-run-preserved c = record {
  few = omega arith;
  plain = plain_further c.args.bytes.now c.loop-run.run (c.loop-run.run + 64) (omega arith) (omega arith) c.loop-run.invariant.plain (c.are_plain.ensures c.if-are_plain.true);
}
