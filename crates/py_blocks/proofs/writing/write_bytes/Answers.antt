use Rattle.std.proofs.Common.{sym, arith}
use Rattle.py_blocks.proofs.Written.{Wrote-next}
use Rattle.py_blocks.proofs.writing.write_bytes.Goals as goal

pub loop-count-preserved : goal.loop-count-preserved
loop-count-preserved c = record {
  is_text = c.in-Some.ensures.utf8;
  wrote = Wrote-next c.loop-count.invariant.wrote c.in-Some.ensures.parts (sym c.in-Some-byte_of.ensures) c.in_ok-push.ensures.items;
  within = omega arith;
}
