use Rattle.std.proofs.Common.{arith}
use Rattle.py_blocks.proofs.Written.{own-utf16, Wrote-next}
use Rattle.py_blocks.proofs.writing.write_few_utf16.Goals as goal

pub loop-count-preserved : goal.loop-count-preserved
loop-count-preserved c = record {
  is_text = c.in-Some.ensures.utf8;
  wrote = Wrote-next c.loop-count.invariant.wrote c.in-Some.ensures.parts (own-utf16 c.args.big c.in-Some.character) c.in_ok-push_utf16.ensures;
  within = omega arith;
}
