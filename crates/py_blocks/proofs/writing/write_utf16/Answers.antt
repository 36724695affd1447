use Rattle.std.proofs.Common.{arith}
use Rattle.py_blocks.proofs.Written.{chars_within, Wrote-more, Wrote-count}
use Rattle.py_blocks.proofs.writing.write_utf16.Goals as goal

pub overflow_add-count : goal.overflow_add-count
overflow_add-count c =
    omega (arith, Wrote-count c.loop-ascii.invariant.wrote, Wrote-count c.in_ok-ascii.ensures.wrote, Wrote-count c.in_ok-few.ensures.wrote, chars_within c.args.text.now c.utf8.text)

pub overflow_add-count-in-loop-ascii : goal.overflow_add-count-in-loop-ascii
overflow_add-count-in-loop-ascii c =
    omega (arith, Wrote-count c.loop-ascii.invariant.wrote, Wrote-count c.in_ok-ascii.ensures.wrote, Wrote-count c.in_ok-few.ensures.wrote, chars_within c.args.text.now c.utf8.text)

pub returns-then-few-lt-BLOCK-clause-wrote : goal.returns-then-few-lt-BLOCK-clause-wrote
returns-then-few-lt-BLOCK-clause-wrote c =
    Wrote-more c.loop-ascii.invariant.wrote (Wrote-more c.in_ok-ascii.ensures.wrote c.in_ok-few.ensures.wrote)

pub loop-ascii-preserved : goal.loop-ascii-preserved
loop-ascii-preserved c = record {
  is_text = c.in_ok-few.ensures.utf8;
  wrote = Wrote-more c.loop-ascii.invariant.wrote (Wrote-more c.in_ok-ascii.ensures.wrote c.in_ok-few.ensures.wrote);
}
