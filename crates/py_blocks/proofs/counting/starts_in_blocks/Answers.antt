use Rattle.std.proofs.Common.{◌+◌, arith}
use Rattle.py_blocks.proofs.Beginning.{count-further, count-within}
use Rattle.py_blocks.proofs.counting.starts_in_blocks.Goals as goal

pub overflow_add-count : goal.overflow_add-count
overflow_add-count c =
    let bytes = c.args.bytes.now in
    omega (arith, c.loop-place.invariant.counted, c.starts_in_block-count.ensures, count-further bytes c.loop-place.place 16, count-within bytes (c.loop-place.place + 16))

pub loop-place-preserved : goal.loop-place-preserved
loop-place-preserved c = record {
  within = omega arith;
  counted = omega (arith, c.loop-place.invariant.counted, c.starts_in_block-count.ensures, count-further c.args.bytes.now c.loop-place.place 16);
}
