use Rattle.std.proofs.Common.{arith, w8}
use Rattle.std.proofs.lemmas.Simd.{below_from_Fits}
use Rattle.py_blocks.proofs.Beginning.{count-block-mask, count-others}
use Rattle.py_blocks.proofs.counting.starts_in_block.Goals as goal

pub overflow_sub-result : goal.overflow_sub-result
overflow_sub-result c =
    omega (arith, count-block-mask c.args.bytes 16 c.fits-bytes.0 (omega arith), count-others c.args.bytes (below_from_Fits w8 c.args.bytes c.fits-bytes.1), c.fits-bytes.0)

pub returns : goal.returns
returns c =
    omega (arith, count-block-mask c.args.bytes 16 c.fits-bytes.0 (omega arith), count-others c.args.bytes (below_from_Fits w8 c.args.bytes c.fits-bytes.1), c.fits-bytes.0)
