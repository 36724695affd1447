use Rattle.std.proofs.Common.{arith, w8}
use Rattle.std.proofs.lemmas.Simd.{below_from_Fits}
use Rattle.py_blocks.proofs.Beginning.{count-mask, starts-behind}
use Rattle.py_blocks.proofs.counting.starts_behind.Goals as goal

pub overflow_sub-result-2 : goal.overflow_sub-result-2
overflow_sub-result-2 c =
    omega (arith, count-mask c.args.bytes 16 c.args.skipped c.fits-bytes.0 (omega arith), starts-behind c.args.bytes 16 c.args.skipped c.fits-bytes.0 (below_from_Fits w8 c.args.bytes c.fits-bytes.1) c.requires.skipped)

pub returns : goal.returns
returns c =
    omega (arith, count-mask c.args.bytes 16 c.args.skipped c.fits-bytes.0 (omega arith), starts-behind c.args.bytes 16 c.args.skipped c.fits-bytes.0 (below_from_Fits w8 c.args.bytes c.fits-bytes.1) c.requires.skipped)
