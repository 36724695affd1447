use Rattle.std.proofs.Common.{arith, w8}
use Rattle.std.proofs.lemmas.Simd.{below_from_Fits}
use Rattle.py_blocks.proofs.Beginning.{two-masks, two-below, count-two, starts-two}
use Rattle.py_blocks.proofs.counting.starts_in_two.Goals as goal

pub overflow_mul-all : goal.overflow_mul-all
overflow_mul-all c = omega (arith, two-masks c.args.first c.args.second c.args.skipped c.fits-first.0 c.fits-second.0, two-below c.args.first c.args.second c.args.skipped c.fits-first.0 c.fits-second.0)

pub overflow_add-all : goal.overflow_add-all
overflow_add-all c = omega (arith, two-masks c.args.first c.args.second c.args.skipped c.fits-first.0 c.fits-second.0, two-below c.args.first c.args.second c.args.skipped c.fits-first.0 c.fits-second.0)

pub overflow_sub-result-2 : goal.overflow_sub-result-2
overflow_sub-result-2 c =
    let first = c.args.first in
    let second = c.args.second in
    let skipped = c.args.skipped in
    omega (arith, count-two first second skipped c.fits-first.0 c.fits-second.0, starts-two first second skipped c.fits-first.0 c.fits-second.0 (below_from_Fits w8 first c.fits-first.1) (below_from_Fits w8 second c.fits-second.1) c.requires.skipped)

pub returns : goal.returns
returns c =
    let first = c.args.first in
    let second = c.args.second in
    let skipped = c.args.skipped in
    omega (arith, count-two first second skipped c.fits-first.0 c.fits-second.0, starts-two first second skipped c.fits-first.0 c.fits-second.0 (below_from_Fits w8 first c.fits-first.1) (below_from_Fits w8 second c.fits-second.1) c.requires.skipped)
