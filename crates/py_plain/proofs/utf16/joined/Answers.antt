use Rattle.std.proofs.Common.{inr, arith}
use Rattle.py_plain.proofs.Surrogates.{is_high-true, is_low-true}
use Rattle.py_plain.proofs.utf16.joined.Goals as goal

pub overflow_sub-high : goal.overflow_sub-high
overflow_sub-high c = (is_high-true c.args.high c.requires.high).0

pub overflow_sub-low : goal.overflow_sub-low
overflow_sub-low c = (is_low-true c.args.low c.requires.low).0

pub unwrap-requires : goal.unwrap-requires
unwrap-requires c =
    let high = is_high-true c.args.high c.requires.high in
    let low = is_low-true c.args.low c.requires.low in
    c.from_u32.ensures.succeeds (inr (omega arith, omega arith))
