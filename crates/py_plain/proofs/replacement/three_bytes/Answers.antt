use Rattle.std.proofs.Common.{sym, arith}
use Rattle.py_plain.proofs.Rows.{is_within-true}
use Rattle.py_plain.proofs.replacement.three_bytes.Goals as goal

pub overflow_sub-first : goal.overflow_sub-first
overflow_sub-first c = (is_within-true 0xE0 0xEF _ (sym c.if-not-is_within.ensures)).0

pub overflow_mul-result : goal.overflow_mul-result
overflow_mul-result c =
    let first = is_within-true 0xE0 0xEF _ (sym c.if-not-is_within.ensures) in
    omega arith

pub overflow_sub-second : goal.overflow_sub-second
overflow_sub-second c = (is_within-true 0x80 0xBF _ (sym c.if-not-is_within-2.ensures)).0

pub overflow_add-result : goal.overflow_add-result
overflow_add-result c =
    let first = is_within-true 0xE0 0xEF _ (sym c.if-not-is_within.ensures) in
    let second = is_within-true 0x80 0xBF _ (sym c.if-not-is_within-2.ensures) in
    omega arith

pub overflow_sub-third : goal.overflow_sub-third
overflow_sub-third c = (is_within-true 0x80 0xBF _ (sym c.if-not-is_within-3.ensures)).0

pub overflow_add-result-2 : goal.overflow_add-result-2
overflow_add-result-2 c =
    let first = is_within-true 0xE0 0xEF _ (sym c.if-not-is_within.ensures) in
    let second = is_within-true 0x80 0xBF _ (sym c.if-not-is_within-2.ensures) in
    let third = is_within-true 0x80 0xBF _ (sym c.if-not-is_within-3.ensures) in
    omega arith
