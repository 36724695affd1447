use Rattle.std.proofs.Common.{ℕ, ◌+◌, length, true, false, Err, refl, sym, ap, ◌∙◌}
use Rattle.py_plain.proofs.LineEnds.{IsBefore, pair_before, pair_found, pair_passed, pair_missed, kept_if, all_left, all_behind}
use Rattle.py_plain.proofs.find_newline.find_pair.Goals as goal

pub returns-then-ends_with_cr : goal.returns-then-ends_with_cr
returns-then-ends_with_cr c =
    let before : IsBefore c.args.bytes.now (c.loop-at.from + c.in-Some.at) = pair_before c.args.bytes.now _ c.loop-at.from c.in-Some.at c.loop-at.invariant (all_behind c.loop-at.from c.args.bytes.now) c.in-Some.ensures.0 c.in-Some.ensures.1 in
    pair_found c.args.bytes.now _ (c.loop-at.from + c.in-Some.at) before refl (sym c.if-ends_with_cr.ensures)

pub loop-at-preserved : goal.loop-at-preserved
loop-at-preserved c =
    let before : IsBefore c.args.bytes.now (c.loop-at.from + c.in-Some.at) = pair_before c.args.bytes.now _ c.loop-at.from c.in-Some.at c.loop-at.invariant (all_behind c.loop-at.from c.args.bytes.now) c.in-Some.ensures.0 c.in-Some.ensures.1 in
    pair_passed c.args.bytes.now _ (c.loop-at.from + c.in-Some.at) before refl (sym c.if-ends_with_cr.ensures)

pub returns-then-ends_with_cr-2 : goal.returns-then-ends_with_cr-2
returns-then-ends_with_cr-2 c = pair_missed c.args.bytes.now _ c.loop-at.from c.loop-at.invariant (all_behind c.loop-at.from c.args.bytes.now) c.in_default.ensures 1 (kept_if c.args.bytes.now true (sym c.if-ends_with_cr-2.ensures))

pub returns : goal.returns
returns c = ap (λ (n : ℕ). Err n) (all_left (length c.args.bytes.now)) ∙ pair_missed c.args.bytes.now _ c.loop-at.from c.loop-at.invariant (all_behind c.loop-at.from c.args.bytes.now) c.in_default.ensures 0 (kept_if c.args.bytes.now false (sym c.if-ends_with_cr-2.ensures))
