use Rattle.std.proofs.Common.{◌∙◌, sym, ap, ◌++◌, take}
use Rattle.std.proofs.lemmas.List.{append-nil}
use Rattle.py_plain.proofs.PastAscii.{front-ends, front-goes_on}
use Rattle.py_telling.proofs.seen_item.count_past_ascii.Goals as goal

pub returns-then-byte-lt128-clause-front : goal.returns-then-byte-lt128-clause-front
returns-then-byte-lt128-clause-front c =
    let none = front-ends c.args.bytes.now c.loop-index.index c.loop-index-test.true c.if-byte-lt128.true in
    sym (c.loop-index.invariant ∙ ap (λ more. take c.loop-index.index c.args.bytes.now ++ more) none ∙ append-nil (take c.loop-index.index c.args.bytes.now))

pub loop-index-preserved : goal.loop-index-preserved
loop-index-preserved c = c.loop-index.invariant ∙ front-goes_on c.args.bytes.now c.loop-index.index c.loop-index-test.true c.if-byte-lt128.false
