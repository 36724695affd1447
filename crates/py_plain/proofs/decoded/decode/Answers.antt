use Rattle.std.proofs.lemmas.List.{take_rest}
use Rattle.py_plain.proofs.Giving.{Continues-given, Continues-refused, Continues-unfinished}
use Rattle.py_plain.proofs.decoded.decode.Goals as goal

pub loop-place-preserved : goal.loop-place-preserved
loop-place-preserved c = λ order.
    let gives = rw (take_rest c.args.bytes.now c.loop-place.place, c.in-Given.is) at (c.in_ok-used.ensures.shown order c.loop-place.place) in
    let some = rw c.in-Given.is at c.in_ok-used.ensures.within in
    Continues-given _ _ _ order _ _ _ c.in-Given.used _ _ c.loop-place-test.true some.0 gives (c.loop-place.invariant order)

pub returns-in-RefusedRange-clause-characters : goal.returns-in-RefusedRange-clause-characters
returns-in-RefusedRange-clause-characters c = λ order.
    let gives = rw (take_rest c.args.bytes.now c.loop-place.place, c.in-RefusedRange.is) at (c.in_ok-used.ensures.shown order c.loop-place.place) in
    (Continues-refused _ _ _ order _ _ _ c.in-RefusedRange.length _ _ c.loop-place-test.true gives (c.loop-place.invariant order)).0

pub returns-in-RefusedRange-clause-refusal : goal.returns-in-RefusedRange-clause-refusal
returns-in-RefusedRange-clause-refusal c = λ order.
    let gives = rw (take_rest c.args.bytes.now c.loop-place.place, c.in-RefusedRange.is) at (c.in_ok-used.ensures.shown order c.loop-place.place) in
    (Continues-refused _ _ _ order _ _ _ c.in-RefusedRange.length _ _ c.loop-place-test.true gives (c.loop-place.invariant order)).1

pub returns-in-Unfinished-clause-characters : goal.returns-in-Unfinished-clause-characters
returns-in-Unfinished-clause-characters c = λ order.
    let gives = rw (take_rest c.args.bytes.now c.loop-place.place, c.in-Unfinished.is) at (c.in_ok-used.ensures.shown order c.loop-place.place) in
    (Continues-unfinished _ _ _ order _ _ _ _ _ c.loop-place-test.true gives (c.loop-place.invariant order)).0

pub returns-in-Unfinished-clause-refusal : goal.returns-in-Unfinished-clause-refusal
returns-in-Unfinished-clause-refusal c = λ order.
    let gives = rw (take_rest c.args.bytes.now c.loop-place.place, c.in-Unfinished.is) at (c.in_ok-used.ensures.shown order c.loop-place.place) in
    (Continues-unfinished _ _ _ order _ _ _ _ _ c.loop-place-test.true gives (c.loop-place.invariant order)).1
