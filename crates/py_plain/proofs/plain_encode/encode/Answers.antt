use Rattle.std.proofs.lemmas.List.{take_rest}
use Rattle.py_plain.proofs.Encodings.{GoesOn-written, GoesOn-refused}
use Rattle.py_plain.proofs.plain_encode.encode.Goals as goal

pub loop-place-preserved : goal.loop-place-preserved
loop-place-preserved c =
    let writes = rw (take_rest c.args.characters.now c.loop-place.place, c.in-Written.is) at (c.in_ok-used.ensures.shown c.loop-place.place) in
    let some = rw c.in-Written.is at c.in_ok-used.ensures.within in
    GoesOn-written _ _ _ _ c.in-Written.used _ _ c.loop-place-test.true some.0 writes c.loop-place.invariant

pub returns-in-RefusedRun-clause-bytes : goal.returns-in-RefusedRun-clause-bytes
returns-in-RefusedRun-clause-bytes c =
    let writes = rw (take_rest c.args.characters.now c.loop-place.place, c.in-RefusedRun.is) at (c.in_ok-used.ensures.shown c.loop-place.place) in
    (GoesOn-refused _ _ _ _ c.in-RefusedRun.size _ _ c.loop-place-test.true writes c.loop-place.invariant).0

pub returns-in-RefusedRun-clause-refusal : goal.returns-in-RefusedRun-clause-refusal
returns-in-RefusedRun-clause-refusal c =
    let writes = rw (take_rest c.args.characters.now c.loop-place.place, c.in-RefusedRun.is) at (c.in_ok-used.ensures.shown c.loop-place.place) in
    (GoesOn-refused _ _ _ _ c.in-RefusedRun.size _ _ c.loop-place-test.true writes c.loop-place.invariant).1
