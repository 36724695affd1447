use Rattle.std.proofs.Common.{◌++◌, length, take, ap, arith, rules}
use Rattle.std.proofs.lemmas.List.{length-drop, take_rest}
use Rattle.std.proofs.KnownBytes.{Appends-trans}
use Rattle.py_adapters.proofs.Known.{of_error, takes_front, takes_some, moves_front}
use Rattle.py_adapters.proofs.Turns.{took_more, took_until}
use Rattle.py_adapters.proofs.std_stream.StdStreamWrite.write_all.Goals as goal

pub returns-in_err-count-clause-part : goal.returns-in_err-count-clause-part
returns-in_err-count-clause-part g c =
    let (done, split, appended, taken) = c.loop-rest.invariant in
    of_error c.from_residual.result _ (takes_front _ _ _ c.args.buf.now done c.loop-rest.rest.now split (search rules) appended c.in_err-count.ensures.bytes)

pub returns-in_err-count-clause-turns : goal.returns-in_err-count-clause-turns
returns-in_err-count-clause-turns g c =
    let (done, split, appended, (parts, same, turns)) = c.loop-rest.invariant in
    took_until g.S.BufferedStream.shows g.S.BufferedStream.own c.args.buf.now done c.loop-rest.rest.now _ _ _ parts c.from_residual.result c.in_err-count.field-0.0 split same turns (search rules) (search rules) c.in_err-count.ensures.answers

pub loop-rest-preserved : goal.loop-rest-preserved
loop-rest-preserved g c =
    let (done, split, appended, (parts, same, turns)) = c.loop-rest.invariant in
    let some = takes_some g.S.BufferedStream.shows g.S.BufferedStream.own c.loop-rest.rest.now c.in_ok-count.count _ _ (search rules) c.in_ok-count.ensures.answers in
    (done ++ take c.in_ok-count.count c.loop-rest.rest.now, moves_front _ done c.loop-rest.rest.now c.in_ok-count.count split, Appends-trans _ _ _ _ _ appended c.in_ok-count.ensures.bytes, took_more g.S.BufferedStream.shows g.S.BufferedStream.own c.args.buf.now done c.loop-rest.rest.now c.in_ok-count.count _ _ _ parts split same turns some (search rules) c.in_ok-count.ensures.answers)

pub loop-rest-smaller : goal.loop-rest-smaller
loop-rest-smaller g c =
    let rest = c.loop-rest.rest.now in
    let some = takes_some g.S.BufferedStream.shows g.S.BufferedStream.own rest c.in_ok-count.count _ _ (search rules) c.in_ok-count.ensures.answers in
    omega (arith, some, c.in_ok-count.ensures.bound, ap length (take_rest rest c.in_ok-count.count), length-drop c.in_ok-count.count rest)
