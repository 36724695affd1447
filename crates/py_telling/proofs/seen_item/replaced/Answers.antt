use Rattle.std.proofs.Common.{refl, take, arith}
use Rattle.std.proofs.lemmas.List.{length-take-le}
use Rattle.py_telling.proofs.Ranges.{each_taken, backslashes_stand}
use Rattle.py_telling.proofs.seen_item.replaced.Goals as goal

pub returns-in-BackslashReplace-clause-shown : goal.returns-in-BackslashReplace-clause-shown
returns-in-BackslashReplace-clause-shown c = λ place.
    rw c.in-BackslashReplace.is
    (backslashes_stand (take c.args.size c.args.bytes.now) c.args.size (length-take-le c.args.size c.args.bytes.now c.requires.within) (each_taken c.args.size c.args.bytes.now (λ at. omega (arith, c.type_inv.bytes at))), refl)
