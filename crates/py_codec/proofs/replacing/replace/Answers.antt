use Rattle.py_codec.proofs.Treated.{Treats-some}
use Rattle.std.proofs.lemmas.List.{take_rest}
use Rattle.py_codec.proofs.replacing.replace.Goals as goal

pub returns-in-Ok-Some-clause-shown : goal.returns-in-Ok-Some-clause-shown
returns-in-Ok-Some-clause-shown g c =
    let gave = rw (take_rest c.args.bytes.now c.args.start) at (c.in-Ok-Some.ensures.shown c.args.start) in
    rw c.in-Builtin.is (Treats-some _ c.in-Ok-Some.used _ _ (rw c.in-Ok-Some.field-0-is at gave))
