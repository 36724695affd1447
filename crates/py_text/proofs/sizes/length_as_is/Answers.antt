use Rattle.std.proofs.Common.{arith}
use Rattle.py_text.proofs.Own.{bytes-few}
use Rattle.py_text.proofs.sizes.length_as_is.Goals as goal

pub returns-then-stays-clause-few : goal.returns-then-stays-clause-few
returns-then-stays-clause-few c = omega (arith, bytes-few c.args.text.now c.utf8.text)
