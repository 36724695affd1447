use Rattle.std.proofs.Common.{◌≤◌, length, chars, ap, arith}
use Rattle.py_text.proofs.Lines.{text-twice, text-least}
use Rattle.py_text.proofs.sizes.length_within.Goals as goal

pub returns-then-stays-clause-most : goal.returns-then-stays-clause-most
returns-then-stays-clause-most c = omega (arith, text-twice c.args.coder c.args.newline (chars c.args.text.now), ap length (c.stays.ensures c.if-stays.true))

pub returns-then-stays-clause-few : goal.returns-then-stays-clause-few
returns-then-stays-clause-few c = omega (arith, text-least c.args.coder c.args.newline (chars c.args.text.now), ap length (c.stays.ensures c.if-stays.true))
