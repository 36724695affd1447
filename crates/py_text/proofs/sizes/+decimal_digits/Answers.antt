use Rattle.std.proofs.Common.{arith}
use Rattle.std.proofs.lemmas.Fmt.{length-decimal-le}
use Rattle.py_text.proofs.Lengths.{digits-one, digits-more}
use Rattle.py_text.proofs.sizes.+decimal_digits.Goals as goal

pub returns-then-value-lt10-clause-digits : goal.returns-then-value-lt10-clause-digits
returns-then-value-lt10-clause-digits t c = digits-one c.args.value (omega arith)

pub returns-clause-digits : goal.returns-clause-digits
returns-clause-digits t c = digits-more c.args.value c.decimal_digits.result (omega arith) (omega arith) c.decimal_digits.ensures.digits

pub returns-clause-few : goal.returns-clause-few
returns-clause-few t c =
    omega (arith, digits-more c.args.value c.decimal_digits.result (omega arith) (omega arith) c.decimal_digits.ensures.digits, length-decimal-le 10 c.args.value (omega arith) (omega arith) (omega arith))
