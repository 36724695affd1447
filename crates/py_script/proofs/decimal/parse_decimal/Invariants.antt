use Rattle.std.proofs.Common.{◌≡◌, ◌<◌, ◌^◌, drop, length}
use Rattle.py_script.specs.Words.{value_onto}
use Rattle.py_script.proofs.decimal.parse_decimal.Given as goal

abbrev pub invariant-loop-digit : goal.invariant-loop-digit
invariant-loop-digit l = record {
  same : value_onto 0 l.digits ≡ value_onto l.value (drop l.digit-index l.digits);
  fits : l.value < 2 ^ 64;
  nonempty : 0 < length l.digits;
}
