use Rattle.std.proofs.Common.{refl}
use Rattle.std.specs.Fmt.{digits}
use Rattle.py_script.proofs.examples.examples_of_refusals.Goals as goal

pub returns : goal.returns
unfolding digits
returns c = record {
  plain = refl;
  one_number = refl;
  two_numbers = refl;
  dimension = refl;
  mode = refl;
  raw_mode = refl;
  opening = refl;
}
