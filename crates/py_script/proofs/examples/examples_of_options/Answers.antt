use Rattle.std.proofs.Common.{refl}
use Rattle.std.proofs.Math.Utf8.{encode}
use Rattle.std.specs.Str.{chars, is_utf8}
use Rattle.hex.specs.Hex.{decode_pairs}
use Rattle.py_script.specs.Words.{is_digit}
use Rattle.py_script.proofs.examples.examples_of_options.Goals as goal

pub returns : goal.returns
unfolding is_digit decode_pairs is_utf8 chars encode
returns c = record {
  empty_newline = refl;
  lower_case = refl;
  upper_case = refl;
  empty_name = refl;
  equals_in_name = refl;
  zero = refl;
  least = refl;
  greatest = refl;
  greatest_chunk = refl;
  two_options = refl;
}
