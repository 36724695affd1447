use Rattle.std.proofs.Common.{refl}
use Rattle.std.proofs.Math.Utf8.{encode}
use Rattle.std.specs.Str.{chars, is_utf8}
use Rattle.hex.specs.Hex.{decode_pairs}
use Rattle.py_script.specs.Words.{is_digit}
use Rattle.py_script.proofs.examples.examples_of_no_options.Goals as goal

pub returns : goal.returns
unfolding is_digit decode_pairs is_utf8 chars encode
returns c = record {
  twice = refl;
  unknown = refl;
  no_equals = refl;
  odd_hex = refl;
  no_hex = refl;
  no_utf8 = refl;
  cut_utf8 = refl;
  too_large = refl;
  too_small = refl;
  minus_alone = refl;
  two_minuses = refl;
  plus = refl;
  no_digits = refl;
  negative_chunk = refl;
  large_chunk = refl;
}
