use Rattle.std.proofs.Common.{refl}
use Rattle.std.proofs.Math.Utf8.{encode}
use Rattle.std.specs.Str.{chars, is_utf8}
use Rattle.hex.specs.Hex.{decode_pairs}
use Rattle.py_script.proofs.examples.examples_of_no_settings.Goals as goal

pub returns : goal.returns
unfolding decode_pairs is_utf8 chars encode
returns c = record {
  other_order = refl;
  twice = refl;
  unknown_encoding = refl;
  no_encoding = refl;
  unknown_handler = refl;
  other_newline = refl;
  odd_hex = refl;
  no_switch = refl;
  unknown_setting = refl;
  no_value = refl;
  two_values = refl;
  two_spaces = refl;
  not_utf8 = refl;
}
