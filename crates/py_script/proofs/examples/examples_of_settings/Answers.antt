use Rattle.std.proofs.Common.{refl}
use Rattle.std.proofs.Math.Utf8.{encode}
use Rattle.std.specs.Str.{chars, is_utf8}
use Rattle.hex.specs.Hex.{decode_pairs}
use Rattle.py_script.proofs.examples.examples_of_settings.Goals as goal

pub returns : goal.returns
unfolding decode_pairs is_utf8 chars encode
returns c = record {
  nothing = refl;
  all = refl;
  some = refl;
  no_argument = refl;
  empty_argument = refl;
  empty_hex = refl;
  line_feed = refl;
  handler_of_no_stream = refl;
}
