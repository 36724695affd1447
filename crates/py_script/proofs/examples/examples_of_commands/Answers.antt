use Rattle.std.proofs.Common.{refl}
use Rattle.std.proofs.Math.Utf8.{encode}
use Rattle.std.specs.Str.{chars, is_utf8}
use Rattle.hex.specs.Hex.{decode_pairs}
use Rattle.py_script.specs.Words.{is_digit}
use Rattle.py_script.proofs.examples.examples_of_commands.Goals as goal

pub returns : goal.returns
unfolding is_digit decode_pairs is_utf8 chars encode
returns c = record {
  no_options = refl;
  line_feed = refl;
  any_order = refl;
  help = refl;
  version = refl;
  no_words = refl;
  no_path = refl;
  no_mode = refl;
  more_than_help = refl;
  other_word = refl;
}
