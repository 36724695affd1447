use Rattle.std.proofs.Common.{refl}
use Rattle.std.proofs.Math.Utf8.{encode}
use Rattle.std.specs.Str.{chars, is_utf8}
use Rattle.hex.specs.Hex.{decode_pairs}
use Rattle.py_script.proofs.examples.examples_of_texts.Goals as goal

pub returns : goal.returns
unfolding decode_pairs is_utf8 chars encode
returns c = record {
  utf8 = refl;
  no_characters = refl;
  nothing_to_write = refl;
  two_words = refl;
  no_utf8 = refl;
  cut_utf8 = refl;
  no_hex = refl;
}
