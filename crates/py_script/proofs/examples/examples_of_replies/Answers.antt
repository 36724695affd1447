use Rattle.std.proofs.Common.{refl}
use Rattle.std.proofs.Math.Utf8.{encode}
use Rattle.std.specs.Fmt.{digits}
use Rattle.hex.specs.Hex.{encode_with}
use Rattle.py_script.proofs.examples.examples_of_replies.Goals as goal

pub returns : goal.returns
unfolding digits encode_with encode
returns c = record {
  bytes = refl;
  text = refl;
  empty_text = refl;
  lines = refl;
  count = refl;
  place = refl;
  cookie = refl;
  done = refl;
  flag = refl;
  name = refl;
  unwritten = refl;
  unwritten_without_place = refl;
}
