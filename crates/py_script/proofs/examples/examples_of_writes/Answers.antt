use Rattle.std.proofs.Common.{refl}
use Rattle.hex.specs.Hex.{decode_pairs}
use Rattle.py_script.proofs.examples.examples_of_writes.Goals as goal

pub returns : goal.returns
unfolding decode_pairs
returns c = record {
  either_case = refl;
  no_bytes = refl;
  no_lines = refl;
  lines = refl;
  nothing_to_write = refl;
  empty_word = refl;
  odd_hex = refl;
  no_hex = refl;
  two_words = refl;
  minus_behind_hex = refl;
  empty_line = refl;
  odd_line = refl;
}
