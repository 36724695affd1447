use Rattle.std.proofs.Common.{◌≡◌, ◌+◌, chars, length}
use denote.Text.{Utf8}
use denote.Shadow.{shadow}
use Rattle.py_plain.specs.Encode.{run_length}
use Rattle.py_codec.proofs.encoding.run_length.Given as goal

abbrev pub invariant-loop-character : goal.invariant-loop-character
invariant-loop-character l = record {
  is_text : shadow (Utf8 l.left);
  counted : l.length + run_length l.encoding (chars l.left) ≡ run_length l.encoding (chars l.text);
}

abbrev pub decreases-loop-character : goal.decreases-loop-character
decreases-loop-character l = length (chars l.left)
