use Rattle.std.proofs.Common.{◌≡◌, ◌*◌, ◌≤◌, ◌+◌, length, chars}
use denote.Text.{Utf8}
use denote.Shadow.{shadow}
use Rattle.py_text.specs.EachWritten.{each_encoded}
use Rattle.py_text.proofs.sizes.length_of_each.Given as goal

abbrev pub invariant-loop-character : goal.invariant-loop-character
invariant-loop-character l = record {
  is_text : shadow (Utf8 l.left);
  counted : l.size + length (each_encoded l.coder (chars l.left)) ≡ length (each_encoded l.coder (chars l.text));
  few : l.size + 13 * length (chars l.left) ≤ 13 * length (chars l.text);
}

abbrev pub decreases-loop-character : goal.decreases-loop-character
decreases-loop-character l = length (chars l.left)
