use Rattle.std.proofs.Common.{◌≡◌, ◌*◌, ◌≤◌, ◌+◌, length, chars}
use denote.Text.{Utf8}
use denote.Shadow.{shadow}
use Rattle.py_text.specs.EachWritten.{each_written}
use Rattle.py_text.proofs.sizes.length_of_lines.Given as goal

abbrev pub invariant-loop-left : goal.invariant-loop-left
invariant-loop-left l = record {
  is_text : shadow (Utf8 l.left);
  counted : l.size + length (each_written l.coder l.fn.newline (chars l.left)) ≡ length (each_written l.coder l.fn.newline (chars l.text));
  few : l.size + 26 * length (chars l.left) ≤ 26 * length (chars l.text);
}

abbrev pub decreases-loop-left : goal.decreases-loop-left
decreases-loop-left l = length (chars l.left)
