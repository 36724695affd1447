use Rattle.std.specs.Prelude.{vec_capacity}
use Rattle.std.proofs.Common.{◌≤◌, length, chars}
use denote.Text.{Utf8}
use denote.Shadow.{shadow}
use Rattle.py_text.specs.EachWritten.{IsWhole}
use Rattle.py_text.proofs.Lines.{IsDone}
use Rattle.py_text.proofs.pushing.push_lines.Given as goal

abbrev pub invariant-loop-left : goal.invariant-loop-left
invariant-loop-left l = record {
  is_text : shadow (Utf8 l.left);
  whole : IsWhole l.coder.errors l.coder.encoding (chars l.left);
  done : IsDone l.coder l.newline l.fn.out.items l.out.items (chars l.text) (chars l.left);
  room : vec_capacity l.fn.out ≤ vec_capacity l.out;
}

abbrev pub decreases-loop-left : goal.decreases-loop-left
decreases-loop-left l = length (chars l.left)
