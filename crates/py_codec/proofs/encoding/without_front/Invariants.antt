use Rattle.std.proofs.Common.{◌≡◌, ◌≤◌, chars, length, drop}
use denote.Text.{Utf8}
use denote.Shadow.{shadow}
use Rattle.py_codec.proofs.encoding.without_front.Given as goal

abbrev pub invariant-loop : goal.invariant-loop
invariant-loop l = record {
  is_text : shadow (Utf8 l.left);
  rest : chars l.left ≡ drop l.counter (chars l.text);
  within : l.counter ≤ length (chars l.text);
}
