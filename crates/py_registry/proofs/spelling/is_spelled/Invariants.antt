use Rattle.std.proofs.Common.{◌≡◌, chars, length}
use denote.Text.{Utf8}
use denote.Shadow.{shadow}
use Rattle.py_registry.specs.Names.{normal_name, same_name}
use Rattle.py_registry.proofs.spelling.is_spelled.Given as goal

abbrev pub invariant-loop-one : goal.invariant-loop-one
invariant-loop-one l = record {
  left_is_text : shadow (Utf8 l.left);
  given_is_text : shadow (Utf8 l.given);
  same : same_name (chars l.left) (normal_name (chars l.given)) ≡ same_name (chars l.kept) (normal_name (chars l.name));
}

abbrev pub decreases-loop-one : goal.decreases-loop-one
decreases-loop-one l = length (chars l.left)
