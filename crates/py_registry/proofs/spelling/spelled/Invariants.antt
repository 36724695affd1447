use Rattle.std.proofs.Common.{◌≡◌, ◌++◌, chars, length}
use denote.Text.{Utf8}
use denote.Shadow.{shadow}
use Rattle.py_codec.specs.Answers.{text_of}
use Rattle.py_registry.specs.Names.{normal_name}
use Rattle.py_registry.proofs.spelling.spelled.Given as goal

abbrev pub invariant-loop-character : goal.invariant-loop-character
invariant-loop-character l = record {
  is_text : shadow (Utf8 l.left);
  made : text_of l.made ++ normal_name (chars l.left) ≡ normal_name (chars l.name);
}

abbrev pub decreases-loop-character : goal.decreases-loop-character
decreases-loop-character l = length (chars l.left)
