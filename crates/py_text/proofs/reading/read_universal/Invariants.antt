use Rattle.std.proofs.Common.{◌≡◌, ◌++◌, length, chars}
use denote.Text.{Utf8}
use denote.Shadow.{shadow}
use Rattle.py_plain.specs.NewlineRule.{universal, ends_held}
use Rattle.py_codec.specs.Answers.{text_of}
use Rattle.py_text.proofs.reading.read_universal.Given as goal

-- what is out, and what the rule gives of what is left, are what it gives of the whole text
abbrev pub invariant-loop-left : goal.invariant-loop-left
invariant-loop-left l = shadow (Utf8 l.left)
    × (text_of l.out ++ universal l.held (chars l.left) ≡ universal l.initial.held (chars l.text))
    × (ends_held l.held (chars l.left) ≡ ends_held l.initial.held (chars l.text))

abbrev pub decreases-loop-left : goal.decreases-loop-left
decreases-loop-left l = length l.left
