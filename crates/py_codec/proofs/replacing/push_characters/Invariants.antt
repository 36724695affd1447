use Rattle.std.proofs.Common.{◌≡◌, ◌++◌, take}
use Rattle.py_codec.specs.Answers.{text_of}
use Rattle.py_codec.proofs.replacing.push_characters.Given as goal

abbrev pub invariant-loop-character : goal.invariant-loop-character
invariant-loop-character l = text_of l.text ≡ text_of l.fn.text ++ take l.character-index l.characters
