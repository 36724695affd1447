use Rattle.std.proofs.Common.{◌≡◌, take}
use Rattle.py_memio.specs.StringIO.{characters_of}
use Rattle.py_memio.proofs.characters.text_of.Given as goal

abbrev pub invariant-loop-character : goal.invariant-loop-character
invariant-loop-character l = characters_of l.text ≡ take l.character-index l.characters
