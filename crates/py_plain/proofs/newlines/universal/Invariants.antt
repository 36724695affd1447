use Rattle.std.proofs.Common.{◌≡◌, ◌++◌, false, drop}
use Rattle.py_plain.proofs.Translating.{finished_to}
use Rattle.py_plain.proofs.newlines.universal.Given as goal

-- what is out, and what the characters from here on give, are what all give
abbrev pub invariant-loop-character : goal.invariant-loop-character
invariant-loop-character l = l.out.items ++ finished_to l.last l.held (drop l.character-index l.characters) ≡ finished_to l.last false l.characters
