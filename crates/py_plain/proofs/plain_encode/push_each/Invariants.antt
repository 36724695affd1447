use Rattle.std.proofs.Common.{◌≡◌, ◌++◌, take}
use Rattle.py_plain.specs.Escapes.{each_spelled}
use Rattle.py_plain.specs.Escaping.{spelled_by}
use Rattle.py_plain.proofs.plain_encode.push_each.Given as goal

abbrev pub invariant-loop-character : goal.invariant-loop-character
invariant-loop-character l = l.out.items ≡ l.fn.out.items ++ each_spelled (spelled_by l.escape) (take l.character-index l.characters)
