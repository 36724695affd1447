use Rattle.std.specs.Cmp.Lexicographic.{bytes_decides}
use Rattle.py_flat.proofs.Equality.{lines_decide}
use Rattle.py_flat.proofs.laws.equal_lists_are_the_same.Goals as goal

pub returns-clause-bytes : goal.returns-clause-bytes
returns-clause-bytes c = bytes_decides

pub returns-clause-lines : goal.returns-clause-lines
returns-clause-lines c = lines_decide
