use Rattle.std.proofs.Common.{◌≡◌, true}
use Rattle.py_telling.specs.Plain.{ArePlain}
use Rattle.py_telling.proofs.plain_run.are_plain.Given as goal

-- where none that was met is otherwise, all that were met are plain
abbrev pub invariant-loop-byte : goal.invariant-loop-byte
invariant-loop-byte l = l.plain ≡ true → ArePlain l.byte-index l.bytes
