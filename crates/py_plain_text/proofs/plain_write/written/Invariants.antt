use Rattle.std.proofs.Common.{◌≡◌, take}
use Rattle.py_plain_text.specs.TextWriting.{written}
use Rattle.py_plain_text.proofs.plain_write.written.Given as goal

abbrev pub invariant-loop-character : goal.invariant-loop-character
invariant-loop-character l = l.out.items ≡ written l.rule (take l.character-index l.text)
