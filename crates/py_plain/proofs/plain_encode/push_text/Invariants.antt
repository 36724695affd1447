use Rattle.std.proofs.Common.{take, true}
use Rattle.py_plain.specs.Encode.{text_bytes}
use Rattle.py_plain.specs.Writing.{Writes}
use Rattle.py_plain.proofs.plain_encode.push_text.Given as goal

abbrev pub invariant-loop-character : goal.invariant-loop-character
invariant-loop-character l = Writes (text_bytes l.encoding (take l.character-index l.text)) l.fn.out.items l.out.items true
