use Rattle.std.proofs.Common.{length, chars}
use denote.Text.{Utf8}
use denote.Shadow.{shadow}
use Rattle.py_blocks.specs.Writing.{Wrote}
use Rattle.py_blocks.proofs.writing.write_one_byte.Given as goal

abbrev pub invariant-loop-ascii : goal.invariant-loop-ascii
invariant-loop-ascii l = record {
  is_text : shadow (Utf8 l.left);
  wrote : Wrote l.encoding (chars l.text) l.fn.bytes.items l.bytes.items l.count (chars l.left);
}

abbrev pub decreases-loop-ascii : goal.decreases-loop-ascii
decreases-loop-ascii l = length (chars l.left)
