use Rattle.std.proofs.Common.{length, chars}
use denote.Text.{Utf8}
use denote.Shadow.{shadow}
use Rattle.py_blocks.specs.Runs.{utf16}
use Rattle.py_blocks.specs.Writing.{Wrote}
use Rattle.py_blocks.proofs.writing.write_utf16.Given as goal

abbrev pub invariant-loop-ascii : goal.invariant-loop-ascii
invariant-loop-ascii l = record {
  is_text : shadow (Utf8 l.left);
  wrote : Wrote (utf16 l.big) (chars l.text) l.fn.bytes.items l.bytes.items l.count (chars l.left);
}

abbrev pub decreases-loop-ascii : goal.decreases-loop-ascii
decreases-loop-ascii l = length (chars l.left)
