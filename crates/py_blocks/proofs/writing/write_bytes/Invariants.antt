use Rattle.std.proofs.Common.{◌-◌, ◌≤◌, chars}
use denote.Text.{Utf8}
use denote.Shadow.{shadow}
use Rattle.py_blocks.specs.Writing.{Wrote}
use Rattle.py_blocks.proofs.writing.write_bytes.Given as goal

abbrev pub invariant-loop-count : goal.invariant-loop-count
invariant-loop-count l = record {
  is_text : shadow (Utf8 l.left);
  wrote : Wrote l.encoding (chars l.text) l.fn.bytes.items l.bytes.items l.count (chars l.left);
  within : l.count ≤ l.limit;
}

abbrev pub decreases-loop-count : goal.decreases-loop-count
decreases-loop-count l = l.limit - l.count
