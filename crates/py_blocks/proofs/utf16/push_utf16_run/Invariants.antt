use Rattle.std.proofs.Common.{length, ◌-◌}
use Rattle.py_blocks.specs.Texts.{text_of}
use Rattle.py_blocks.specs.Runs.{IsRun, utf16}
use Rattle.py_blocks.proofs.utf16.push_utf16_run.Given as goal

abbrev pub invariant-loop-blocks : goal.invariant-loop-blocks
invariant-loop-blocks l = IsRun (utf16 l.big) l.bytes (text_of l.fn.text) (text_of l.text) l.place

abbrev pub decreases-loop-blocks : goal.decreases-loop-blocks
decreases-loop-blocks l = length l.bytes - l.place
