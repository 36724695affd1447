use Rattle.std.proofs.Common.{length, ◌-◌}
use Rattle.py_blocks.specs.Texts.{text_of}
use Rattle.py_blocks.specs.Runs.{IsRun, utf16}
use Rattle.py_blocks.proofs.utf16.push_units.Given as goal

abbrev pub invariant-loop-place : goal.invariant-loop-place
invariant-loop-place l = IsRun (utf16 l.big) l.bytes (text_of l.fn.text) (text_of l.text) l.place

abbrev pub decreases-loop-place : goal.decreases-loop-place
decreases-loop-place l = length l.bytes - l.place
