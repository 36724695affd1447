use Rattle.std.proofs.Common.{length, ◌-◌}
use Rattle.py_plain.specs.declared.encoding.Encoding.TheVariants.{Latin1}
use Rattle.py_blocks.specs.Texts.{text_of}
use Rattle.py_blocks.specs.Runs.{IsRun}
use Rattle.py_blocks.proofs.runs.push_latin1_run.Given as goal

abbrev pub invariant-loop-ascii : goal.invariant-loop-ascii
invariant-loop-ascii l = IsRun Latin1 l.bytes (text_of l.fn.text) (text_of l.text) l.place

abbrev pub decreases-loop-ascii : goal.decreases-loop-ascii
decreases-loop-ascii l = length l.bytes - l.place
