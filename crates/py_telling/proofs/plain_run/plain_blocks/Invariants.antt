use Rattle.std.proofs.Common.{◌-◌, ◌≤◌}
use Rattle.py_telling.specs.Plain.{ArePlain}
use Rattle.py_telling.proofs.plain_run.plain_blocks.Given as goal

-- all that were passed are plain
abbrev pub invariant-loop-run : goal.invariant-loop-run
invariant-loop-run l = record {
  few : l.run ≤ l.most;
  plain : ArePlain l.run l.bytes;
}

abbrev pub decreases-loop-run : goal.decreases-loop-run
decreases-loop-run l = l.most - l.run
