use Rattle.std.proofs.Common.{◌-◌, length}
use Rattle.py_lines.specs.Collecting.{LinesAreOpen}
use Rattle.py_lines.proofs.Collectors.{CollectsFront}
use Rattle.py_lines.proofs.lines_collector.LinesCollectorCollector.collect.Given as goal

-- the front of the piece was collected, and the hint allows more
abbrev pub invariant-loop-at : goal.invariant-loop-at
invariant-loop-at l = record {
  front : CollectsFront l.fn.self l.bytes l.used l.self;
  stays : LinesAreOpen l.self;
}

abbrev pub decreases-loop-at : goal.decreases-loop-at
decreases-loop-at l = length l.bytes - l.used
