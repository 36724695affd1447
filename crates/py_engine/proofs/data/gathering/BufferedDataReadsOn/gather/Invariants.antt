use Rattle.std.proofs.Common.{◌≡◌, ◌-◌, ℕ, List}
use Rattle.py_flat.specs.Limits.{greatest_place}
use Rattle.py_window.specs.Window.{end_of}
use Rattle.py_engine.proofs.Gathering.{GatheredTo, MovedSome}
use Rattle.py_engine.proofs.data.gathering.BufferedDataReadsOn.gather.Given as goal

-- all that was collected came next, and the collector wants what it wanted
abbrev pub invariant-loop-used : goal.invariant-loop-used
invariant-loop-used g l = record {
  gathered : GatheredTo l.fn.self (g.C.Collector.collected l.collector) l.moved l.self;
  some : MovedSome (g.C.Collector.wanted l.fn.collector) l.fn.self (g.C.Collector.collected l.collector) l.moved;
  same : (rest : List ℕ) → g.C.Collector.wanted l.collector rest ≡ g.C.Collector.wanted l.fn.collector rest;
  stays : g.C.Collector.is_open l.collector;
}

-- each piece ends nearer to the greatest place
abbrev pub decreases-loop-used : goal.decreases-loop-used
decreases-loop-used g l = greatest_place - end_of l.self.window
