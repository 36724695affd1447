use Rattle.std.proofs.Common.{◌≡◌, ◌-◌, ℕ, List}
use Rattle.py_flat.specs.Limits.{greatest_place}
use Rattle.py_unbuffered.proofs.Reading.{GatheredTo}
use Rattle.py_unbuffered.proofs.data.gathering.UnbufferedDataReadsOn.gather.Given as goal

-- all that came was collected, and the collector wants what it wanted
abbrev pub invariant-loop-moved : goal.invariant-loop-moved
invariant-loop-moved g l = record {
  gathered : GatheredTo (g.C.Collector.wanted l.fn.collector) l.fn.self (g.C.Collector.collected l.collector) l.moved l.self;
  same : (rest : List ℕ) → g.C.Collector.wanted l.collector rest ≡ g.C.Collector.wanted l.fn.collector rest;
  stays : g.C.Collector.is_open l.collector;
}

-- each byte ends nearer to the greatest place
abbrev pub decreases-loop-moved : goal.decreases-loop-moved
decreases-loop-moved g l = greatest_place - l.self.place
