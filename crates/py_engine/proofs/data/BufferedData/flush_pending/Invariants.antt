use Rattle.std.proofs.Common.{◌≡◌, length}
use Rattle.py_engine.specs.Engine.{stream_of, IsBehind}
use Rattle.py_window.specs.Window.{pending_of}
use Rattle.py_engine.proofs.Draining.{PassesSoFar}
use Rattle.py_engine.proofs.data.BufferedData.flush_pending.Given as goal

-- no wait was asked for yet, and what the stream is opened for is as it was
abbrev pub invariant-loop-self : goal.invariant-loop-self
invariant-loop-self g l = record {
  so_far : PassesSoFar (stream_of l.fn.self) (stream_of l.self);
  access : l.self.access ≡ l.fn.self.access;
  behind : IsBehind l.fn.self → IsBehind l.self;
}

-- each transfer passes some of the owed bytes on
abbrev pub decreases-loop-self : goal.decreases-loop-self
decreases-loop-self g l = length (pending_of l.self.window)
