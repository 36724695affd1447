use Rattle.std.proofs.Common.{[], ◌≡◌, ◌-◌, ◌≤◌, length, take}
use Rattle.py_stream.specs.Taking.{TookAll}
use Rattle.py_window.specs.Window.{pending_of}
use Rattle.py_engine.specs.Engine.{stream_of, IsBehind}
use Rattle.py_engine.proofs.data.BufferedData.put_large.Given as goal

-- the first of the bytes went, and nothing is owed
abbrev pub invariant-loop-taken : goal.invariant-loop-taken
invariant-loop-taken g l = record {
  fits : l.taken ≤ length l.bytes;
  took : TookAll (stream_of l.fn.self) (take l.taken l.bytes) (stream_of l.self);
  none : pending_of l.self.window ≡ [];
  writes : IsBehind l.self;
}

abbrev pub decreases-loop-taken : goal.decreases-loop-taken
decreases-loop-taken g l = length l.bytes - l.taken
