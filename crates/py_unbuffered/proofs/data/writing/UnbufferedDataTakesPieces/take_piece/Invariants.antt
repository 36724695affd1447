use Rattle.std.proofs.Common.{◌≤◌, length, take, ◌-◌}
use Rattle.py_stream.specs.Taking.{TookAll}
use Rattle.py_unbuffered.specs.Engine.{stream_of}
use Rattle.py_unbuffered.proofs.data.writing.UnbufferedDataTakesPieces.take_piece.Given as goal

-- the raw took the first n bytes of the line
abbrev pub invariant-loop-taken : goal.invariant-loop-taken
invariant-loop-taken g l = record {
  fits : l.taken ≤ length l.piece;
  took : TookAll (stream_of l.fn.self) (take l.taken l.piece) (stream_of l.self);
}

-- each transfer leaves fewer bytes of the line
abbrev pub decreases-loop-taken : goal.decreases-loop-taken
decreases-loop-taken g l = length l.piece - l.taken
