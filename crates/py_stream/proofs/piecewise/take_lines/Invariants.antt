use Rattle.std.proofs.Common.{take}
use Rattle.py_flat.specs.Lines.{joined}
use Rattle.py_stream.specs.Taking.{TookAll, FitsBehind, KeepsBehind}
use Rattle.py_stream.proofs.piecewise.take_lines.Given as goal

-- the lines so far were taken, and more may be
abbrev pub invariant-loop-line : goal.invariant-loop-line
invariant-loop-line g l = record {
  all : TookAll (g.S.TakesPieces.shows l.fn.stream) (joined (take l.line-index l.line-items)) (g.S.TakesPieces.shows l.stream);
  room : FitsBehind (g.S.TakesPieces.shows l.fn.stream) (joined (take l.line-index l.line-items)) → KeepsBehind (g.S.TakesPieces.shows l.fn.stream) (joined (take l.line-index l.line-items)) (g.S.TakesPieces.shows l.stream);
  takes : g.S.TakesPieces.takes l.stream;
}
