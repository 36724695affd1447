use Rattle.std.proofs.Common.{◌-◌, length}
use Rattle.py_stream.proofs.ReadingInto.{ReadsTo}
use Rattle.py_stream.proofs.reading_on.read_into.Given as goal

abbrev pub invariant-loop-more : goal.invariant-loop-more
invariant-loop-more g l = record {
  came : ReadsTo (g.S.ReadsOn.shows l.fn.stream) l.fn.moved l.count l.buffer l.has_moved (g.S.ReadsOn.shows l.stream);
  reads : g.S.ReadsOn.reads l.stream;
}

abbrev pub decreases-loop-more : goal.decreases-loop-more
decreases-loop-more g l = length l.buffer - l.count
