use Rattle.std.proofs.Common.{◌-◌, ◌^◌, length}
use Rattle.py_stream.proofs.ReadingInto.{ReadsAll}
use Rattle.py_stream.proofs.reading_on.read_all.Given as goal

abbrev pub invariant-loop-moved : goal.invariant-loop-moved
invariant-loop-moved g l = record {
  came : ReadsAll (g.S.ReadsOn.shows l.fn.stream) l.bytes.items l.wanted l.moved (g.S.ReadsOn.shows l.stream);
  reads : g.S.ReadsOn.reads l.stream;
}

abbrev pub decreases-loop-moved : goal.decreases-loop-moved
decreases-loop-moved g l = 2 ^ 63 - length l.bytes.items
