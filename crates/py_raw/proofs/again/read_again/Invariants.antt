-- nothing was taken from the reader so far
use Rattle.std.specs.Io.KnownBytes.{Keeps}
use Rattle.py_raw.proofs.again.read_again.Given as goal

abbrev pub invariant-tries : goal.invariant-tries
invariant-tries g l = record {
  kept : Keeps (g.R.Read.remaining l.initial.reader) (g.R.Read.remaining l.reader);
}
