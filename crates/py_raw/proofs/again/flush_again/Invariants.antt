-- the writer holds what it held
use Rattle.std.specs.Io.KnownBytes.{Keeps}
use Rattle.py_raw.proofs.again.flush_again.Given as goal

abbrev pub invariant-tries : goal.invariant-tries
invariant-tries g l = record {
  kept : Keeps (g.W.Write.contents l.initial.writer) (g.W.Write.contents l.writer);
}
