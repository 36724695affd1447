-- `read_exact` ends with the buffer, whose front has what isn't left, by readings that gave it one after the other.
use Rattle.std.proofs.Common.{◌≡◌, ◌-◌, ◌≤◌, length, take, drop}
use Rattle.std.specs.Io.KnownBytes.{Consumes}
use Rattle.py_adapters.proofs.Turns.{CameInTurn}
use Rattle.py_adapters.proofs.std_stream.StdStreamRead.read_exact.Given as goal

abbrev pub invariant-loop-at : goal.invariant-loop-at
invariant-loop-at g l = (length l.buf ≡ length l.initial.buf) × (l.at ≤ length l.buf) × (drop l.at l.buf ≡ drop l.at l.initial.buf) × Consumes (g.S.ReadOnce.left l.initial.self) (g.S.ReadOnce.left l.self) (take l.at l.buf) × CameInTurn g.S.ReadOnce.answers (length l.initial.buf) l.at l.initial.self l.buf l.self

abbrev pub decreases-loop-at : goal.decreases-loop-at
decreases-loop-at g l = length l.initial.buf - l.at
