-- what was read so far is appended, and the room that is left in the vector shrinks
use Rattle.std.proofs.Common.{◌-◌, ◌≡◌, length}
use Rattle.py_raw.specs.ReadAll.{ReadSoFar}
use Rattle.py_raw.specs.RawStream.{Keeps, StaysOpen}
use Rattle.py_raw.proofs.raw_stream.RawStream.readall.Given as goal

abbrev pub invariant-transfers : goal.invariant-transfers
invariant-transfers g l = record {
  began : l.start ≡ length l.initial.out.items;
  keeps : Keeps (g.Self.RawStream.shows l.initial.self) (g.Self.RawStream.shows l.self);
  stays : StaysOpen (g.Self.RawStream.shows l.initial.self) (g.Self.RawStream.shows l.self);
  so_far : ReadSoFar (g.Self.RawStream.shows l.initial.self) l.initial.out.items l.out.items (g.Self.RawStream.shows l.self);
}

abbrev pub decreases-transfers : goal.decreases-transfers
decreases-transfers g l = 9223372036854775808 - length l.out.items
