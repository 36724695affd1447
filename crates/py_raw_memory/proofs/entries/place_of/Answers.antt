use Rattle.std.proofs.Common.{false, ◌≡◌, arith}
use Rattle.std.specs.Str.{bytes_eq}
use Rattle.py_raw_memory.specs.Entries.{path_of}
use Rattle.py_raw_memory.proofs.Lookups.{none_more}
use Rattle.py_raw_memory.proofs.entries.place_of.Goals as goal

pub loop-place-preserved : goal.loop-place-preserved
loop-place-preserved g c =
    let entry = c.index-entries-place.result in
    let apart : bytes_eq (path_of entry) c.args.path.now ≡ false = grind (arith, c.if-eq.ensures) in
    none_more c.args.entries.now c.loop-place.place entry c.args.path.now (omega arith) c.index-entries-place.is c.loop-place.invariant apart
