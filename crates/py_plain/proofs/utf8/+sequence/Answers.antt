use Rattle.std.proofs.Common.{sym, arith}
use Rattle.py_plain.proofs.Spells.{Spells-joined}
use Rattle.py_plain.proofs.utf8.+sequence.Goals as goal

pub with_six_bits-more_bits-requires : goal.with_six_bits-more_bits-requires
with_six_bits-more_bits-requires t c =
    let joined = Spells-joined _ c.args.low c.args.high c.args.bits _ c.requires.spells (omega arith) (sym c.if-not-is_within.ensures) in
    record { continues = joined.0; fits = joined.1 }

pub sequence-requires : goal.sequence-requires
sequence-requires t c =
    let joined = Spells-joined _ c.args.low c.args.high c.args.bits _ c.requires.spells (omega arith) (sym c.if-not-is_within.ensures) in
    (omega arith, (rw c.with_six_bits-more_bits.ensures joined.2, omega arith))
