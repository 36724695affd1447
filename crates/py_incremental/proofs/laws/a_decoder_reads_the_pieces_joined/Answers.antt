use Rattle.py_incremental.proofs.Pieces.{so_far, whole, refused, refused_for_good, held_is, stays_short, order_stays, none_held}
use Rattle.py_incremental.proofs.laws.a_decoder_reads_the_pieces_joined.Goals as goal

pub returns : goal.returns
returns c = record { so_far = so_far; whole = whole; refused = refused; refused_for_good = refused_for_good; held = held_is; short = stays_short; order = order_stays; none = none_held }
