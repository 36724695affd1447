use Rattle.py_plain.proofs.Joining.{two, many}
use Rattle.py_plain.proofs.Looking.{reading}
use Rattle.py_plain.proofs.pieces.pieces_decode_as_one.Goals as goal

pub returns : goal.returns
returns c = record { two = two; many = many; reading = reading }
