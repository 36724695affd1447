use Rattle.py_plain.proofs.OwnBytes.{own_unit, unit_own}
use Rattle.py_plain.proofs.laws.characters_and_their_bytes.Goals as goal

pub returns : goal.returns
returns c = record { written = own_unit; read = unit_own }
