use Rattle.py_memio.proofs.Lent.{calls_keep, writes_stand, writes_keep}
use Rattle.py_memio.proofs.laws.lent_bytes_keep_their_number.Goals as goal

pub returns : goal.returns
returns c = record { calls = calls_keep; writes = writes_stand; number = writes_keep }
