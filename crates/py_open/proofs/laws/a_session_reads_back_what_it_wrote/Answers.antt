use Rattle.py_open.proofs.ReadBack.{reads_own}
use Rattle.py_open.proofs.laws.a_session_reads_back_what_it_wrote.Goals as goal

pub returns : goal.returns
returns c = reads_own
