use Rattle.py_open.proofs.ReadBack.{opened_reads_other, reads_other}
use Rattle.py_open.proofs.laws.another_session_reads_what_one_wrote.Goals as goal

pub returns-clause-opened : goal.returns-clause-opened
returns-clause-opened c = opened_reads_other

pub returns-clause-reached : goal.returns-clause-reached
returns-clause-reached c = reads_other
