use Rattle.py_open.proofs.Runs.{run_spares, run_writes_none}
use Rattle.py_open.proofs.laws.a_session_that_reads_spares_the_bytes.Goals as goal

pub returns-clause-written : goal.returns-clause-written
returns-clause-written c = run_writes_none

pub returns-clause-bytes : goal.returns-clause-bytes
returns-clause-bytes c = run_spares
