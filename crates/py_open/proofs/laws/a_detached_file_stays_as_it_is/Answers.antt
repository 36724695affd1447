use Rattle.py_open.proofs.Gone.{history_stays, run_stays}
use Rattle.py_open.proofs.laws.a_detached_file_stays_as_it_is.Goals as goal

pub returns-clause-history : goal.returns-clause-history
returns-clause-history c = history_stays

pub returns-clause-run : goal.returns-clause-run
returns-clause-run c = run_stays
