use Rattle.py_open.proofs.Closing.{opened_kept, run_kept, run_closes}
use Rattle.py_open.proofs.laws.a_done_close_closes_its_raw.Goals as goal

pub returns-clause-closed : goal.returns-clause-closed
returns-clause-closed c = run_closes

pub returns-clause-opened : goal.returns-clause-opened
returns-clause-opened c = λ raw plan opened session calls replies opens run. (run_kept opened calls replies session run (opened_kept raw plan opened opens)).has_open
