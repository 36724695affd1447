use Rattle.py_open.proofs.Reached.{opened_reached, reached_on}
use Rattle.py_open.proofs.laws.a_run_reaches_its_sessions.Goals as goal

pub returns-clause-opened : goal.returns-clause-opened
returns-clause-opened c = opened_reached

pub returns-clause-kept : goal.returns-clause-kept
returns-clause-kept c = reached_on
