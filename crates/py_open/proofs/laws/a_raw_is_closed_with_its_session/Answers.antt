use Rattle.py_open.proofs.Runs.{run_shuts}
use Rattle.py_open.proofs.laws.a_raw_is_closed_with_its_session.Goals as goal

pub returns : goal.returns
returns c = run_shuts
