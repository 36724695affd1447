use Rattle.py_open.proofs.Runs.{history_of}
use Rattle.py_open.proofs.laws.a_run_is_a_history.Goals as goal

pub returns : goal.returns
returns c = history_of
