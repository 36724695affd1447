use Rattle.py_open.proofs.Joining.{join_runs}
use Rattle.py_open.proofs.laws.two_runs_are_a_run.Goals as goal

pub returns : goal.returns
returns c = join_runs
