use Rattle.py_open.proofs.Runs.{split_run}
use Rattle.py_open.proofs.laws.a_run_splits_anywhere.Goals as goal

pub returns : goal.returns
returns c = split_run
