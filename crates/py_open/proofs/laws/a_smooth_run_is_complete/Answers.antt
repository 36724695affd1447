use Rattle.py_open.proofs.Runs.{smooth_completes}
use Rattle.py_open.proofs.laws.a_smooth_run_is_complete.Goals as goal

pub returns : goal.returns
returns c = smooth_completes
