use Rattle.py_open.proofs.Runs.{smooth_settles}
use Rattle.py_open.proofs.laws.a_smooth_run_settles.Goals as goal

pub returns : goal.returns
returns c = smooth_settles
