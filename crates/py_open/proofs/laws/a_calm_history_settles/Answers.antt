use Rattle.py_open.proofs.Runs.{calm_settles}
use Rattle.py_open.proofs.laws.a_calm_history_settles.Goals as goal

pub returns : goal.returns
returns c = calm_settles
