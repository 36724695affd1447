use Rattle.py_flat.proofs.Settling.{smooth_is_settled}
use Rattle.py_flat.proofs.laws.a_smooth_step_is_settled.Goals as goal

pub returns : goal.returns
returns c = smooth_is_settled
