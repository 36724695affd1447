use Rattle.py_flat.proofs.Laying.{lay_behind}
use Rattle.py_flat.proofs.laws.laying_behind_is_laying_both.Goals as goal

pub returns : goal.returns
returns c = lay_behind
