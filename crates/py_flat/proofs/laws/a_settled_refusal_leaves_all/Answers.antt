use Rattle.py_flat.proofs.Settling.{refusal_leaves_all}
use Rattle.py_flat.proofs.laws.a_settled_refusal_leaves_all.Goals as goal

pub returns : goal.returns
returns c = refusal_leaves_all
