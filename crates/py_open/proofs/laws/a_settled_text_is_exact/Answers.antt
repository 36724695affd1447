use Rattle.py_open.proofs.Runs.{settled_is_exact}
use Rattle.py_open.proofs.laws.a_settled_text_is_exact.Goals as goal

pub returns : goal.returns
returns c = settled_is_exact
