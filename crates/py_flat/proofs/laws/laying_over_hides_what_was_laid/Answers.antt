use Rattle.py_flat.proofs.Laying.{lay_over}
use Rattle.py_flat.proofs.laws.laying_over_hides_what_was_laid.Goals as goal

pub returns : goal.returns
returns c = lay_over
