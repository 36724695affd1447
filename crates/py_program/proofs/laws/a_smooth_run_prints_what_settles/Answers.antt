use Rattle.py_program.proofs.Exact.{prints_settled}
use Rattle.py_program.proofs.laws.a_smooth_run_prints_what_settles.Goals as goal

pub returns : goal.returns
returns c = prints_settled c.a_smooth_run_settles.ensures
