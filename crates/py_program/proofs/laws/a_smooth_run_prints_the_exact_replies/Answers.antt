use Rattle.py_open.proofs.Runs.{smooth_settles}
use Rattle.py_program.proofs.Exact.{prints_exactly}
use Rattle.py_program.proofs.laws.a_smooth_run_prints_the_exact_replies.Goals as goal

pub returns : goal.returns
returns c = prints_exactly smooth_settles c.a_settled_text_is_exact.ensures
