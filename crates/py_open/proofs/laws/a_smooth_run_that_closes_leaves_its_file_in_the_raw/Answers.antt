use Rattle.py_open.proofs.InRaw.{close_leaves_in_raw}
use Rattle.py_open.proofs.laws.a_smooth_run_that_closes_leaves_its_file_in_the_raw.Goals as goal

pub returns : goal.returns
returns c = close_leaves_in_raw
