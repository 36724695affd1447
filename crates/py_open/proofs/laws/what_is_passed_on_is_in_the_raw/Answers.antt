use Rattle.py_open.proofs.Runs.{opened_in_step, run_in_step}
use Rattle.py_open.proofs.Ending.{step_passes}
use Rattle.py_open.proofs.laws.what_is_passed_on_is_in_the_raw.Goals as goal

pub returns-clause-passed : goal.returns-clause-passed
returns-clause-passed c = step_passes

pub returns-clause-opened : goal.returns-clause-opened
returns-clause-opened c = opened_in_step

pub returns-clause-kept : goal.returns-clause-kept
returns-clause-kept c = run_in_step
