use Rattle.py_open.proofs.Runs.{run_keeps_raw, run_keeps_settings}
use Rattle.py_open.proofs.laws.a_run_keeps_the_settings.Goals as goal

pub returns-clause-raw : goal.returns-clause-raw
returns-clause-raw c = run_keeps_raw

pub returns-clause-session : goal.returns-clause-session
returns-clause-session c = run_keeps_settings
