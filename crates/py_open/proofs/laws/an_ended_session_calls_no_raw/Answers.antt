use Rattle.py_open.proofs.Resting.{run_rests}
use Rattle.py_open.proofs.laws.an_ended_session_calls_no_raw.Goals as goal

pub returns : goal.returns
returns c = run_rests
