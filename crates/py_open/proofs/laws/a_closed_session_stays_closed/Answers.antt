use Rattle.py_open.proofs.Runs.{closed_stays}
use Rattle.py_open.proofs.laws.a_closed_session_stays_closed.Goals as goal

pub returns : goal.returns
returns c = closed_stays
