use Rattle.py_open.proofs.Joining.{gain_entry}
use Rattle.py_open.proofs.laws.a_history_gains_an_entry.Goals as goal

pub returns : goal.returns
returns c = gain_entry
