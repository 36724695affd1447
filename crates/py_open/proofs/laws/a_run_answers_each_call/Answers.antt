use Rattle.py_open.proofs.Runs.{one_reply_each}
use Rattle.py_open.proofs.laws.a_run_answers_each_call.Goals as goal

pub returns : goal.returns
returns c = one_reply_each
