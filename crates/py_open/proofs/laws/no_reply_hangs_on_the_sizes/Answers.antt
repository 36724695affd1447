use Rattle.py_open.proofs.Sizes.{runs_alike}
use Rattle.py_open.proofs.laws.no_reply_hangs_on_the_sizes.Goals as goal

pub returns : goal.returns
returns c = runs_alike
