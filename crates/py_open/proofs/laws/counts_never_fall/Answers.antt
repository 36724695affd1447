use Rattle.py_open.proofs.Runs.{run_keeps_raw}
use Rattle.py_open.proofs.laws.counts_never_fall.Goals as goal

pub returns-clause-faults : goal.returns-clause-faults
returns-clause-faults c = λ before calls replies after run. (run_keeps_raw before calls replies after run).faults

pub returns-clause-waits : goal.returns-clause-waits
returns-clause-waits c = λ before calls replies after run. (run_keeps_raw before calls replies after run).waits
