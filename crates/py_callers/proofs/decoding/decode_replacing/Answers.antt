use Rattle.py_callers.proofs.Replacing.{only_memory}
use Rattle.py_callers.proofs.decoding.decode_replacing.Goals as goal

pub returns-in-Err-clause-refused : goal.returns-in-Err-clause-refused
returns-in-Err-clause-refused c = only_memory c.args.bytes.now c.in-Err.fault c.in-Err.ensures
