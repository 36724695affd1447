use Rattle.std.proofs.Common.{rules}
use Rattle.py_memio.proofs.Moving.{seek_refused}
use Rattle.py_memio.proofs.bytes_io.BytesIO.seek.Goals as goal

pub returns-in_err-target-clause-answer : goal.returns-in_err-target-clause-answer
returns-in_err-target-clause-answer c = search (rules, seek_refused)
