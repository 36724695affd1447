use Rattle.py_script.proofs.WordLaws.{write_line}
use Rattle.py_script.proofs.laws.answered_bytes_can_be_written.Goals as goal

pub returns : goal.returns
returns c = write_line c.args.bytes.now c.read_bytes.ensures
