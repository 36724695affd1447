use Rattle.py_script.proofs.WordLaws.{writelines_line}
use Rattle.py_script.proofs.laws.answered_lines_can_be_written.Goals as goal

pub returns : goal.returns
returns c = writelines_line c.args.lines.now c.read_lines.ensures.bytes
