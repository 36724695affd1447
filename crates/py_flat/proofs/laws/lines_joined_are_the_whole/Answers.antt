use Rattle.py_flat.proofs.Cutting.{joined_lines}
use Rattle.py_flat.proofs.laws.lines_joined_are_the_whole.Goals as goal

pub returns : goal.returns
returns c = joined_lines
