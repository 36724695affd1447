use Rattle.std.proofs.Common.{arith}
use Rattle.py_stream.proofs.Giving.{length-joined_more, length-joined_parts}
use Rattle.py_stream.proofs.moving.end_of_lines.Goals as goal

pub returns-then-count-end : goal.returns-then-count-end
returns-then-count-end c = grind (arith, length-joined_parts)

pub loop-line-preserved : goal.loop-line-preserved
loop-line-preserved c = grind (arith, length-joined_more)
