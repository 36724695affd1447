use Rattle.std.proofs.Common.{◌+◌, ◌*◌, false, length, if◌then◌else◌}
use Rattle.py_read_text.specs.Reading.{Coming, Follows}
use Rattle.py_read_text.proofs.looking.look.Given as goal

-- what is in hand was looked at
abbrev pub invariant-loop-stop : goal.invariant-loop-stop
invariant-loop-stop l = Follows (Coming false) l.fn.held l.held

-- bytes are decoded, or all of them may be the next time
abbrev pub decreases-loop-stop : goal.decreases-loop-stop
decreases-loop-stop l = 2 * length l.held.bytes + (if l.all then 0 else 1)
