use Rattle.std.proofs.Common.{◌-◌}
use Rattle.py_flat.specs.Limits.{greatest_place}
use Rattle.py_read_text.specs.Reading.{Gathers}
use Rattle.py_read_text.proofs.read_text.ReadText.gather.Given as goal

-- nothing but bytes came
abbrev pub invariant-loop-stop : goal.invariant-loop-stop
invariant-loop-stop g l = Gathers l.fn.self l.wanted l.self

-- each read brings the buffer nearer to the greatest place
abbrev pub decreases-loop-stop : goal.decreases-loop-stop
decreases-loop-stop g l = greatest_place - l.self.buffer.place
