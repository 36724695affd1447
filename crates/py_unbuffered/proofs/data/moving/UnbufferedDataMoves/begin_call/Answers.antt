use Rattle.std.proofs.Common.{subst}
use Rattle.py_unbuffered.proofs.Begun.{Stands, begins, is_sound}
use Rattle.py_unbuffered.proofs.data.moving.UnbufferedDataMoves.begin_call.Goals as goal

pub returns-clause-begins : goal.returns-clause-begins
returns-clause-begins g c = begins c.args.self.now c.begin.new.self c.begin.result c.begin.ensures

pub returns-clause-sound : goal.returns-clause-sound
returns-clause-sound g c = is_sound c.args.self.now (subst Stands c.self.view_is c.self.invariant)
