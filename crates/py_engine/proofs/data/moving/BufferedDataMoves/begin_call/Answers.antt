use Rattle.std.proofs.Common.{subst}
use Rattle.py_engine.specs.Engine.{Stands}
use Rattle.py_engine.proofs.Standing.{is_sound, begins, owes_by}
use Rattle.py_engine.proofs.data.moving.BufferedDataMoves.begin_call.Goals as goal

pub returns-clause-begins : goal.returns-clause-begins
returns-clause-begins g c = begins c.args.self.now c.begin.new.self c.begin.result c.begin.ensures

pub returns-clause-sound : goal.returns-clause-sound
returns-clause-sound g c = is_sound c.args.self.now (subst Stands c.self.view_is c.self.invariant)

pub returns-clause-owes : goal.returns-clause-owes
returns-clause-owes g c = owes_by c.args.self.now (subst Stands c.self.view_is c.self.invariant)
