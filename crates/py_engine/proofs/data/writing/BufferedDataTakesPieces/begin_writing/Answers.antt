use Rattle.std.proofs.Common.{subst}
use Rattle.py_engine.specs.Engine.{Stands}
use Rattle.py_engine.proofs.Standing.{begins_writing}
use Rattle.py_engine.proofs.data.writing.BufferedDataTakesPieces.begin_writing.Goals as goal

pub returns-clause-begins : goal.returns-clause-begins
returns-clause-begins g c = begins_writing c.args.self.now c.begin.new.self c.begin.result (subst Stands c.self.view_is c.self.invariant) c.requires.may c.begin.ensures
