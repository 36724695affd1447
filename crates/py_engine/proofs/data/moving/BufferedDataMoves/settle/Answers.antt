use Rattle.std.proofs.Common.{refl}
use Rattle.py_engine.proofs.Standing.{settles_by, settles_bare}
use Rattle.py_engine.proofs.data.moving.BufferedDataMoves.settle.Goals as goal

pub returns-clause-settles : goal.returns-clause-settles
returns-clause-settles g c = settles_by c.args.self.now.access c.args.self.now c.pass_all.new.self c.pass_all.result refl c.pass_all.ensures.outcome

pub returns-clause-bare : goal.returns-clause-bare
returns-clause-bare g c = settles_bare c.args.self.now.access c.args.self.now c.pass_all.new.self c.pass_all.result refl c.pass_all.ensures.outcome c.pass_all.ensures.stands c.pass_all.ensures.behind c.pass_all.ensures.rests
