use Rattle.py_engine.proofs.Reading.{begins_reading}
use Rattle.py_engine.proofs.data.gathering.BufferedDataReadsOn.begin_reading.Goals as goal

pub returns-clause-begins : goal.returns-clause-begins
returns-clause-begins g c = begins_reading c.args.self.now c.begin.new.self c.begin.result c.requires.may c.begin.ensures
