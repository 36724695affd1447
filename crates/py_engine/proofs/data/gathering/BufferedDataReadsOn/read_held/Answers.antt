use Rattle.std.proofs.Common.{arith, subst}
use Rattle.py_stream.specs.declared.stop.Stop.TheVariants as stop
use Rattle.py_stream.specs.ReadingOn.{ReadsInto}
use Rattle.py_engine.specs.Engine.{EngineView}
use Rattle.py_engine.specs.Reading.{reading_of}
use Rattle.py_engine.proofs.Transfers.{made_advanced, holds_less, held_enough}
use Rattle.py_engine.proofs.data.gathering.BufferedDataReadsOn.read_held.Goals as goal

pub returns-then-held-buffer-clause-outcome : goal.returns-then-held-buffer-clause-outcome
returns-then-held-buffer-clause-outcome g c = holds_less c.args.self.now c.copy_ahead-held.result c.copy_ahead-held.new.buffer c.requires.reads c.requires.live (omega arith) (omega arith) c.copy_ahead-held.ensures.front

pub returns-clause-outcome : goal.returns-clause-outcome
returns-clause-outcome g c =
    subst (λ (engine : EngineView). ReadsInto (reading_of c.args.self.now) (record { count = c.copy_ahead-held.result; stop = stop.Enough }) c.copy_ahead-held.new.buffer (reading_of engine))
    (made_advanced c.args.self.now c.self.inside.live.raw c.self.inside.raw_place c.self.inside.window c.advance.new.self c.self.inside.live.access c.self.inside.live.life c.self.inside.live.short c.copy_ahead-held.result c.self.view_is c.advance.ensures)
    (held_enough c.args.self.now c.copy_ahead-held.result c.copy_ahead-held.new.buffer c.requires.reads c.requires.live (omega arith) (omega arith) c.copy_ahead-held.ensures.front)
