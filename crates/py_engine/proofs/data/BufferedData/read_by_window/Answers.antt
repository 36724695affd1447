use Rattle.std.proofs.Common.{arith, Ok, ◌<◌, length, subst}
use Rattle.py_stream.specs.ReadingOn.{StepOutcome}
use Rattle.py_engine.specs.Engine.{EngineView}
use Rattle.py_engine.specs.Reading.{reading_of, stepped}
use Rattle.py_engine.proofs.Transfers.{made_advanced, window_on, window_full}
use Rattle.py_engine.proofs.data.BufferedData.read_by_window.Goals.{then-count-rest, else-count-rest}
use Rattle.py_engine.proofs.data.BufferedData.read_by_window.Goals as goal

pub returns-clause-outcome : goal.returns-clause-outcome
returns-clause-outcome g c =
    let count = c.copy_ahead-count.result in
    let rest = c.copy_ahead-count.new.buffer in
    let asks : 0 < length rest = omega (arith, c.requires.asks, c.in_ok-filled.ensures, c.copy_ahead-count.ensures.length) in
    elim c.if-count-rest.branch [
      | then-count-rest w ↦ rw (c.step_by.ensures, w.self-is)
          (subst (λ (engine : EngineView). StepOutcome (reading_of c.args.self.now) c.args.moved (Ok (stepped c.in_ok-filled.filled count (length rest))) rest (reading_of engine))
          (made_advanced c.fill.new.self c.self.inside.live.raw c.self.inside.raw_place c.self.inside.window w.advance.new.self c.self.inside.live.access c.self.inside.live.life c.self.inside.live.short count c.self.view_is w.advance.ensures)
          (window_full c.args.self.now c.fill.new.self c.args.moved c.in_ok-filled.filled count rest asks c.in_ok-filled.ensures (omega (arith, c.copy_ahead-count.ensures.count, c.copy_ahead-count.ensures.length)) (omega (arith)) c.copy_ahead-count.ensures.front))
      | else-count-rest w ↦ rw (c.step_by.ensures, w.self-is)
          (window_on c.args.self.now c.fill.new.self c.args.moved c.in_ok-filled.filled count rest asks c.in_ok-filled.ensures (omega (arith, c.copy_ahead-count.ensures.count, c.copy_ahead-count.ensures.length)) (omega (arith)) c.copy_ahead-count.ensures.front)
    ]
