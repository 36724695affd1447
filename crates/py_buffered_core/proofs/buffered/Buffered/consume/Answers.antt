use Rattle.std.proofs.Common.{refl}
use Rattle.py_buffered_core.proofs.buffered.Buffered.consume.Goals as goal
use Rattle.py_buffered_core.proofs.buffered.Buffered.consume.Goals.{in-Some, in-None}

pub returns-clause-passes : goal.returns-clause-passes
returns-clause-passes g c = elim c.match-self.branch [
  | in-Some w ↦ rw (← c.self.view_is, w.in-Some.is, w.result-is, w.self-inside-is) w.consume.ensures
  | in-None w ↦ rw (← c.self.view_is, w.result-is, w.self-inside-is, w.in-None.is) (refl, refl)
]
