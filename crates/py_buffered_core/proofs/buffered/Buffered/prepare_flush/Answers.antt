use Rattle.std.proofs.Common.{refl}
use Rattle.py_buffered_core.proofs.buffered.Buffered.prepare_flush.Goals as goal
use Rattle.py_buffered_core.proofs.buffered.Buffered.prepare_flush.Goals.{in-Some, in-None}

pub returns-clause-prepares : goal.returns-clause-prepares
returns-clause-prepares g c = elim c.match-self.branch [
  | in-Some w ↦ rw (← c.self.view_is, w.in-Some.is, w.result-is, w.self-inside-is) (w.prepare_flush.ensures.prepares c.self.inside.taken)
  | in-None w ↦ rw (← c.self.view_is, w.result-is, w.self-inside-is, w.in-None.is) (refl, refl)
]
