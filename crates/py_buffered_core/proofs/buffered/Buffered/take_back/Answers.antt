use Rattle.std.proofs.Common.{refl}
use Rattle.py_buffered_core.proofs.buffered.Buffered.take_back.Goals as goal
use Rattle.py_buffered_core.proofs.buffered.Buffered.take_back.Goals.{in-Some, in-None}

pub returns-clause-takes : goal.returns-clause-takes
returns-clause-takes g c = elim c.match-self.branch [
  | in-Some w ↦ rw (← c.self.view_is, w.in-Some.is, w.result-is, w.self-inside-is) (w.take_back.ensures.takes c.self.inside.taken)
  | in-None w ↦ rw (← c.self.view_is, w.result-is, w.self-inside-is, w.in-None.is) (refl, refl)
]
