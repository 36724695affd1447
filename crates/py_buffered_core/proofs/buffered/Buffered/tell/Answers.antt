use Rattle.std.proofs.Common.{Some, refl, arith}
use Rattle.py_flat.specs.Calls.{Tell}
use Rattle.py_stream.specs.Access.{can_of}
use Rattle.py_stream.proofs.Refused.{detached_answers}
use Rattle.py_buffered_core.proofs.buffered.Buffered.tell.Goals as goal
use Rattle.py_buffered_core.proofs.buffered.Buffered.tell.Goals.{in-Some, in-None}

pub returns-clause-answers : goal.returns-clause-answers
returns-clause-answers g c = elim c.match-self.branch [
  | in-Some w ↦ rw (← c.self.view_is, w.in-Some.is, w.result-is, w.self-inside-is) w.tell.ensures.answers
  | in-None w ↦ rw (← c.self.view_is, w.result-is, w.self-inside-is, w.in-None.is) (detached_answers (can_of c.self.inside.access c.self.inside.seekable) (Some c.self.inside.size) (Tell) refl refl)
]

pub returns-clause-tells : goal.returns-clause-tells
returns-clause-tells g c = elim c.match-self.branch [
  | in-Some w ↦ rw (← c.self.view_is, w.in-Some.is, w.result-is, w.self-inside-is) (w.tell.ensures.tells c.self.inside.taken)
  | in-None w ↦ rw (← c.self.view_is, w.result-is, w.self-inside-is, w.in-None.is) (record { says = refl; far = omega arith; same = refl })
]
