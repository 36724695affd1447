use Rattle.std.proofs.Common.{Some, rules, refl}
use Rattle.py_flat.specs.Calls.{Peek}
use Rattle.py_stream.specs.Access.{can_of}
use Rattle.py_stream.proofs.Refused.{detached_answers}
use Rattle.py_buffered_core.proofs.buffered.Buffered.look.Goals as goal
use Rattle.py_buffered_core.proofs.buffered.Buffered.look.Goals.{in-Some, in-None}

pub returns-clause-answers : goal.returns-clause-answers
returns-clause-answers g c = elim c.match-self.branch [
  | in-Some w ↦ rw (← c.self.view_is, w.in-Some.is, w.result-is, w.self-inside-is) w.look.ensures.answers
  | in-None w ↦ rw (← c.self.view_is, w.result-is, w.self-inside-is, w.in-None.is) (detached_answers (can_of c.self.inside.access c.self.inside.seekable) (Some c.self.inside.size) (Peek) refl refl)
]

pub returns-clause-lends : goal.returns-clause-lends
returns-clause-lends g c = elim c.match-self.branch [
  | in-Some w ↦ rw (w.result-is, w.self-inside-is) w.look.ensures.lends
  | in-None w ↦ search rules
]
