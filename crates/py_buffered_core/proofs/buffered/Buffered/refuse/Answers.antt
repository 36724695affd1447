use Rattle.std.proofs.Common.{Some}
use Rattle.py_stream.specs.Access.{can_of}
use Rattle.py_stream.proofs.Refused.{detached_answers}
use Rattle.py_buffered_core.proofs.buffered.Buffered.refuse.Goals as goal
use Rattle.py_buffered_core.proofs.buffered.Buffered.refuse.Goals.{in-Some, in-None}

pub returns-clause-answers : goal.returns-clause-answers
returns-clause-answers g c = elim c.match-self.branch [
  | in-Some w ↦ rw (← c.self.view_is, w.in-Some.is, w.result-is, w.self-inside-is) w.refuse.ensures.answers
  | in-None w ↦ λ call alone. rw (← c.self.view_is, w.result-is, w.self-inside-is, w.in-None.is) (detached_answers (can_of c.self.inside.access c.self.inside.seekable) (Some c.self.inside.size) call alone.0 alone.1)
]
