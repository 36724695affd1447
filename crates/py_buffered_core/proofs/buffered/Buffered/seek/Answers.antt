use Rattle.std.proofs.Common.{ℤ, Some, refl, subst₂, to_z-of_z}
use Rattle.py_flat.specs.Calls.{Seek}
use Rattle.py_stream.specs.Access.{can_of}
use Rattle.py_stream.specs.Answers.{Answers}
use Rattle.py_stream.specs.Replies.{place_reply}
use Rattle.py_stream.proofs.Refused.{detached_answers}
use Rattle.py_engine.specs.Engine.{stream_of}
use Rattle.py_buffered_core.proofs.buffered.Buffered.seek.Goals as goal
use Rattle.py_buffered_core.proofs.buffered.Buffered.seek.Goals.{in-Some, in-None}

pub returns-clause-answers : goal.returns-clause-answers
returns-clause-answers g c = elim c.match-self.branch [
  | in-Some w ↦ rw (← c.self.view_is, w.in-Some.is, w.result-is, w.self-inside-is)
      (subst₂ (λ (offset : ℤ) (whence : ℤ). Answers (stream_of w.in-Some.data) (Seek offset whence) (place_reply w.seek.result) (stream_of w.seek.new.stream)) (to_z-of_z c.ranges.offset) (to_z-of_z c.ranges.whence) w.seek.ensures)
  | in-None w ↦ rw (← c.self.view_is, w.result-is, w.self-inside-is, w.in-None.is) (detached_answers (can_of c.self.inside.access c.self.inside.seekable) (Some c.self.inside.size) (Seek c.args.offset c.args.whence) refl refl)
]
