use Rattle.std.proofs.Common.{ℤ, subst₂, to_z-of_z}
use Rattle.py_flat.specs.Calls.{Seek}
use Rattle.py_stream.specs.Answers.{Answers}
use Rattle.py_stream.specs.Replies.{place_reply}
use Rattle.py_buffered_core.specs.Buffered.{seen_of}
use Rattle.py_buffered.proofs.Seen.{holds_seen}
use Rattle.py_buffered.proofs.buffered_over.BufferedOver.seek.Goals as goal

pub returns-clause-answers : goal.returns-clause-answers
returns-clause-answers g c =
    let answers = subst₂ (λ (offset : ℤ) (whence : ℤ). Answers (seen_of c.self.inside.inner) (Seek offset whence) (place_reply c.seek.result) (seen_of c.seek.new.self)) (to_z-of_z c.ranges.offset) (to_z-of_z c.ranges.whence) c.seek.ensures.answers in
    holds_seen g.K.BufferedKind.seen g.K.BufferedKind.stream g.K.BufferedKind.keeps_stream (λ old new. Answers old (Seek c.args.offset c.args.whence) (place_reply c.seek.result) new) c.self.inside.inner c.seek.new.self c.args.self.now c.self.view_is answers
