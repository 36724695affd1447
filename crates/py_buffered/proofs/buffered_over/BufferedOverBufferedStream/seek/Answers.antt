use Rattle.std.proofs.Common.{ℤ, ◌∙◌, subst₂, to_z-of_z}
use Rattle.py_flat.specs.Calls.{Seek}
use Rattle.py_stream.specs.Replies.{place_reply}
use Rattle.py_stream.specs.Answers.{Answers}
use Rattle.py_stream.specs.Buffer.{AnswersAsBuffer}
use Rattle.py_buffered_core.specs.Buffered.{as_buffer, seen_of}
use Rattle.py_buffered.proofs.Seen.{holds_seen, holds_shown}
use Rattle.py_buffered.proofs.buffered_over.BufferedOverBufferedStream.seek.Goals as goal

pub returns-clause-buffer : goal.returns-clause-buffer
returns-clause-buffer g c =
    let answers = subst₂ (λ (offset : ℤ) (whence : ℤ). AnswersAsBuffer (as_buffer c.self.inside.inner) (Seek offset whence) (place_reply c.seek.result) (as_buffer c.seek.new.self)) (to_z-of_z c.ranges.offset) (to_z-of_z c.ranges.whence) c.seek.ensures.answers in
    holds_shown g.K.BufferedKind.seen g.K.BufferedKind.stream g.K.BufferedKind.keeps_stream g.K.BufferedKind.taken g.K.BufferedKind.WRITES g.K.BufferedKind.keeps_taken (λ old new. AnswersAsBuffer old (Seek c.args.offset c.args.whence) (place_reply c.seek.result) new) c.self.inside.inner c.seek.new.self c.args.self.now c.self.view_is c.self.invariant.2 (λ no. c.seek.ensures.taken ∙ c.self.invariant.2 no) answers

pub returns-clause-own : goal.returns-clause-own
returns-clause-own g c = holds_seen g.K.BufferedKind.seen g.K.BufferedKind.stream g.K.BufferedKind.keeps_stream (λ old new. Answers old (Seek c.args.offset c.args.whence) (place_reply c.seek.result) new) c.self.inside.inner c.seek.new.self c.args.self.now c.self.view_is (subst₂ (λ (offset : ℤ) (whence : ℤ). Answers (seen_of c.self.inside.inner) (Seek offset whence) (place_reply c.seek.result) (seen_of c.seek.new.self)) (to_z-of_z c.ranges.offset) (to_z-of_z c.ranges.whence) c.seek.ensures.own)
