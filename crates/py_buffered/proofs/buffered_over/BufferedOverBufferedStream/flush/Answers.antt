use Rattle.std.proofs.Common.{◌∙◌}
use Rattle.py_flat.specs.Calls.{Flush}
use Rattle.py_stream.specs.Replies.{done_reply}
use Rattle.py_stream.specs.Answers.{Answers}
use Rattle.py_stream.specs.Buffer.{AnswersAsBuffer}
use Rattle.py_buffered.proofs.Seen.{holds_seen, holds_shown}
use Rattle.py_buffered.proofs.buffered_over.BufferedOverBufferedStream.flush.Goals as goal

pub returns-clause-buffer : goal.returns-clause-buffer
returns-clause-buffer g c = holds_shown g.K.BufferedKind.seen g.K.BufferedKind.stream g.K.BufferedKind.keeps_stream g.K.BufferedKind.taken g.K.BufferedKind.WRITES g.K.BufferedKind.keeps_taken (λ old new. AnswersAsBuffer old Flush (done_reply c.flush.result) new) c.self.inside.inner c.flush.new.self c.args.self.now c.self.view_is c.self.invariant.2 (λ no. c.flush.ensures.taken ∙ c.self.invariant.2 no) c.flush.ensures.answers

pub returns-clause-own : goal.returns-clause-own
returns-clause-own g c = holds_seen g.K.BufferedKind.seen g.K.BufferedKind.stream g.K.BufferedKind.keeps_stream (λ old new. Answers old Flush (done_reply c.flush.result) new) c.self.inside.inner c.flush.new.self c.args.self.now c.self.view_is c.flush.ensures.own
