use Rattle.std.proofs.Common.{◌∙◌}
use Rattle.py_flat.specs.Calls.{Write}
use Rattle.py_stream.specs.Replies.{count_reply}
use Rattle.py_stream.specs.Answers.{Answers}
use Rattle.py_stream.specs.Buffer.{AnswersAsBuffer}
use Rattle.py_buffered.proofs.Seen.{holds_seen, holds_shown}
use Rattle.py_buffered.proofs.buffered_over.BufferedOverBufferedStream.write.Goals as goal

pub returns-clause-buffer : goal.returns-clause-buffer
returns-clause-buffer g c = holds_shown g.K.BufferedKind.seen g.K.BufferedKind.stream g.K.BufferedKind.keeps_stream g.K.BufferedKind.taken g.K.BufferedKind.WRITES g.K.BufferedKind.keeps_taken (λ old new. AnswersAsBuffer old (Write c.args.bytes.now) (count_reply c.write.result) new) c.self.inside.inner c.write.new.self c.args.self.now c.self.view_is c.self.invariant.2 (λ no. c.write.ensures.unwritten (c.self.invariant.1 ∙ no)) c.write.ensures.answers

pub returns-clause-own : goal.returns-clause-own
returns-clause-own g c = holds_seen g.K.BufferedKind.seen g.K.BufferedKind.stream g.K.BufferedKind.keeps_stream (λ old new. Answers old (Write c.args.bytes.now) (count_reply c.write.result) new) c.self.inside.inner c.write.new.self c.args.self.now c.self.view_is c.write.ensures.own
