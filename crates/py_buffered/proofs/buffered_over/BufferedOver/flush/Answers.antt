use Rattle.py_flat.specs.Calls.{Flush}
use Rattle.py_stream.specs.Answers.{Answers}
use Rattle.py_stream.specs.Replies.{done_reply}
use Rattle.py_buffered.proofs.Seen.{holds_seen}
use Rattle.py_buffered.proofs.buffered_over.BufferedOver.flush.Goals as goal

pub returns-clause-answers : goal.returns-clause-answers
returns-clause-answers g c = holds_seen g.K.BufferedKind.seen g.K.BufferedKind.stream g.K.BufferedKind.keeps_stream (λ old new. Answers old Flush (done_reply c.flush.result) new) c.self.inside.inner c.flush.new.self c.args.self.now c.self.view_is c.flush.ensures.answers
