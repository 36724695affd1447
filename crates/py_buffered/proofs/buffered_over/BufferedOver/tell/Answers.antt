use Rattle.py_flat.specs.Calls.{Tell}
use Rattle.py_stream.specs.Answers.{Answers}
use Rattle.py_stream.specs.Replies.{place_reply}
use Rattle.py_buffered.proofs.Seen.{holds_seen}
use Rattle.py_buffered.proofs.buffered_over.BufferedOver.tell.Goals as goal

pub returns-clause-answers : goal.returns-clause-answers
returns-clause-answers g c = holds_seen g.K.BufferedKind.seen g.K.BufferedKind.stream g.K.BufferedKind.keeps_stream (λ old new. Answers old Tell (place_reply c.tell.result) new) c.self.inside.inner c.tell.new.self c.args.self.now c.self.view_is c.tell.ensures.answers
