use Rattle.py_flat.specs.Calls.{Write}
use Rattle.py_stream.specs.Answers.{Answers}
use Rattle.py_stream.specs.Replies.{count_reply}
use Rattle.py_stream.specs.Taken.{taken_of}
use Rattle.py_buffered.proofs.Seen.{holds_seen, counts_so}
use Rattle.py_buffered.proofs.buffered_over.BufferedOver.write.Goals as goal

pub returns-clause-answers : goal.returns-clause-answers
returns-clause-answers g c = holds_seen g.K.BufferedKind.seen g.K.BufferedKind.stream g.K.BufferedKind.keeps_stream (λ old new. Answers old (Write c.args.bytes.now) (count_reply c.write.result) new) c.self.inside.inner c.write.new.self c.args.self.now c.self.view_is c.write.ensures.answers

pub returns-clause-taken : goal.returns-clause-taken
returns-clause-taken g c = counts_so g.K.BufferedKind.seen g.K.BufferedKind.stream g.K.BufferedKind.keeps_stream g.K.BufferedKind.taken g.K.BufferedKind.WRITES g.K.BufferedKind.keeps_taken (λ old new. taken_of c.args.bytes.now (count_reply c.write.result) old.place new.place) c.self.inside.inner c.write.new.self c.args.self.now c.self.view_is g.met.K.WritingKind.writes c.write.ensures.taken
