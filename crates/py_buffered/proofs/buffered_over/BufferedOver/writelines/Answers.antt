use Rattle.py_flat.specs.Lines.{joined}
use Rattle.py_flat.specs.Calls.{WriteLines}
use Rattle.py_stream.specs.Answers.{Answers}
use Rattle.py_stream.specs.Replies.{done_reply}
use Rattle.py_stream.specs.Taken.{taken_of}
use Rattle.py_buffered.proofs.Seen.{holds_seen, counts_so}
use Rattle.py_buffered.proofs.buffered_over.BufferedOver.writelines.Goals as goal

pub returns-clause-answers : goal.returns-clause-answers
returns-clause-answers g c = holds_seen g.K.BufferedKind.seen g.K.BufferedKind.stream g.K.BufferedKind.keeps_stream (λ old new. Answers old (WriteLines c.args.lines.now) (done_reply c.writelines.result) new) c.self.inside.inner c.writelines.new.self c.args.self.now c.self.view_is c.writelines.ensures.answers

pub returns-clause-taken : goal.returns-clause-taken
returns-clause-taken g c = counts_so g.K.BufferedKind.seen g.K.BufferedKind.stream g.K.BufferedKind.keeps_stream g.K.BufferedKind.taken g.K.BufferedKind.WRITES g.K.BufferedKind.keeps_taken (λ old new. taken_of (joined c.args.lines.now) (done_reply c.writelines.result) old.place new.place) c.self.inside.inner c.writelines.new.self c.args.self.now c.self.view_is g.met.K.WritingKind.writes c.writelines.ensures.taken
