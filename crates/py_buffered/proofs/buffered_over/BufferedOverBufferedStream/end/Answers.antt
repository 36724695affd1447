use Rattle.std.proofs.Common.{◌∙◌}
use Rattle.py_stream.specs.Buffer.{AnswersEnd}
use Rattle.py_buffered.proofs.Seen.{holds_shown}
use Rattle.py_buffered.proofs.buffered_over.BufferedOverBufferedStream.end.Goals as goal

pub returns : goal.returns
returns g c = holds_shown g.K.BufferedKind.seen g.K.BufferedKind.stream g.K.BufferedKind.keeps_stream g.K.BufferedKind.taken g.K.BufferedKind.WRITES g.K.BufferedKind.keeps_taken (λ old new. AnswersEnd old c.end.result new) c.self.inside.inner c.end.new.self c.args.self.now c.self.view_is c.self.invariant.2 (λ no. c.end.ensures.taken ∙ c.self.invariant.2 no) c.end.ensures.answers
