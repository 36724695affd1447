use Rattle.std.proofs.Common.{◌∙◌}
use Rattle.py_stream.specs.Buffer.{TakesBack}
use Rattle.py_buffered.proofs.Seen.{holds_shown}
use Rattle.py_buffered.proofs.buffered_over.BufferedOverBufferedStream.take_back.Goals as goal

pub returns : goal.returns
returns g c = holds_shown g.K.BufferedKind.seen g.K.BufferedKind.stream g.K.BufferedKind.keeps_stream g.K.BufferedKind.taken g.K.BufferedKind.WRITES g.K.BufferedKind.keeps_taken (λ old new. TakesBack old c.args.count c.take_back.result new) c.self.inside.inner c.take_back.new.self c.args.self.now c.self.view_is c.self.invariant.2 (λ no. c.take_back.ensures.taken ∙ c.self.invariant.2 no) c.take_back.ensures.takes
