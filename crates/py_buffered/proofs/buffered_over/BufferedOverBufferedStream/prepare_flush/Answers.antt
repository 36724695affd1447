use Rattle.std.proofs.Common.{◌∙◌}
use Rattle.py_stream.specs.Buffer.{Prepares}
use Rattle.py_buffered.proofs.Seen.{holds_shown}
use Rattle.py_buffered.proofs.buffered_over.BufferedOverBufferedStream.prepare_flush.Goals as goal

pub returns : goal.returns
returns g c = holds_shown g.K.BufferedKind.seen g.K.BufferedKind.stream g.K.BufferedKind.keeps_stream g.K.BufferedKind.taken g.K.BufferedKind.WRITES g.K.BufferedKind.keeps_taken (λ old new. Prepares old c.prepare_flush.result new) c.self.inside.inner c.prepare_flush.new.self c.args.self.now c.self.view_is c.self.invariant.2 (λ no. c.prepare_flush.ensures.taken ∙ c.self.invariant.2 no) c.prepare_flush.ensures.prepares
