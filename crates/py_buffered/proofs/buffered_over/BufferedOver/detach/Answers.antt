use Rattle.py_stream.specs.Handing.{DetachOutcome}
use Rattle.py_buffered.proofs.Seen.{holds_seen}
use Rattle.py_buffered.proofs.buffered_over.BufferedOver.detach.Goals as goal

pub returns-clause-outcome : goal.returns-clause-outcome
returns-clause-outcome g c = holds_seen g.K.BufferedKind.seen g.K.BufferedKind.stream g.K.BufferedKind.keeps_stream (λ old new. DetachOutcome g.R.RawStream.shows old c.detach.result new) c.self.inside.inner c.detach.new.self c.args.self.now c.self.view_is c.detach.ensures.outcome
