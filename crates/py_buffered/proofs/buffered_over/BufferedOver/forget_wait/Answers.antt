use Rattle.py_buffered.proofs.Seen.{forgets}
use Rattle.py_buffered.proofs.buffered_over.BufferedOver.forget_wait.Goals as goal

pub returns : goal.returns
returns g c = forgets g.K.BufferedKind.seen g.K.BufferedKind.stream g.K.BufferedKind.keeps_stream g.K.BufferedKind.taken g.K.BufferedKind.WRITES g.K.BufferedKind.keeps_taken c.self.inside.inner c.forget_wait.new.self c.args.self.now c.self.view_is c.self.invariant.2 c.forget_wait.ensures.whole c.forget_wait.ensures.taken
