use Rattle.py_binary.proofs.Sessions.{session_on}
use Rattle.py_binary.proofs.binary_session.BinarySession.flag.Goals as goal

pub invariant_of-self : goal.invariant_of-self
invariant_of-self g c = session_on c.self.inside.stream c.forget_wait.new.self c.self.inside.raw c.self.invariant c.forget_wait.ensures.whole c.forget_wait.ensures.served
