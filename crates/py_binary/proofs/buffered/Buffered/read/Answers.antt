use Rattle.std.proofs.Common.{refl}
use Rattle.py_flat.specs.Calls.{Read}
use Rattle.py_binary.proofs.Alone.{unread_refuses}
use Rattle.py_binary.proofs.buffered.Buffered.read.Goals as goal

pub returns-in-Writer : goal.returns-in-Writer
returns-in-Writer g c = rw c.in-Writer.is (c.refuse.ensures.answers (Read c.args.size) (unread_refuses c.in-Writer.writer.stream (Read c.args.size) refl c.refuse.ensures.only_writes.0))
