use Rattle.std.proofs.Common.{refl}
use Rattle.py_flat.specs.Calls.{ReadLine}
use Rattle.py_binary.proofs.Alone.{unread_refuses}
use Rattle.py_binary.proofs.buffered.Buffered.readline.Goals as goal

pub returns-in-Writer : goal.returns-in-Writer
returns-in-Writer g c = rw c.in-Writer.is (c.refuse.ensures.answers (ReadLine c.args.limit) (unread_refuses c.in-Writer.writer.stream (ReadLine c.args.limit) refl c.refuse.ensures.only_writes.0))
