use Rattle.std.proofs.Common.{refl}
use Rattle.py_flat.specs.Calls.{ReadLines}
use Rattle.py_binary.proofs.Alone.{unread_refuses}
use Rattle.py_binary.proofs.buffered.Buffered.readlines.Goals as goal

pub returns-in-Writer : goal.returns-in-Writer
returns-in-Writer g c = rw c.in-Writer.is (c.refuse.ensures.answers (ReadLines c.args.hint) (unread_refuses c.in-Writer.writer.stream (ReadLines c.args.hint) refl c.refuse.ensures.only_writes.0))
