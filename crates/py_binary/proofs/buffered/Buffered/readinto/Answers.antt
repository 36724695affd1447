use Rattle.std.proofs.Common.{length, refl}
use Rattle.py_flat.specs.Calls.{ReadInto}
use Rattle.py_binary.proofs.Alone.{unread_refuses}
use Rattle.py_binary.proofs.buffered.Buffered.readinto.Goals as goal

pub returns-in-Writer-clause-answers : goal.returns-in-Writer-clause-answers
returns-in-Writer-clause-answers g c = rw c.in-Writer.is (c.refuse.ensures.answers (ReadInto (length c.args.buffer.now)) (unread_refuses c.in-Writer.writer.stream (ReadInto (length c.args.buffer.now)) refl c.refuse.ensures.only_writes.0))
