use Rattle.std.proofs.Common.{length, refl}
use Rattle.py_flat.specs.Calls.{ReadInto1}
use Rattle.py_binary.proofs.Alone.{unread_refuses}
use Rattle.py_binary.proofs.buffered.Buffered.readinto1.Goals as goal

pub returns-in-Writer-clause-answers : goal.returns-in-Writer-clause-answers
returns-in-Writer-clause-answers g c = rw c.in-Writer.is (c.refuse.ensures.answers (ReadInto1 (length c.args.buffer.now)) (unread_refuses c.in-Writer.writer.stream (ReadInto1 (length c.args.buffer.now)) refl c.refuse.ensures.only_writes.0))
