use Rattle.std.proofs.Common.{refl}
use Rattle.py_flat.specs.Calls.{Peek}
use Rattle.py_calls.specs.Calls.{said}
use Rattle.py_binary.proofs.Alone.{unread_refuses}
use Rattle.py_binary.proofs.Answering.{with_reply_room}
use Rattle.py_binary.proofs.Copying.{copied_answers}
use Rattle.py_binary.proofs.buffered.Buffered.peek.Goals as goal

pub returns-in-Reader : goal.returns-in-Reader
returns-in-Reader g c = rw c.in-Reader.is (copied_answers c.in-Reader.reader _ (said c.copy_reply.result) c.peek.follows.lender-at-none c.peek.follows.holds-at-none c.copy_reply.ensures)

pub returns-in-Writer : goal.returns-in-Writer
returns-in-Writer g c = rw c.in-Writer.is (with_reply_room _ _ _ _ (c.refuse.ensures.answers Peek (unread_refuses c.in-Writer.writer.stream Peek refl c.refuse.ensures.only_writes.0)))

pub returns-in-Random : goal.returns-in-Random
returns-in-Random g c = rw c.in-Random.is (copied_answers c.in-Random.random.stream _ (said c.copy_reply-in-Random.result) c.peek-in-Random.follows.lender-at-none.stream c.peek-in-Random.follows.holds-at-none.0 c.copy_reply-in-Random.ensures)
