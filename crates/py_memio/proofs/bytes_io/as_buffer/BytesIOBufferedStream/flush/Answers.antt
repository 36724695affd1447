use Rattle.std.proofs.Common.{refl, arith}
use Rattle.py_flat.specs.Calls.{Flush}
use Rattle.py_stream.specs.Replies.{done_reply}
use Rattle.py_memio.proofs.AsBuffer.{meets}
use Rattle.py_memio.proofs.bytes_io.as_buffer.BytesIOBufferedStream.flush.Goals as goal

pub returns-clause-answers : goal.returns-clause-answers
returns-clause-answers c =
    let done = c.flush-done.ensures in
    meets c.self.inside.closed c.self-2.inside.closed Flush (done_reply c.flush-done.result) c.self.view_is c.self-2.view_is c.self.invariant.within c.self-2.invariant.within (omega arith) c.self.invariant.shut refl done.exports done.taken done.answer
