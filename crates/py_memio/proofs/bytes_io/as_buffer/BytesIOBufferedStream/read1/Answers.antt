use Rattle.std.proofs.Common.{◌≡◌, refl, sym, ap, subst, ◌∙◌, arith}
use Rattle.py_flat.specs.Calls.{FileReply, Read1}
use Rattle.py_stream.specs.Replies.{bytes_reply}
use Rattle.py_stream.specs.Buffer.{AnswersAsBuffer}
use Rattle.py_memio.specs.Replies.{given_reply}
use Rattle.py_memio.specs.BytesIO.{as_buffer}
use Rattle.py_memio.proofs.AsBuffer.{meets}
use Rattle.py_memio.proofs.bytes_io.as_buffer.BytesIOBufferedStream.read1.Goals as goal
use Rattle.py_memio.proofs.bytes_io.as_buffer.BytesIOBufferedStream.read1.Goals.{in-Ok, in-Err}

pub returns-clause-answers : goal.returns-clause-answers
returns-clause-answers c =
    let done = c.read1-given.ensures in
    let shown = meets c.self.inside.closed c.self-2.inside.closed (Read1 c.args.size) (given_reply c.read1-given.result) c.self.view_is c.self-2.view_is c.self.invariant.within c.self-2.invariant.within (omega arith) c.self.invariant.shut refl done.exports done.taken done.answer in
    let same : given_reply c.read1-given.result ≡ bytes_reply c.match-given.result = elim c.match-given.branch [
      | in-Ok w ↦ ap given_reply w.in-Ok.is ∙ sym (ap bytes_reply w.result-is)
      | in-Err w ↦ ap given_reply w.in-Err.is ∙ sym (ap bytes_reply w.result-is)
    ] in
    subst (λ (reply : FileReply). AnswersAsBuffer (as_buffer c.args.self.now) (Read1 c.args.size) reply (as_buffer c.read1-given.new.self)) same shown
