use Rattle.std.proofs.Common.{refl}
use Rattle.py_flat.specs.Calls.{Flush}
use Rattle.py_stream.specs.Replies.{done_reply}
use Rattle.py_buffered_core.proofs.AsBuffered.{answers_so}
use Rattle.py_buffered_core.proofs.as_buffered.BufferedBufferedStream.flush.Goals as goal

pub returns-clause-answers : goal.returns-clause-answers
returns-clause-answers g c = answers_so c.args.self.now c.flush.new.self Flush (done_reply c.flush.result) c.place.ensures.unwritten refl c.flush.ensures.answers c.flush.ensures.taken
