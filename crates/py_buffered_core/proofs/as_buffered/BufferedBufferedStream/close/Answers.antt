use Rattle.std.proofs.Common.{refl}
use Rattle.py_flat.specs.Calls.{Close}
use Rattle.py_stream.specs.Replies.{done_reply}
use Rattle.py_buffered_core.proofs.AsBuffered.{answers_so}
use Rattle.py_buffered_core.proofs.as_buffered.BufferedBufferedStream.close.Goals as goal

pub returns-clause-answers : goal.returns-clause-answers
returns-clause-answers g c = answers_so c.args.self.now c.close.new.self Close (done_reply c.close.result) c.place.ensures.unwritten refl c.close.ensures.answers c.close.ensures.taken
