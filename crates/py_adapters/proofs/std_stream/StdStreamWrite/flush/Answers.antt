use Rattle.py_stream.specs.Replies.{done_reply}
use Rattle.py_adapters.proofs.Known.{flush_stays}
use Rattle.py_adapters.proofs.std_stream.StdStreamWrite.flush.Goals as goal

pub returns-clause-bytes : goal.returns-clause-bytes
returns-clause-bytes g c = rw (← c.self.view_is) (flush_stays (g.S.BufferedStream.shows c.self.inside.stream) (g.S.BufferedStream.shows c.flush.new.self) (done_reply c.flush.result) c.flush.ensures.buffer)
