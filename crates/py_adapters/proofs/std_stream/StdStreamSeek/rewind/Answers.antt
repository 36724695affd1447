use Rattle.py_stream.specs.Replies.{place_reply}
use Rattle.py_adapters.proofs.Known.{seek_stays}
use Rattle.py_adapters.proofs.std_stream.StdStreamSeek.rewind.Goals as goal

pub returns-clause-bytes : goal.returns-clause-bytes
returns-clause-bytes g c = rw (← c.self.view_is) (seek_stays (g.S.BufferedStream.shows c.self.inside.stream) (g.S.BufferedStream.shows c.seek.new.self) _ _ (place_reply c.seek.result) c.seek.ensures.buffer)
