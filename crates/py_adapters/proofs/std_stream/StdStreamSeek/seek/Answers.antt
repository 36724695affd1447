use Rattle.py_stream.specs.Replies.{place_reply}
use Rattle.py_adapters.proofs.Known.{seek_stays}
use Rattle.py_adapters.proofs.std_stream.StdStreamSeek.seek.Goals as goal

pub returns-in-Ok-clause-bytes : goal.returns-in-Ok-clause-bytes
returns-in-Ok-clause-bytes g c = rw (← c.self.view_is) (seek_stays (g.S.BufferedStream.shows c.self.inside.stream) (g.S.BufferedStream.shows c.seek.new.self) _ _ (place_reply c.seek.result) c.seek.ensures.buffer)

pub returns-in-Current-clause-bytes : goal.returns-in-Current-clause-bytes
returns-in-Current-clause-bytes g c = rw (← c.self.view_is) (seek_stays (g.S.BufferedStream.shows c.self.inside.stream) (g.S.BufferedStream.shows c.seek-in-Current.new.self) _ _ (place_reply c.seek-in-Current.result) c.seek-in-Current.ensures.buffer)

pub returns-in-End-clause-bytes : goal.returns-in-End-clause-bytes
returns-in-End-clause-bytes g c = rw (← c.self.view_is) (seek_stays (g.S.BufferedStream.shows c.self.inside.stream) (g.S.BufferedStream.shows c.seek-in-End.new.self) _ _ (place_reply c.seek-in-End.result) c.seek-in-End.ensures.buffer)

pub returns-in-Err-clause-bytes : goal.returns-in-Err-clause-bytes
returns-in-Err-clause-bytes g c = rw (← c.self.view_is) (seek_stays (g.S.BufferedStream.shows c.self.inside.stream) (g.S.BufferedStream.shows c.seek-in-Err.new.self) _ _ (place_reply c.seek-in-Err.result) c.seek-in-Err.ensures.buffer)
