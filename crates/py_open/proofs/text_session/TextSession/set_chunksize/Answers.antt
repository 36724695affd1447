use Rattle.std.proofs.Common.{refl}
use Rattle.py_plain_text.specs.TextCalls.{SetChunkSize}
use Rattle.py_stream.specs.Replies.{done_reply}
use Rattle.py_open.proofs.TextKeeping.{seen_on, session_on}
use Rattle.py_open.proofs.text_session.TextSession.set_chunksize.Goals as goal

pub invariant_of-self : goal.invariant_of-self
invariant_of-self g c = session_on g.R.RawStream.shows c.self.inside.text (SetChunkSize c.args.size) (done_reply c.set_chunksize.result) c.set_chunksize.new.self c.self.inside.appends c.self.inside.buffer_size c.self.inside.raw refl c.self.invariant c.set_chunksize.ensures

pub returns : goal.returns
returns g c = rw (← c.self.view_is) (seen_on g.R.RawStream.shows c.self.inside.text (SetChunkSize c.args.size) (done_reply c.set_chunksize.result) c.set_chunksize.new.self c.self.inside.appends c.self.inside.buffer_size c.self.inside.raw refl c.self.invariant c.set_chunksize.ensures)
