use Rattle.std.proofs.Common.{refl}
use Rattle.py_plain_text.specs.TextCalls.{Read}
use Rattle.py_read_text.specs.Answers as over
use Rattle.py_open.proofs.TextKeeping.{seen_on, session_on}
use Rattle.py_open.proofs.text_session.TextSession.read.Goals as goal

pub invariant_of-self : goal.invariant_of-self
invariant_of-self g c = session_on g.R.RawStream.shows c.self.inside.text (Read c.args.size) (over.text_reply c.read.result) c.read.new.self c.self.inside.appends c.self.inside.buffer_size c.self.inside.raw refl c.self.invariant c.read.ensures

pub returns : goal.returns
returns g c = rw (← c.self.view_is, c.as_chars.ensures) (seen_on g.R.RawStream.shows c.self.inside.text (Read c.args.size) (over.text_reply c.read.result) c.read.new.self c.self.inside.appends c.self.inside.buffer_size c.self.inside.raw refl c.self.invariant c.read.ensures)
