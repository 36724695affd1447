use Rattle.std.proofs.Common.{refl}
use Rattle.py_plain_text.specs.TextCalls.{Tell}
use Rattle.py_read_text.specs.Answers.{cookie_reply}
use Rattle.py_open.proofs.TextKeeping.{seen_on, session_on}
use Rattle.py_open.proofs.text_session.TextSession.tell.Goals as goal

pub invariant_of-self : goal.invariant_of-self
invariant_of-self g c = session_on g.R.RawStream.shows c.self.inside.text Tell (cookie_reply c.tell.result) c.tell.new.self c.self.inside.appends c.self.inside.buffer_size c.self.inside.raw refl c.self.invariant c.tell.ensures.answers

pub returns-clause-answers : goal.returns-clause-answers
returns-clause-answers g c = rw (← c.self.view_is) (seen_on g.R.RawStream.shows c.self.inside.text Tell (cookie_reply c.tell.result) c.tell.new.self c.self.inside.appends c.self.inside.buffer_size c.self.inside.raw refl c.self.invariant c.tell.ensures.answers)
