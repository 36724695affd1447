use Rattle.py_buffered_core.specs.Buffered.{as_buffer}
use Rattle.py_open.proofs.TextKeeping.{refused_on}
use Rattle.py_open.proofs.Detaching.{session_detached, session_refuses}
use Rattle.py_open.proofs.text_session.TextSession.detach.Goals as goal

pub invariant_of-self-in-Err : goal.invariant_of-self-in-Err
invariant_of-self-in-Err g c = refused_on g.R.RawStream.shows c.self.inside.text c.in-Err.fault c.detach.new.self c.self.inside.appends c.self.inside.buffer_size c.self.inside.raw c.self.invariant c.in-Err.ensures.outcome

pub returns-in-None : goal.returns-in-None
returns-in-None g c =
    rw (← c.self.view_is, c.replace.ensures.after)
    (session_detached g.R.RawStream.shows c.self.inside.text c.self.inside.appends c.self.inside.buffer_size c.self.inside.raw (as_buffer c.in-Ok.parts.buffer) c.in-Ok.parts.unwritten.items c.in-Ok.parts.place c.detach.new.self c.taken_apart-raw.result.raw c.taken_apart-raw.result.unwritten.items c.taken_apart-raw.result.place c.self.invariant c.in-Ok.ensures.outcome c.taken_apart-raw.ensures.raw c.taken_apart-raw.ensures.unwritten c.taken_apart-raw.ensures.place)

pub returns-in-Err : goal.returns-in-Err
returns-in-Err g c =
    rw (← c.self.view_is)
    (session_refuses g.R.RawStream.shows c.self.inside.text c.in-Err.fault c.detach.new.self c.self.inside.appends c.self.inside.buffer_size c.self.inside.raw c.self.invariant c.in-Err.ensures.outcome)
