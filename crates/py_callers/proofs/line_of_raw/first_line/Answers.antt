use Rattle.py_callers.proofs.LineRun.{outcome_line}
use Rattle.py_callers.proofs.line_of_raw.first_line.Goals as goal

pub returns-in-Ok : goal.returns-in-Ok
returns-in-Ok g c = outcome_line (g.R.RawStream.shows c.args.raw) (g.R.RawStream.shows c.finish-raw.result.raw) c.in-Ok.run'.session c.in-Ok.run'.replies.items c.pop.new.self.items c.unwrap-reply.result
    c.in-Ok.ensures.outcome
    (rw c.unwrap-reply.ensures at c.pop.ensures.items)
    c.finish-raw.ensures.raw
