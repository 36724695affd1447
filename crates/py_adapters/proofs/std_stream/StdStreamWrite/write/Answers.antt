use Rattle.py_adapters.specs.Answers.{SaysWritten}
use Rattle.py_adapters.proofs.Known.{says_taken, says_cut, appends}
use Rattle.py_adapters.proofs.std_stream.StdStreamWrite.write.Goals as goal
use Rattle.py_adapters.proofs.std_stream.StdStreamWrite.write.Goals.{in-Ok, in-Err}

pub returns-clause-bytes : goal.returns-clause-bytes
returns-clause-bytes g c =
    let after = g.S.BufferedStream.shows c.write.new.self in
    let says : SaysWritten c.write.result after.taken c.match-write.result = elim c.match-write.branch [
      | in-Ok w ↦ says_taken _ _ _ _ w.in-Ok.is w.result-is
      | in-Err w ↦ says_cut _ _ _ _ _ _ w.in-Err.is w.taken.ensures w.result-is w.io_refused_write.ensures.says
    ] in
    rw (← c.self.view_is) (appends (g.S.BufferedStream.shows c.self.inside.stream) after c.args.buf.now c.write.result c.match-write.result c.write.ensures.buffer says)
