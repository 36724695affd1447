use Rattle.std.proofs.Common.{◌∙◌, Ok, ap}
use Rattle.py_adapters.specs.Answers.{SaysRead}
use Rattle.py_adapters.proofs.Known.{says_some, says_wait, says_refused, consumes}
use Rattle.py_adapters.proofs.std_stream.StdStreamRead.read.Goals as goal
use Rattle.py_adapters.proofs.std_stream.StdStreamRead.read.Goals.{in-Ok-Some, in-Ok-None, in-Err}

pub returns-clause-bytes : goal.returns-clause-bytes
returns-clause-bytes g c =
    let gave = c.read_once.ensures in
    let says : SaysRead c.read_once.result c.match-read_once.result = elim c.match-read_once.branch [
      | in-Ok-Some w ↦ says_some _ _ _ (w.in-Ok-Some.is ∙ ap Ok w.in-Ok-Some.field-0-is) w.result-is
      | in-Ok-None w ↦ says_wait _ _ _ (w.in-Ok-None.is ∙ ap Ok w.in-Ok-None.field-0-is) w.result-is w.io_would_block.ensures
      | in-Err w ↦ says_refused _ _ _ _ w.in-Err.is w.result-is w.io_refused.ensures.says
    ] in
    rw (← c.self.view_is) (consumes (g.S.ReadOnce.left c.self.inside.stream) (g.S.ReadOnce.left c.read_once.new.self) c.args.buf.now c.read_once.new.buffer c.read_once.result c.match-read_once.result gave.length gave.gives says)
