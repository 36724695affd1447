use Rattle.std.proofs.Common.{refl}
use Rattle.py_plain_text.specs.TextCalls.{Read}
use Rattle.py_read_text.specs.TextState.{settings_of}
use Rattle.py_textio.specs.Handing.{can_of}
use Rattle.py_textio.proofs.Detached.{detached_answers}
use Rattle.py_textio.proofs.text_io_wrapper.TextIOWrapper.read.Goals as goal
use Rattle.py_textio.proofs.text_io_wrapper.TextIOWrapper.read.Goals.{in-Some, in-None}

pub returns : goal.returns
returns g c = elim c.match-self.branch [
  | in-Some w ↦ rw (← c.self.view_is, w.in-Some.is, w.result-is, w.self-inside-is) w.take.ensures
  | in-None w ↦ rw (← c.self.view_is, w.result-is, w.self-inside-is, w.in-None.is) (detached_answers (can_of c.self.inside.left) (settings_of c.self.inside.left.coder c.self.inside.left.settings) (Read c.args.size) refl)
]
