use Rattle.std.proofs.Common.{arith}
use Rattle.py_window.proofs.Held.{moved_to_front}
use Rattle.py_window.proofs.window.Window.let_go.Goals as goal

pub returns : goal.returns
returns c = grind (arith, moved_to_front)
