use Rattle.std.proofs.Common.{arith}
use Rattle.std.proofs.lemmas.List.{with_items_is, places}
use Rattle.py_window.proofs.Held.{held_pasted}
use Rattle.py_window.proofs.window.Window.lay.Goals as goal

pub returns : goal.returns
returns c = grind (arith, with_items_is, places, held_pasted)
