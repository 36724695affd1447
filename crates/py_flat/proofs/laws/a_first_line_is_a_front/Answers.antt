use Rattle.py_flat.proofs.Cutting.{first_line_is_front, first_line_holds_some}
use Rattle.py_flat.proofs.laws.a_first_line_is_a_front.Goals as goal

pub returns-clause-front : goal.returns-clause-front
returns-clause-front c = first_line_is_front

pub returns-clause-some : goal.returns-clause-some
returns-clause-some c = first_line_holds_some
