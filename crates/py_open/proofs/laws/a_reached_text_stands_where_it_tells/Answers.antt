use Rattle.py_open.proofs.Back.{reached_stands, reached_order}
use Rattle.py_open.proofs.laws.a_reached_text_stands_where_it_tells.Goals as goal

pub returns-clause-stands : goal.returns-clause-stands
returns-clause-stands c = reached_stands

pub returns-clause-order : goal.returns-clause-order
returns-clause-order c = reached_order
