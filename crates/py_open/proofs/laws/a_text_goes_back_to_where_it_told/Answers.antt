use Rattle.py_open.proofs.Back.{goes_back}
use Rattle.py_open.proofs.laws.a_text_goes_back_to_where_it_told.Goals as goal

pub returns : goal.returns
returns c = goes_back
