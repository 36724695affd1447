use Rattle.py_text_laws.proofs.SoughtBack.{told_to_read}
use Rattle.py_text_laws.proofs.laws.a_written_text_is_sought_and_read.Goals as goal

pub returns : goal.returns
returns c = told_to_read
