use Rattle.py_open.proofs.OpenedFile.{file_at_path}
use Rattle.py_open.proofs.laws.an_opened_session_is_the_file_of_its_path.Goals as goal

pub returns : goal.returns
returns c = file_at_path
