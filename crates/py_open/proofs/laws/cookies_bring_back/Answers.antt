use Rattle.py_open.proofs.Back.{brings_back}
use Rattle.py_open.proofs.laws.cookies_bring_back.Goals as goal

pub returns : goal.returns
returns c = brings_back
