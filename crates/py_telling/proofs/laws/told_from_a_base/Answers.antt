use Rattle.py_telling.proofs.Bases.{told_since}
use Rattle.py_telling.proofs.laws.told_from_a_base.Goals as goal

pub returns : goal.returns
returns c = λ file base given items dirty goes_on. told_since file base given items goes_on dirty
