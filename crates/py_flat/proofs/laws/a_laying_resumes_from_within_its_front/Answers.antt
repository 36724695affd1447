use Rattle.py_flat.proofs.Laying.{lay_resumes}
use Rattle.py_flat.proofs.laws.a_laying_resumes_from_within_its_front.Goals as goal

pub returns : goal.returns
returns c = lay_resumes
