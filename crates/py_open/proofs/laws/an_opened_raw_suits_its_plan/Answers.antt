use Rattle.py_open.proofs.OpenedRaw.{refused_by}
use Rattle.py_open.proofs.laws.an_opened_raw_suits_its_plan.Goals as goal

pub returns : goal.returns
returns c = refused_by
