use Rattle.py_registry.proofs.Steps.{next-rises}
use Rattle.py_registry.proofs.laws.a_number_is_given_once.Goals as goal

pub returns : goal.returns
returns g c = next-rises
