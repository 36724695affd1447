use Rattle.py_registry.proofs.Steps.{error-own, error-other}
use Rattle.py_registry.proofs.laws.registering_a_handler_changes_one_name.Goals as goal

pub returns : goal.returns
returns g c = record { own = error-own; others = error-other }
