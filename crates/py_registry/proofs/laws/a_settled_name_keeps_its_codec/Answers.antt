use Rattle.py_registry.proofs.Steps.{probe-kept, settle-kept}
use Rattle.py_registry.proofs.laws.a_settled_name_keeps_its_codec.Goals as goal

pub returns : goal.returns
returns g c = record { probe = probe-kept; settle = settle-kept }
