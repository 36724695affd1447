use Rattle.py_open.proofs.Reached.{opened_told, opened_reached}
use Rattle.py_open.proofs.paths.open_planned.Goals as goal

pub returns-in-Ok-open-clause-reached : goal.returns-in-Ok-open-clause-reached
returns-in-Ok-open-clause-reached g c = λ told. opened_reached _ c.args.plan _ (opened_told _ c.args.plan _ c.in-Ok-open.ensures told) c.requires c.in-Ok-open.ensures
