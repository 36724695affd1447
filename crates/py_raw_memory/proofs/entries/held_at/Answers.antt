use Rattle.py_raw_memory.proofs.Lookups.{held_at}
use Rattle.py_raw_memory.proofs.entries.held_at.Goals as goal

pub returns : goal.returns
returns g c = held_at c.args.entries.now c.args.path.now c.in_ok-place.place c.index-entries-place.result c.in_ok-place.ensures
