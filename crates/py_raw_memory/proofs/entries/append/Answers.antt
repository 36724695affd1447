use Rattle.py_raw_memory.proofs.Lookups.{HoldsNow-push}
use Rattle.py_raw_memory.proofs.entries.append.Goals as goal

pub returns-clause-ok : goal.returns-clause-ok
returns-clause-ok g c =
    rw c.in_ok-push.ensures.items
    (HoldsNow-push c.args.entries.now.items c.args.path.now (record { path = c.in_ok-path.path; held = c.args.held }) c.requires c.in_ok-path.ensures.ok)
