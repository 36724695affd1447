use Rattle.std.proofs.Common.{ℕ, List, get_or}
use Rattle.py_raw_memory.specs.Entries.{StandsAt}
use Rattle.py_raw_memory.proofs.Lookups.{HoldsNow-set}
use Rattle.py_raw_memory.proofs.entries.replace_at.Goals as goal

pub returns : goal.returns
returns g c =
    let entry = c.index-entries-place.result in
    let before = get_or c.args.entries.now c.args.place entry in
    λ (path : List ℕ) (at : StandsAt c.args.entries.now path c.args.place).
    HoldsNow-set c.args.entries.now path c.args.place entry (record before { held = c.args.held }) at (at.named entry)
