use Rattle.std.proofs.Common.{◌≤◌, length, refl, rules}
use Rattle.py_incremental.proofs.Stepping.{used_within, step_ok, step_err}
use Rattle.py_incremental.proofs.incremental_decoder.IncrementalDecoder.decode_joined.Goals as goal

pub slice_bounds-from_slice-count : goal.slice_bounds-from_slice-count
slice_bounds-from_slice-count c = (used_within _ _ _ _ _ _ c.in-Ok.ensures).0

pub slice_bounds-from_slice-start : goal.slice_bounds-from_slice-start
slice_bounds-from_slice-start c = let fits : c.in-Ok.used ≤ length c.args.joined.now = (used_within _ _ _ _ _ _ c.in-Ok.ensures).0 in search (rules, fits)

pub from_slice-self-inside-requires : goal.from_slice-self-inside-requires
from_slice-self-inside-requires c = (used_within _ _ _ _ _ _ c.in-Ok.ensures).1

pub returns-in-Ok-clause-step : goal.returns-in-Ok-clause-step
returns-in-Ok-clause-step c = λ bytes is. step_ok _ _ _ _ _ _ c.in-Ok.text _ c.self.view_is refl is c.in-Ok.ensures c.from_slice-self-inside.ensures

pub returns-in-Err-clause-step : goal.returns-in-Err-clause-step
returns-in-Err-clause-step c = λ bytes is. step_err _ _ _ _ _ _ c.self.view_is refl is c.in-Err.ensures
