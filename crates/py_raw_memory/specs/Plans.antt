-- What the streams of a path follow, in an opener in memory.
use Rattle.std.specs.Prelude.{ℕ, List, [], option_map, unwrap_or}
use Rattle.py_raw_memory.specs.Entries.{held_in}
use Rattle.py_raw_memory.specs.declared.cut.Cut.{Cut}
use Rattle.py_raw_memory.specs.declared.entries.Entry.{Entry}
use Rattle.py_raw_memory.specs.declared.mem_opener.plan.Plan.{Plan}

-- a plan of transfers, and the numbers of the calls that fail
pub record PlanView : Type 0 where
  pub plan : List Cut
  pub refused : List ℕ

-- a plan, as its view
abbrev pub shown_plan : Plan → PlanView
shown_plan plan = record { plan = plan.cuts.items; refused = plan.refused.items }

-- all that a call asks is moved, and none fails
abbrev pub no_plan : PlanView
no_plan = record { plan = []; refused = [] }

-- the plan that was given for a path, or else none
abbrev pub plan_in : List (Entry Plan) → List ℕ → PlanView
plan_in plans path = unwrap_or (option_map shown_plan (held_in plans path)) no_plan
