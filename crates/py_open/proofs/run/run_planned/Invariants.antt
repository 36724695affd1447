use Rattle.std.proofs.Common.{◌+◌, ◌-◌, ◌≤◌, length, take, vec_len, vec_capacity}
use Rattle.py_open.specs.Run.{RunsCalls}
use Rattle.py_open.proofs.run.run_planned.Given as goal

-- the replies so far are those of a run of the calls so far, and there is room for the others
abbrev pub invariant-loop-call : goal.invariant-loop-call
invariant-loop-call g l = record {
  run : RunsCalls (g.R.RawStream.shows l.fn.raw) l.fn.plan (take l.call-index l.calls) l.session l.replies.items;
  room : vec_len l.replies + (length l.calls - l.call-index) ≤ vec_capacity l.replies;
}
