use Rattle.std.proofs.Common.{length, ◌-◌, ◌≡◌, ◌+◌, ◌≤◌, ℕ}
use Rattle.py_telling.specs.Spots.{behind_lf, items_from}
use Rattle.py_telling.proofs.told.behind_lf.Given as goal

-- no item that was passed gives a character
abbrev pub invariant-loop-next : goal.invariant-loop-next
invariant-loop-next l = record {
  within : l.next ≤ length l.bytes;
  passed : (place : ℕ) → behind_lf (place + l.at) (items_from l.encoding l.handler l.last place l.next l.bytes) ≡ behind_lf (place + l.at) (items_from l.encoding l.handler l.last place l.at l.bytes);
}

abbrev pub decreases-loop-next : goal.decreases-loop-next
decreases-loop-next l = length l.bytes - l.next
