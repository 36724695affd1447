use Rattle.std.proofs.Common.{length, take, drop, ◌-◌, ◌≤◌}
use Rattle.std.specs.Str.{IsAscii}
use Rattle.py_blocks.specs.Runs.{utf16}
use Rattle.py_blocks.specs.Writing.{Wrote}
use Rattle.py_blocks.proofs.utf16_blocks.push_wide.Given as goal

abbrev pub invariant-loop-front : goal.invariant-loop-front
invariant-loop-front l = record {
  within : l.front ≤ length l.text;
  ascii : IsAscii (take l.front l.text);
  wrote : Wrote (utf16 l.big) l.text l.fn.bytes.items l.bytes.items l.front (drop l.front l.text);
}

abbrev pub decreases-loop-front : goal.decreases-loop-front
decreases-loop-front l = length l.text - l.front
