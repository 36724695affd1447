use Rattle.std.proofs.Common.{◌≡◌, ◌-◌, ◌≤◌, ◌++◌, length, take}
use Rattle.std.specs.Fmt.{is_char_start}
use Rattle.std.specs.List.{count_by}
use Rattle.py_blocks.proofs.counting.push_counted.Given as goal

abbrev pub invariant-loop-place : goal.invariant-loop-place
invariant-loop-place l = record {
  within : l.place ≤ length l.text;
  counted : l.count ≡ count_by is_char_start (take l.place l.text);
  appended : l.bytes.items ≡ l.fn.bytes.items ++ take l.place l.text;
}

abbrev pub decreases-loop-place : goal.decreases-loop-place
decreases-loop-place l = length l.text - l.place
