use Rattle.std.proofs.Common.{◌≡◌, ◌≤◌, ◌++◌, ◌-◌, length, IsTrue}
use Rattle.py_raw.specs.Source.{SourceKeeps, NoSourceFault}
use Rattle.py_program.specs.Outside.{script_limit}
use Rattle.py_program.proofs.script.read_bytes.Given as goal

-- told: the bytes so far, and those that are left, are all that there were
abbrev pub invariant-loop-bytes : goal.invariant-loop-bytes
invariant-loop-bytes g l = record {
  keeps : SourceKeeps (g.I.Source.shows l.fn.source) (g.I.Source.shows l.source);
  exact : NoSourceFault (g.I.Source.shows l.fn.source) (g.I.Source.shows l.source);
  fits : length l.bytes.items ≤ script_limit;
  whole : IsTrue (g.I.Source.shows l.fn.source).tells → l.bytes.items ++ (g.I.Source.shows l.source).left ≡ (g.I.Source.shows l.fn.source).left;
}

-- each turn that goes on adds a byte at least, and stays within the limit
abbrev pub decreases-loop-bytes : goal.decreases-loop-bytes
decreases-loop-bytes g l = 1048577 - length l.bytes.items
