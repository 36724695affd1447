use Rattle.std.proofs.Common.{◌≡◌, ◌++◌, false, take, drop}
use Rattle.py_flat.specs.Lines.{line_after, has_end_after}
use Rattle.py_plain.specs.NewlineRule.{line_end}
use Rattle.py_plain.proofs.line.whole_line.Given as goal

-- the characters that were passed, and the line and the end in those from here on, are those of all
abbrev pub invariant-loop-at : goal.invariant-loop-at
invariant-loop-at l = record {
  line : take l.at l.characters ++ line_after (line_end l.rule) l.after_cr (drop l.at l.characters) ≡ line_after (line_end l.rule) false l.characters;
  ended : has_end_after (line_end l.rule) l.after_cr (drop l.at l.characters) ≡ has_end_after (line_end l.rule) false l.characters;
}
