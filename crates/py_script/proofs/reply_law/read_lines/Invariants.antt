use Rattle.std.specs.List.{AllWithin}
use Rattle.hex.specs.Hex.{IsBytes}
use Rattle.py_script.proofs.reply_law.read_lines.Given as goal

abbrev pub invariant-loop-line : goal.invariant-loop-line
invariant-loop-line l = AllWithin IsBytes l.lines 0 l.line-index
