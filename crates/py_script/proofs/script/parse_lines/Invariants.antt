use Rattle.std.proofs.Common.{◌≡◌, drop, map}
use Rattle.py_script.specs.Script.{lines_calls}
use Rattle.py_script.proofs.Behind.{behind}
use Rattle.py_script.proofs.script.parse_lines.Given as goal

abbrev pub invariant-loop-line : goal.invariant-loop-line
invariant-loop-line l = behind l.calls.items (lines_calls (map (λ line. line.now) (drop l.line-index l.lines))) ≡ lines_calls (map (λ line. line.now) l.lines)
