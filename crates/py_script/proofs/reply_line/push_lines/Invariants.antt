use Rattle.std.proofs.Common.{◌≡◌, ◌++◌, take, map}
use Rattle.py_script.specs.Words.{spaced}
use Rattle.py_script.specs.ReplyLine.{hex_of}
use Rattle.py_script.proofs.reply_line.push_lines.Given as goal

abbrev pub invariant-loop-bytes : goal.invariant-loop-bytes
invariant-loop-bytes l = l.line.items ≡ l.initial.line.items ++ spaced (map hex_of (take l.bytes-index l.lines))
