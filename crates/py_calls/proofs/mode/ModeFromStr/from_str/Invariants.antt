use Rattle.std.proofs.Common.{◌≡◌, drop}
use Rattle.py_calls.specs.Mode.{mode_from, mode_of}
use Rattle.py_calls.proofs.mode.ModeFromStr.from_str.Given as goal

abbrev pub invariant-loop-letter : goal.invariant-loop-letter
invariant-loop-letter l = mode_from l.said (drop l.letter-index l.letter-items) ≡ mode_of l.text
