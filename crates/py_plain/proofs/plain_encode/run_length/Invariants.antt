use Rattle.std.proofs.Common.{◌≡◌, ◌+◌, drop}
use Rattle.py_plain.specs.Encode.{run_length}
use Rattle.py_plain.proofs.plain_encode.run_length.Given as goal

-- no character with bytes was met
abbrev pub invariant-loop-index : goal.invariant-loop-index
invariant-loop-index l = run_length l.encoding l.characters ≡ l.index + run_length l.encoding (drop l.index l.characters)
