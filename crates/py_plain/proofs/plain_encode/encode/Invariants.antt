use Rattle.std.proofs.Common.{length, ◌-◌}
use Rattle.py_plain.proofs.Encodings.{GoesOn}
use Rattle.py_plain.proofs.plain_encode.encode.Given as goal

-- what is out and the encoding from here are the whole encoding
abbrev pub invariant-loop-place : goal.invariant-loop-place
invariant-loop-place l = GoesOn l.encoding l.handler l.characters l.place l.bytes.items

abbrev pub decreases-loop-place : goal.decreases-loop-place
decreases-loop-place l = length l.characters - l.place
