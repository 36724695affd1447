-- the letters so far do not offend: what is left decides
use Rattle.std.proofs.Common.{◌≡◌, [], take, drop}
use Rattle.py_raw.specs.ComputeMode.{first_offence}
use Rattle.py_raw.proofs.mode_letters.first_offence.Given as goal

abbrev pub invariant-loop-place : goal.invariant-loop-place
invariant-loop-place l = first_offence (take l.place l.letters) (drop l.place l.letters) ≡ first_offence [] l.letters
