use Rattle.std.proofs.Common.{length, ◌-◌, ◌≡◌, ◌≤◌, false}
use Rattle.py_telling.specs.Walks.{TellsAlike, IsWalked}
use Rattle.py_telling.proofs.told.spot_among.Given as goal

-- the spot of the whole is the one behind the characters that are left, whatever comes behind the bytes where more may come
abbrev pub invariant-loop-walked : goal.invariant-loop-walked
invariant-loop-walked l = record {
  within : l.walked.passed ≤ length l.bytes;
  counted : l.walked.count ≤ l.given;
  spot : TellsAlike l.encoding l.handler l.newline l.last l.place l.given l.bytes l.walked;
  walked : l.last ≡ false → IsWalked l.encoding l.handler l.newline l.bytes l.given l.walked;
}

abbrev pub decreases-loop-walked : goal.decreases-loop-walked
decreases-loop-walked l = length l.bytes - l.walked.passed
