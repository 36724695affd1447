use Rattle.std.proofs.Common.{◌≡◌, length, take, chars}
use Rattle.py_memio.proofs.characters.spell.Given as goal

abbrev pub invariant-loop-character : goal.invariant-loop-character
invariant-loop-character l = record {
  at : l.at ≡ length l.yielded;
  laid : take l.at l.characters ≡ take l.at (chars l.text);
}
