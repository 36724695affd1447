use Rattle.py_flat.proofs.Text.{same_chars}
use Rattle.py_flat.proofs.chars.CharsPartialEq.eq.Goals as goal

pub returns : goal.returns
returns c = let same = same_chars c.as_str.result.now c.as_str-2.result.now c.as_str.utf8 c.as_str-2.utf8 in cc
