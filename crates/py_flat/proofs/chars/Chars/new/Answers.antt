use Rattle.std.proofs.Common.{string_bytes}
use Rattle.py_flat.proofs.Text.{chars_of_nil}
use Rattle.py_flat.proofs.chars.Chars.new.Goals as goal

pub returns : goal.returns
returns c = chars_of_nil (string_bytes c.new.result) c.new.ensures.bytes
