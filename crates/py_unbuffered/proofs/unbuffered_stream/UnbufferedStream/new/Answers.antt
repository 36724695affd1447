use Rattle.std.proofs.Common.{arith}
use Rattle.py_unbuffered.proofs.Begun.{refuses_first, lacks_none}
use Rattle.py_unbuffered.proofs.unbuffered_stream.UnbufferedStream.new.Goals as goal

pub returns-in-Some : goal.returns-in-Some
returns-in-Some g c = grind (arith, refuses_first, lacks_none)
