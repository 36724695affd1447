use Rattle.std.proofs.Common.{refl}
use Rattle.py_flat.specs.Calls.{WriteLines}
use Rattle.py_binary.proofs.Alone.{unwritten_refuses}
use Rattle.py_binary.proofs.buffered.Buffered.writelines.Goals as goal

pub returns-in-Reader : goal.returns-in-Reader
returns-in-Reader g c = rw c.in-Reader.is (c.refuse.ensures.answers (WriteLines c.args.lines.now) (unwritten_refuses c.in-Reader.reader (WriteLines c.args.lines.now) refl c.refuse.ensures.only_reads.1))
