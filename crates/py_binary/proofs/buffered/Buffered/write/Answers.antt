use Rattle.std.proofs.Common.{refl}
use Rattle.py_flat.specs.Calls.{Write}
use Rattle.py_binary.proofs.Alone.{unwritten_refuses}
use Rattle.py_binary.proofs.buffered.Buffered.write.Goals as goal

pub returns-in-Reader : goal.returns-in-Reader
returns-in-Reader g c = rw c.in-Reader.is (c.refuse.ensures.answers (Write c.args.bytes.now) (unwritten_refuses c.in-Reader.reader (Write c.args.bytes.now) refl c.refuse.ensures.only_reads.1))
