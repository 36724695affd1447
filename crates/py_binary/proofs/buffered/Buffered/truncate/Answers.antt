use Rattle.py_flat.specs.Calls.{Truncate}
use Rattle.py_binary.proofs.Alone.{unwritten_keeps_size}
use Rattle.py_binary.proofs.buffered.Buffered.truncate.Goals as goal

pub returns-in-Reader : goal.returns-in-Reader
returns-in-Reader g c = rw c.in-Reader.is (c.refuse.ensures.answers (Truncate c.args.size) (unwritten_keeps_size c.in-Reader.reader c.args.size c.refuse.ensures.only_reads.1))
