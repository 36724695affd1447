use Rattle.std.proofs.Common.{length}
use Rattle.py_stream.specs.Replies.{into_reply}
use Rattle.py_adapters.proofs.Known.{stream_gives}
use Rattle.py_adapters.proofs.read_once.BufferedReaderReadOnce.read_once.Goals as goal

pub returns-clause-gives : goal.returns-clause-gives
returns-clause-gives g c = stream_gives c.args.self.now (length c.args.buffer.now) (into_reply c.readinto1.result c.readinto1.new.buffer) c.readinto1.new.self c.readinto1.ensures.answers
