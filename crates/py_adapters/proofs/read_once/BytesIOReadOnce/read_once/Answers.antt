use Rattle.std.proofs.Common.{length, take}
use Rattle.py_flat.specs.Calls.{Bytes, ReadInto1}
use Rattle.py_memio.specs.InMemory.{refusal_in_memory}
use Rattle.py_memio.specs.BytesIO.{is_lent}
use Rattle.py_adapters.proofs.Told.{memory_gives}
use Rattle.py_adapters.proofs.read_once.BytesIOReadOnce.read_once.Goals as goal

pub returns-in-Ok-clause-gives : goal.returns-in-Ok-clause-gives
returns-in-Ok-clause-gives c =
    let size = length c.args.buffer.now in
    let before = c.args.self.now in
    memory_gives (refusal_in_memory (is_lent before) before.file (ReadInto1 size)) before.file size (Bytes (take c.in-Ok.count c.readinto1.new.buffer)) c.readinto1.new.self.file c.in-Ok.ensures.answer
