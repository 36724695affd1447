-- What a stream over a queue shows.
use Rattle.std.specs.Prelude.{true, false}
use Rattle.py_raw.specs.RawStream.{Raw, untold}
use Rattle.py_queue_raw.specs.declared.queue_raw.QueueRaw.{QueueRaw}

-- nothing of its bytes; its counts, whether it is closed, and that it can be read
abbrev pub shown : QueueRaw → Raw
shown raw = untold raw.faults raw.waits raw.closed true false false
