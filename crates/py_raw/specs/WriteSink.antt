-- What a sink over a writer shows.
use Rattle.std.specs.Prelude.{true, false, []}
use Rattle.py_raw.specs.Sink.{SinkView}
use Rattle.py_raw.specs.declared.write_sink.WriteSink.{WriteSink}

-- the writer under a sink
abbrev pub writer_of : {W : Type 0} → WriteSink W → W
writer_of sink = sink.writer

-- what a sink over a writer shows: its faults alone, which it counts exactly
abbrev pub shown_write_sink : {W : Type 0} → WriteSink W → SinkView
shown_write_sink sink = record { tells = false; written = []; faults = sink.failed; counts_exactly = true }
