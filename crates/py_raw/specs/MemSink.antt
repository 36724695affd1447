-- What a sink in memory shows, and which of its writes fail.
use Rattle.std.specs.Prelude.{ℕ, ◌+◌, ◌≤◌, true, List, length, Contains}
use Rattle.py_raw.specs.Sink.{SinkView}
use Rattle.py_raw.specs.declared.mem_sink.MemSink.{MemSink}

-- the bytes that were written to a sink in memory
abbrev pub written_in : MemSink → List ℕ
written_in sink = sink.bytes.items

-- what a sink in memory shows: it tells what was written, and counts exactly
abbrev pub shown_sink : MemSink → SinkView
shown_sink sink = record { tells = true; written = written_in sink; faults = sink.failed; counts_exactly = true }

-- how many bytes a sink in memory holds at most
abbrev pub room_of : MemSink → ℕ
room_of sink = sink.room

-- the numbers of the writes that fail outright, counted from 0
abbrev pub failing_writes : MemSink → List ℕ
failing_writes sink = sink.faults.items

-- how many writes there were
abbrev pub writes_made : MemSink → ℕ
writes_made sink = sink.writes

-- the next write is one of those that fail outright
abbrev pub NextWriteFails : MemSink → Type 0
NextWriteFails sink = Contains (failing_writes sink) (writes_made sink)

-- a sink in memory has room for a piece
abbrev pub HasRoomFor : MemSink → List ℕ → Type 0
HasRoomFor sink piece = length (written_in sink) + length piece ≤ room_of sink
