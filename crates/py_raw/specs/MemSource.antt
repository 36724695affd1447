-- What a source in memory shows, and which of its reads fail.
use Rattle.std.specs.Prelude.{ℕ, true, List, drop, Contains}
use Rattle.py_raw.specs.Source.{SourceView}
use Rattle.py_raw.specs.declared.mem_source.MemSource.{MemSource}

-- the bytes that are left of a source in memory: those from its place on
abbrev pub left_in : MemSource → List ℕ
left_in source = drop source.place source.bytes.items

-- what a source in memory shows: it tells what is left, and counts exactly
abbrev pub shown_source : MemSource → SourceView
shown_source source = record { tells = true; left = left_in source; faults = source.failed; counts_exactly = true }

-- the numbers of the reads that fail, counted from 0
abbrev pub failing_reads : MemSource → List ℕ
failing_reads source = source.faults.items

-- how many reads there were
abbrev pub reads_made : MemSource → ℕ
reads_made source = source.reads

-- the next read is one of those that fail
abbrev pub NextReadFails : MemSource → Type 0
NextReadFails source = Contains (failing_reads source) (reads_made source)
