-- What a source over a reader shows.
use Rattle.std.specs.Prelude.{true, false, []}
use Rattle.py_raw.specs.Source.{SourceView}
use Rattle.py_raw.specs.declared.read_source.ReadSource.{ReadSource}

-- the reader under a source
abbrev pub reader_of : {R : Type 0} → ReadSource R → R
reader_of source = source.reader

-- what a source over a reader shows: its faults alone, which it counts exactly
abbrev pub shown_read_source : {R : Type 0} → ReadSource R → SourceView
shown_read_source source = record { tells = false; left = []; faults = source.failed; counts_exactly = true }
