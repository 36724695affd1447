-- What a raw stream over a reader shows.
use Rattle.py_raw.specs.RawStream.{Raw}
use Rattle.py_raw_files.specs.declared.read_raw.ReadRaw.{ReadRaw}
use Rattle.py_raw_files.specs.Handle.{shown_handle}

-- what a raw stream over a reader shows: what its handle shows
abbrev pub shown_read_raw : {R : Type 0} → ReadRaw R → Raw
shown_read_raw raw = shown_handle raw.handle
