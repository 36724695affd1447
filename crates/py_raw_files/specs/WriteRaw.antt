-- What a raw stream over a writer shows.
use Rattle.py_raw.specs.RawStream.{Raw}
use Rattle.py_raw_files.specs.declared.write_raw.WriteRaw.{WriteRaw}
use Rattle.py_raw_files.specs.Handle.{shown_handle}

-- what a raw stream over a writer shows: what its handle shows
abbrev pub shown_write_raw : {W : Type 0} → WriteRaw W → Raw
shown_write_raw raw = shown_handle raw.handle
