-- What a raw stream over a file shows.
use Rattle.py_raw.specs.RawStream.{Raw}
use Rattle.py_raw_files.specs.declared.file_raw.FileRaw.{FileRaw}
use Rattle.py_raw_files.specs.Handle.{shown_handle}

-- what a raw stream over a file shows: what its handle shows
abbrev pub shown : {F : Type 0} → FileRaw F → Raw
shown raw = shown_handle raw.handle
