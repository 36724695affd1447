-- What an opener of real files shows.
use Rattle.std.specs.Prelude.{ℕ, Bool, true, false, None, Result, Ok, Err, if◌then◌else◌}
use Rattle.std.specs.declared.io.ErrorKind.{ErrorKind}
use Rattle.std.specs.declared.io.ErrorKind.TheVariants.{NotSeekable}
use Rattle.std.specs.declared.io.Error.{Error}
use Rattle.std.specs.IoError.{error_kind}
use Rattle.py_raw.specs.Opener.{OpenerView}
use Rattle.py_raw_files.specs.declared.file_opener.FileOpener.{FileOpener}

-- what an opener of files shows: its counts alone, which are exact; what a path holds is the system's
abbrev pub shown_file_opener : {R F D : Type 0} → FileOpener R F D → OpenerView
shown_file_opener opener = record {
  tells = false;
  holds = λ path. None;
  faults = opener.faults;
  raw_faults = opener.raw_faults;
  raw_waits = opener.raw_waits;
  opened = opener.opened;
  taken_back = opener.taken_back;
  counts_exactly = true;
}

-- the kind of an error by which the system says that a file can't seek
abbrev pub denies_seeking : ErrorKind → Bool
denies_seeking NotSeekable = true
denies_seeking _ = false

-- whether a file can seek, by what the system answers when it is asked where it stands; any other error is the opening's
abbrev pub can_seek : Result ℕ Error → Result Bool Error
can_seek (Ok place) = Ok true
can_seek (Err error) = if denies_seeking (error_kind error) then Ok false else Err error
