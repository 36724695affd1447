-- What a stream is opened for, and what it can do then.
use Rattle.std.specs.Prelude.{ℕ, Bool, true, false, ◌&&◌, Option, Some, None}
use Rattle.py_flat.specs.FlatFile.{Abilities}
use Rattle.py_raw.specs.RawStream.{Raw}
use Rattle.py_stream.specs.declared.access.Access.{Access}
use Rattle.py_stream.specs.declared.access.Access.TheVariants as access

-- whether a stream of an access is read
abbrev pub is_read : Access → Bool
is_read access.Read = true
is_read access.Update = true
is_read other = false

-- whether a stream of an access is written
abbrev pub is_written : Access → Bool
is_written access.Read = false
is_written other = true

-- whether a stream of an access is written from the end on
abbrev pub is_appended : Access → Bool
is_appended access.Append = true
is_appended other = false

-- what a stream of an access can do, by whether its raw can seek
abbrev pub can_of : Access → Bool → Abilities
can_of opened seekable = record { readable = is_read opened; writable = is_written opened; seekable = seekable; appending = is_appended opened }

-- whether a raw is able to do what the stream over it is opened for, with a buffer of this size or none: one that is read and written
-- through a buffer moves its raw
abbrev pub is_able : Access → Option ℕ → Raw → Bool
is_able access.Read buffer raw = raw.readable
is_able access.Write buffer raw = raw.writable
is_able access.Append buffer raw = raw.writable
is_able access.Update None raw = raw.readable && raw.writable
is_able access.Update (Some size) raw = raw.readable && raw.writable && raw.seekable
