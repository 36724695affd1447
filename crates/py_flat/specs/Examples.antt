-- What the worked examples speak of: flat files to begin with, and runs of calls.
use Rattle.std.specs.Prelude.{ℕ, true, false, List, [], ◌∷◌, length}
use Rattle.py_flat.specs.declared.life.Life.TheVariants as life
use Rattle.py_flat.specs.Calls.{FileCall, FileReply}
use Rattle.py_flat.specs.FlatFile.{Abilities, Buffering, Unbuffered, Buffered, FlatFile, InMemory}
use Rattle.py_flat.specs.ExactStep.{exact}

-- a stream that can all
abbrev pub can_all : Abilities
can_all = record { readable = true; writable = true; seekable = true; appending = false }

-- a live file that stands at its start
abbrev pub opened : Abilities → Buffering → List ℕ → FlatFile
opened can buffering bytes = record { bytes = bytes; place = 0; can = can; buffering = buffering; life = life.Live }

-- a file, moved to a place
abbrev pub standing : FlatFile → ℕ → FlatFile
standing file place = record file { place = place }

-- a random stream with a buffer of that size
abbrev pub random : ℕ → List ℕ → FlatFile
random size bytes = opened can_all (Buffered size) bytes

-- a memory stream
abbrev pub memory : List ℕ → FlatFile
memory bytes = opened can_all InMemory bytes

-- an unbuffered stream
abbrev pub unbuffered : List ℕ → FlatFile
unbuffered bytes = opened can_all Unbuffered bytes

-- a reader with a buffer of a size
abbrev pub reader : ℕ → List ℕ → FlatFile
reader size bytes = opened (record can_all { writable = false }) (Buffered size) bytes

-- a writer with a buffer of a size
abbrev pub writer : ℕ → List ℕ → FlatFile
writer size bytes = opened (record can_all { readable = false }) (Buffered size) bytes

-- a stream that appends, with a buffer of that size: it begins at the end
abbrev pub appender : ℕ → List ℕ → FlatFile
appender size bytes = standing (opened (record can_all { appending = true }) (Buffered size) bytes) (length bytes)

-- a random stream over what can't seek, with a buffer of that size
abbrev pub pipe : ℕ → List ℕ → FlatFile
pipe size bytes = opened (record can_all { seekable = false }) (Buffered size) bytes

-- what the exact step answers to calls that come one after the other
abbrev pub replies_of : FlatFile → List FileCall → List FileReply
replies_of file [] = []
replies_of file (call ∷ calls) = (exact file call).0 ∷ replies_of (exact file call).1 calls

-- what the exact step leaves of a file after calls that come one after the other
abbrev pub file_after : FlatFile → List FileCall → FlatFile
file_after file [] = file
file_after file (call ∷ calls) = file_after (exact file call).1 calls
