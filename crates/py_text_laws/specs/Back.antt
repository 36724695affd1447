-- What stands between a cookie and its use.
use Rattle.std.specs.Prelude.{Bool, true, false, List}
use Rattle.std.specs.List.{list_all}
use Rattle.py_plain_text.specs.TextCalls.{TextFileCall, WriteText, Reconfigure, SetChunkSize, Close, Detach}

-- whether a call leaves the bytes of a text, its settings and its life as they are, whatever it answers: it reads, seeks, tells, flushes or asks
abbrev pub only_moves : TextFileCall → Bool
only_moves (WriteText text) = false
only_moves (Reconfigure changes) = false
only_moves (SetChunkSize size) = false
only_moves Close = false
only_moves Detach = false
only_moves call = true

-- whether each of some calls does
abbrev pub only_move : List TextFileCall → Bool
only_move calls = list_all only_moves calls
