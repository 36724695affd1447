-- What the answers of streams in memory say, in the model's words. The replies of `write`, of places, and of what is only done are those
-- of every stream.
use Rattle.std.specs.Prelude.{◌≡◌, ℕ, ◌≤◌, List, length, take, drop, Result, Ok, Err, Vec}
use Rattle.std.specs.declared.alloc.Global.{Global}
use Rattle.py_flat.specs.declared.fault.IoFault.{IoFault}
use Rattle.py_flat.specs.Calls.{FileReply, Bytes, Lines as LinesReply, Refused}

-- the reply of a reading that gives bytes
abbrev pub given_reply : Result (Vec ℕ Global) IoFault → FileReply
given_reply (Ok part) = Bytes part.items
given_reply (Err why) = Refused why

-- the reply of a reading into a buffer, by what the buffer has then
abbrev pub filled_reply : Result ℕ IoFault → List ℕ → FileReply
filled_reply (Ok count) buffer = Bytes (take count buffer)
filled_reply (Err why) buffer = Refused why

-- a reading into a buffer counts no more bytes than the buffer has, and leaves what lies after those that it gave; refused, it leaves all
abbrev pub FillsFront : Result ℕ IoFault → List ℕ → List ℕ → Type 0
FillsFront (Ok count) before after = (count ≤ length after) × (drop count after ≡ drop count before)
FillsFront (Err why) before after = after ≡ before

-- the reply of a reading whose bytes no one gets
abbrev pub passed_reply : Result ℕ IoFault → List ℕ → FileReply
passed_reply (Ok count) part = Bytes part
passed_reply (Err why) part = Refused why

-- the reply of a reading that gives lines
abbrev pub given_lines_reply : Result (List (List ℕ)) IoFault → FileReply
given_lines_reply (Ok lines) = LinesReply lines
given_lines_reply (Err why) = Refused why
