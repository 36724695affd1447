-- What the answers of the calls say, in the model's words.
use Rattle.std.specs.Prelude.{◌≡◌, ℕ, ◌≤◌, length, Bool, true, false, List, take, drop, Option, Some, None, Result, Ok, Err, Vec}
use denote.Bor.{Bor}
use Rattle.std.specs.declared.alloc.Global.{Global}
use Rattle.py_flat.specs.declared.fault.IoFault.{IoFault}
use Rattle.py_flat.specs.declared.fault.IoFault.TheVariants as fault
use Rattle.py_flat.specs.Calls.{FileReply, Bytes, Lines as LinesReply, Count, Place, Done, NotReady, Refused}

-- the reply of a reading that gives bytes
abbrev pub bytes_reply : Result (Option (Vec ℕ Global)) IoFault → FileReply
bytes_reply (Ok (Some part)) = Bytes part.items
bytes_reply (Ok None) = NotReady
bytes_reply (Err why) = Refused why

-- the reply of a reading into a buffer, by what the buffer has then
abbrev pub into_reply : Result (Option ℕ) IoFault → List ℕ → FileReply
into_reply (Ok (Some count)) buffer = Bytes (take count buffer)
into_reply (Ok None) buffer = NotReady
into_reply (Err why) buffer = Refused why

-- no more bytes are counted than the buffer has
abbrev pub CountFits : Result (Option ℕ) IoFault → List ℕ → Type 0
CountFits (Ok (Some count)) buffer = count ≤ length buffer
CountFits result buffer = Unit {0}

-- what the stream refuses by itself leaves the caller's buffer as it was: every error but those of its raw and running out of
-- memory
abbrev pub KeepsBuffer : Result (Option ℕ) IoFault → List ℕ → List ℕ → Type 0
KeepsBuffer (Err fault.RawFault) before after = Unit {0}
KeepsBuffer (Err fault.NoMemory) before after = Unit {0}
KeepsBuffer (Err why) before after = after ≡ before
KeepsBuffer (Ok answer) before after = Unit {0}

-- the caller's buffer is as it was after the bytes that were given, and all of it where none were
abbrev pub KeepsUnread : Result (Option ℕ) IoFault → List ℕ → List ℕ → Type 0
KeepsUnread (Ok (Some count)) before after = drop count after ≡ drop count before
KeepsUnread result before after = after ≡ before

-- the reply of a call that lends bytes
abbrev pub lent_reply : Result (Option (Bor (List ℕ))) IoFault → FileReply
lent_reply (Ok (Some part)) = Bytes part.now
lent_reply (Ok None) = NotReady
lent_reply (Err why) = Refused why

-- the reply of a call that says only whether bytes are held that may be lent
abbrev pub look_reply : Result Bool IoFault → List ℕ → FileReply
look_reply (Ok true) held = Bytes held
look_reply (Ok false) held = NotReady
look_reply (Err why) held = Refused why

-- the reply of a reading that gives lines
abbrev pub lines_reply : Result (Option (List (List ℕ))) IoFault → FileReply
lines_reply (Ok (Some lines)) = LinesReply lines
lines_reply (Ok None) = NotReady
lines_reply (Err why) = Refused why

-- the reply of a call that counts the bytes that it took
abbrev pub count_reply : Result ℕ IoFault → FileReply
count_reply (Ok count) = Count count
count_reply (Err why) = Refused why

-- the reply of one transfer that counts the bytes that it took, or waits
abbrev pub taken_reply : Result (Option ℕ) IoFault → FileReply
taken_reply (Ok (Some count)) = Count count
taken_reply (Ok None) = NotReady
taken_reply (Err why) = Refused why

-- the reply of a call that answers a place
abbrev pub place_reply : Result ℕ IoFault → FileReply
place_reply (Ok place) = Place place
place_reply (Err why) = Refused why

-- the reply of a call that answers nothing but that it was done
abbrev pub done_reply : Result (Unit {0}) IoFault → FileReply
done_reply (Ok done) = Done
done_reply (Err why) = Refused why
