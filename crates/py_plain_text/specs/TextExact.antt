-- The exact step of a text: what an accepted call answers and leaves, where nothing waits, fails or runs out of memory.
use Rattle.std.specs.Prelude.{ℕ, zero, suc, ◌+◌, ℤ, pos, List, [], length, Option, Some, None, is_some, if◌then◌else◌}
use Rattle.py_flat.specs.declared.fault.IoFault.{IoFault}
use Rattle.py_flat.specs.declared.fault.IoFault.TheVariants as fault
use Rattle.py_flat.specs.declared.life.Life.{Life}
use Rattle.py_flat.specs.declared.life.Life.TheVariants as life
use Rattle.py_flat.specs.Bytes.{lay}
use Rattle.py_flat.specs.Calls.{FileReply, Count, Cookie, Done, Flag, Name, Unwritten, Refused}
use Rattle.py_flat.specs.ExactStep.{is_closed}
use Rattle.py_plain.specs.Units.{Order, Unknown}
use Rattle.py_plain.specs.Names.{encoding_name, handler_name}
use Rattle.py_plain_text.specs.TextFile.{TextFile}
use Rattle.py_plain_text.specs.Rest.{text_rest}
use Rattle.py_plain_text.specs.TextStep.{text_read, text_line}
use Rattle.py_plain_text.specs.TextWriting.{written_bytes}
use Rattle.py_plain_text.specs.Cookie as cookie
use Rattle.py_plain_text.specs.Cookie.{boundary_cookie, cookie_of, cookie_bytes, flags_of}
use Rattle.py_plain_text.specs.Landing.{Landed, Stands, CantRestore, lands}
use Rattle.py_plain_text.specs.Telling.{placed, told}
use Rattle.py_plain_text.specs.TextCalls.{TextFileCall, Read, ReadLine, WriteText, SeekText, Tell, Reconfigure, SetChunkSize, Flush, Close, Detach, ChunkSize, Readable, Writable, Seekable, Closed, Encoding, Errors, OtherKind, Changes, changed}
use Rattle.py_plain_text.specs.TextRefusals.{refusal}

abbrev pub in_life : TextFile → Life → TextFile
in_life file life = record file { life = life }

-- a text after its bytes were written: laid at its byte, behind which it stands
abbrev pub after_writing : TextFile → List ℕ → TextFile
after_writing file bytes =
    record file { bytes = lay file.bytes file.place.at bytes; place = record file.place { at = file.place.at + length bytes } }

-- the order of a text that was given settings: with an encoding it begins anew
abbrev pub order_with : TextFile → Changes → Order
order_with file changes = if is_some changes.encoding then Unknown else file.place.order

-- a text with new settings
abbrev pub after_changes : TextFile → Changes → TextFile
after_changes file changes =
    record file { settings = changed file.settings changes; place = record file.place { order = order_with file changes } }

abbrev pub with_chunk_size : TextFile → ℕ → TextFile
with_chunk_size file size = record file { settings = record file.settings { chunk_size = size } }

-- the cookie that a seek goes to: the one given; the text's own place; the end of its bytes, in the text's order
abbrev pub sought_cookie : TextFile → List ℕ → ℤ → cookie.Cookie
sought_cookie file bytes (pos (suc zero)) = told file
sought_cookie file bytes (pos (suc (suc zero))) = boundary_cookie (length file.bytes) (flags_of file.place.order)
sought_cookie file bytes _ = cookie_of bytes

-- a text that landed; where it couldn't be restored it stands at the cookie's start, and the call is refused
abbrev pub after_landing : TextFile → cookie.Cookie → Landed → FileReply × TextFile
after_landing file sought (Stands place) = (Cookie (cookie_bytes sought), placed file place)
after_landing file sought (CantRestore place) = (Refused fault.CannotRestore, placed file place)

abbrev pub text_sought : TextFile → cookie.Cookie → FileReply × TextFile
text_sought file sought = after_landing file sought (lands file sought)

-- the place that is handed back with the lower stream: none where it can't seek
abbrev pub handed_place : TextFile → Option ℕ
handed_place file = if file.can.seekable then Some file.place.at else None

-- what an accepted call answers and leaves. The `detach` of a failed text gives back what the model doesn't know: `HandsBack` of
-- `TextAllowed` says what
abbrev pub carried_out : TextFile → TextFileCall → FileReply × TextFile
carried_out file (Read size) = text_read file size (text_rest file)
carried_out file (ReadLine limit) = text_line file limit (text_rest file)
carried_out file (WriteText text) = (Count (length text), after_writing file (written_bytes file.settings text))
carried_out file (SeekText bytes whence) = text_sought file (sought_cookie file bytes whence)
carried_out file Tell = (Cookie (cookie_bytes (told file)), file)
carried_out file (Reconfigure changes) = (Done, after_changes file changes)
carried_out file (SetChunkSize size) = (Done, with_chunk_size file size)
carried_out file Flush = (Done, file)
carried_out file Close = (Done, in_life file life.Closed)
carried_out file Detach = (Unwritten [] (handed_place file), in_life file life.Detached)
carried_out file ChunkSize = (Count file.settings.chunk_size, file)
carried_out file Readable = (Flag file.can.readable, file)
carried_out file Writable = (Flag file.can.writable, file)
carried_out file Seekable = (Flag file.can.seekable, file)
carried_out file Closed = (Flag (is_closed file.life), file)
carried_out file Encoding = (Name (encoding_name file.settings.encoding), file)
carried_out file Errors = (Name (handler_name file.settings.handler), file)
carried_out file OtherKind = (Done, file)

-- a refusal leaves the text as it was
abbrev pub answered : TextFile → TextFileCall → Option IoFault → FileReply × TextFile
answered file call (Some fault) = (Refused fault, file)
answered file call None = carried_out file call

-- the exact step: what a text answers to a call, and how the call leaves it
abbrev pub exact : TextFile → TextFileCall → FileReply × TextFile
exact file call = answered file call (refusal file call)
