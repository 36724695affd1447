-- A session's calls and replies as the models see them.
use Rattle.py_flat.specs.Calls.{FileCall, FileReply, Bytes, Text, Lines, Count, Place, Cookie, Done, NotReady, Flag, Name, Unwritten, Refused}
use Rattle.py_flat.specs.Calls as file
use Rattle.py_plain_text.specs.Cookie.{cookie_bytes}
use Rattle.py_plain_text.specs.CookieView.{cookie_shown}
use Rattle.py_plain_text.specs.TextCalls as text
use Rattle.py_plain_text.specs.TextCalls.{TextFileCall}
use Rattle.py_text.specs.Settings.{changes_of}
use Rattle.py_calls.specs.declared.call.Call.{Call}
use Rattle.py_calls.specs.declared.call.Call.TheVariants as call
use Rattle.py_calls.specs.declared.reply.Reply.{Reply}
use Rattle.py_calls.specs.declared.reply.Reply.TheVariants as reply

-- a call of a text session; a text has no others
abbrev pub text_call : Call → TextFileCall
text_call (call.Read size) = text.Read size
text_call (call.ReadLine limit) = text.ReadLine limit
text_call (call.WriteText characters) = text.WriteText characters
text_call (call.SeekText cookie whence) = text.SeekText cookie whence
text_call call.Tell = text.Tell
text_call (call.SetChunkSize size) = text.SetChunkSize size
text_call (call.Reconfigure changes) = text.Reconfigure (changes_of changes)
text_call call.Flush = text.Flush
text_call call.Close = text.Close
text_call call.Detach = text.Detach
text_call call.ChunkSize = text.ChunkSize
text_call call.Readable = text.Readable
text_call call.Writable = text.Writable
text_call call.Seekable = text.Seekable
text_call call.Closed = text.Closed
text_call call.Encoding = text.Encoding
text_call call.Errors = text.Errors
text_call _ = text.OtherKind

-- a call of a binary session
abbrev pub file_call : Call → FileCall
file_call (call.Read size) = file.Read size
file_call (call.Read1 size) = file.Read1 size
file_call (call.ReadLine limit) = file.ReadLine limit
file_call (call.ReadLines hint) = file.ReadLines hint
file_call call.Peek = file.Peek
file_call (call.ReadInto size) = file.ReadInto size
file_call (call.ReadInto1 size) = file.ReadInto1 size
file_call (call.Write bytes) = file.Write bytes
file_call (call.WriteLines lines) = file.WriteLines lines
file_call (call.Seek offset whence) = file.Seek offset whence
file_call call.Tell = file.Tell
file_call call.Flush = file.Flush
file_call call.Close = file.Close
file_call call.Detach = file.Detach
file_call call.Readable = file.Readable
file_call call.Writable = file.Writable
file_call call.Seekable = file.Seekable
file_call call.Closed = file.Closed
file_call call.ChunkSize = file.OtherGetter
file_call call.Encoding = file.OtherGetter
file_call call.Errors = file.OtherGetter
file_call (call.Truncate size) = file.Truncate size
file_call (call.WriteText text) = file.OtherKind
file_call (call.SeekText cookie whence) = file.OtherKind
file_call (call.SetChunkSize size) = file.OtherKind
file_call (call.Reconfigure changes) = file.OtherKind

-- what a reply says
abbrev pub said : Reply → FileReply
said (reply.Bytes bytes) = Bytes bytes
said (reply.Text characters) = Text characters
said (reply.Lines lines) = Lines lines
said (reply.Count count) = Count count
said (reply.Place place) = Place place
said (reply.Cookie cookie) = Cookie (cookie_bytes (cookie_shown cookie))
said reply.Done = Done
said reply.NotReady = NotReady
said (reply.Flag value) = Flag value
said (reply.Name characters) = Name characters
said (reply.Unwritten bytes place) = Unwritten bytes place
said (reply.Refused fault) = Refused fault
