-- The calls of a text, as the model sees them. Each answers what a stream answers (`FileReply`).
use Rattle.std.specs.Prelude.{ℕ, ℤ, Bool, true, false, ◌||◌, List, Option, is_some, unwrap_or}
use Rattle.py_plain.specs.declared.encoding.Encoding as coding
use Rattle.py_plain.specs.declared.handler.Handler.{Handler}
use Rattle.py_plain.specs.declared.newlines.Newlines.{Newlines}
use Rattle.py_plain_text.specs.TextFile.{TextSettings}

-- settings that a text is given; those that aren't given stay
pub record Changes : Type 0 where
  pub encoding : Option coding.Encoding
  pub handler : Option Handler
  pub newline : Option Newlines
  pub line_buffering : Option Bool
  pub write_through : Option Bool

-- whether the settings given say how a text is read
abbrev pub changes_reading : Changes → Bool
changes_reading changes = is_some changes.encoding || (is_some changes.handler || is_some changes.newline)

-- settings, changed
abbrev pub changed : TextSettings → Changes → TextSettings
changed settings changes = record {
  encoding = unwrap_or changes.encoding settings.encoding;
  handler = unwrap_or changes.handler settings.handler;
  newline = unwrap_or changes.newline settings.newline;
  line_buffering = unwrap_or changes.line_buffering settings.line_buffering;
  write_through = unwrap_or changes.write_through settings.write_through;
  chunk_size = settings.chunk_size;
}

-- a call of a text: sizes and limits in characters, a text as its characters, a cookie as its bytes, a chunk in bytes
pub data TextFileCall : Type 0 where
  Read : (size : Option ℕ) → TextFileCall
  ReadLine : (limit : Option ℕ) → TextFileCall
  WriteText : (text : List ℕ) → TextFileCall
  SeekText : (cookie : List ℕ) (whence : ℤ) → TextFileCall
  Tell : TextFileCall
  Reconfigure : (changes : Changes) → TextFileCall
  SetChunkSize : (size : ℕ) → TextFileCall
  Flush : TextFileCall
  Close : TextFileCall
  Detach : TextFileCall
  ChunkSize : TextFileCall
  Readable : TextFileCall
  Writable : TextFileCall
  Seekable : TextFileCall
  Closed : TextFileCall
  Encoding : TextFileCall
  Errors : TextFileCall
  -- a call that texts don't have
  OtherKind : TextFileCall

-- Kinds of calls.

-- whether a call only tells a setting or an ability: these are never refused
abbrev pub is_getter : TextFileCall → Bool
is_getter ChunkSize = true
is_getter Readable = true
is_getter Writable = true
is_getter Seekable = true
is_getter Closed = true
is_getter Encoding = true
is_getter Errors = true
is_getter _ = false

-- whether the answer is a name, which takes memory
abbrev pub tells_name : TextFileCall → Bool
tells_name Encoding = true
tells_name Errors = true
tells_name _ = false

-- whether a call only tells or sets what the text itself has, so that it goes to no raw
abbrev pub is_own : TextFileCall → Bool
is_own Tell = true
is_own (Reconfigure changes) = true
is_own (SetChunkSize size) = true
is_own call = is_getter call

abbrev pub is_close : TextFileCall → Bool
is_close Close = true
is_close _ = false

abbrev pub is_detach : TextFileCall → Bool
is_detach Detach = true
is_detach _ = false
