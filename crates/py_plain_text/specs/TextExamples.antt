-- What the worked examples of texts speak of: texts to begin with, and runs of calls.
use Rattle.std.specs.Prelude.{ℕ, false, List, [], ◌∷◌, ◌++◌, replicate, None}
use Rattle.py_flat.specs.declared.life.Life.TheVariants as life
use Rattle.py_flat.specs.FlatFile.{Abilities}
use Rattle.py_flat.specs.Examples.{can_all}
use Rattle.py_flat.specs.Calls.{FileReply}
use Rattle.py_plain.specs.declared.encoding.Encoding.{Encoding}
use Rattle.py_plain.specs.declared.handler.Handler.{Handler}
use Rattle.py_plain.specs.declared.newlines.Newlines.{Newlines}
use Rattle.py_plain.specs.Units.{Unknown}
use Rattle.py_plain_text.specs.TextFile.{TextSettings, TextFile, clean_at}
use Rattle.py_plain_text.specs.TextCalls.{TextFileCall, Changes}
use Rattle.py_plain_text.specs.TextExact.{exact}

-- the settings of a text where no more is given
abbrev pub settings_of : Encoding → Handler → Newlines → TextSettings
settings_of encoding handler newline = record {
  encoding = encoding;
  handler = handler;
  newline = newline;
  line_buffering = false;
  write_through = false;
  chunk_size = 8192;
}

-- a live text that stands at its start
abbrev pub opened_text : Abilities → TextSettings → List ℕ → TextFile
opened_text can settings bytes = record { bytes = bytes; place = clean_at 0 Unknown; can = can; settings = settings; life = life.Live }

-- a text that is read
abbrev pub text_reader : Encoding → Handler → Newlines → List ℕ → TextFile
text_reader encoding handler newline bytes = opened_text (record can_all { writable = false }) (settings_of encoding handler newline) bytes

-- a text that is written
abbrev pub text_writer : Encoding → Handler → Newlines → List ℕ → TextFile
text_writer encoding handler newline bytes = opened_text (record can_all { readable = false }) (settings_of encoding handler newline) bytes

-- a text that is read and written
abbrev pub text_random : Encoding → Handler → Newlines → List ℕ → TextFile
text_random encoding handler newline bytes = opened_text can_all (settings_of encoding handler newline) bytes

-- the bytes of a cookie that stands at a byte below 256 and skips nothing
abbrev pub cookie_at : ℕ → List ℕ
cookie_at place = place ∷ replicate 24 0

-- the bytes of a cookie whose numbers are all below 256
abbrev pub cookie_inside : (start fed skipped eof skipped_bytes : ℕ) → List ℕ
cookie_inside start fed skipped eof skipped_bytes =
    start ∷ replicate 11 0 ++ fed ∷ replicate 3 0 ++ skipped ∷ replicate 3 0 ++ eof ∷ skipped_bytes ∷ replicate 3 0

-- settings that all stay
abbrev pub no_changes : Changes
no_changes = record { encoding = None; handler = None; newline = None; line_buffering = None; write_through = None }

-- what the exact step answers to calls that come one after the other
abbrev pub replies_of : TextFile → List TextFileCall → List FileReply
replies_of file [] = []
replies_of file (call ∷ calls) = (exact file call).0 ∷ replies_of (exact file call).1 calls

-- what the exact step leaves of a text after calls that come one after the other
abbrev pub text_after : TextFile → List TextFileCall → TextFile
text_after file [] = file
text_after file (call ∷ calls) = text_after (exact file call).1 calls
