-- What a text comes to when it is written by a coder and a newline rule.
use Rattle.std.specs.Prelude.{ℕ, ◌*◌, false, nat_le, Option, Some, None, if◌then◌else◌}
use Rattle.py_plain.specs.declared.encoding.Encoding.{Encoding}
use Rattle.py_plain.specs.declared.encoding.Encoding.TheVariants.{Utf8}
use Rattle.py_plain.specs.declared.newlines.Newlines.{Newlines}
use Rattle.py_plain_text.specs.TextFile.{TextSettings}
use Rattle.py_text.specs.declared.coder.Coder.{Coder}

-- the settings of a text that is written by a coder and a rule; the others of them don't change its bytes
abbrev pub settings_of : Coder → Newlines → TextSettings
settings_of coder newline = record { encoding = coder.encoding; handler = coder.errors; newline = newline; line_buffering = false; write_through = false; chunk_size = 0 }

-- at most how many bytes a text of so many bytes of UTF-8 is written as, where it is short and written in UTF-8: twice as many
abbrev pub short_bound : Encoding → ℕ → Option ℕ
short_bound Utf8 size = if nat_le size 4096 then Some (size * 2) else None
short_bound encoding size = None
