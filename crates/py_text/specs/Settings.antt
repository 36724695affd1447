-- The settings of a text stream.
use Rattle.std.specs.Prelude.{false, None}
use Rattle.py_plain.specs.declared.newlines.Newlines.TheVariants.{Universal}
use Rattle.py_plain_text.specs.TextCalls.{Changes}
use Rattle.py_text.specs.declared.text_settings.TextSettings.{TextSettings}
use Rattle.py_text.specs.declared.reconfigure.Reconfigure.{Reconfigure}

-- the settings that none were given for: the universal rule, and chunks of 8192 bytes
abbrev pub default_settings : TextSettings
default_settings = record { newline = Universal; line_buffering = false; write_through = false; chunk_size = 8192 }

-- none are given
abbrev pub no_changes : Reconfigure
no_changes = record { encoding = None; errors = None; newline = None; line_buffering = None; write_through = None }

-- settings that are given, in the model's words
abbrev pub changes_of : Reconfigure → Changes
changes_of changes = record {
  encoding = changes.encoding;
  handler = changes.errors;
  newline = changes.newline;
  line_buffering = changes.line_buffering;
  write_through = changes.write_through;
}
