-- A text over a buffered stream: what it is seen as.
use Rattle.std.specs.Prelude.{Bool}
use Rattle.py_plain_text.specs.TextFile.{TextSettings, TextFile}
use Rattle.py_plain_text.specs.TextOver.{TextOver, text_file_of}
use Rattle.py_stream.specs.Buffer.{Buffer, flat_of}
use Rattle.py_text.specs.declared.coder.Coder.{Coder}
use Rattle.py_text.specs.declared.text_settings.TextSettings as declared

-- the text over what its buffer is seen as; and whether a wait cut its last answer short
pub record TextState : Type 0 where
  pub text : TextOver Buffer
  pub short : Bool

-- the text that it stands for
abbrev pub file_of : TextState → TextFile
file_of state = text_file_of flat_of state.text

-- the settings of a text, by what it decodes by and its others
abbrev pub settings_of : Coder → declared.TextSettings → TextSettings
settings_of coder settings = record {
  encoding = coder.encoding;
  handler = coder.errors;
  newline = settings.newline;
  line_buffering = settings.line_buffering;
  write_through = settings.write_through;
  chunk_size = settings.chunk_size;
}
