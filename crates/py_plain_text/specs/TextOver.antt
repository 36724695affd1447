-- A text over a buffer: what it is seen as, and the text that it stands for.
use Rattle.std.specs.Prelude.{ℕ, List}
use Rattle.py_flat.specs.declared.life.Life.{Life}
use Rattle.py_flat.specs.Bytes.{lay}
use Rattle.py_flat.specs.FlatFile.{FlatFile}
use Rattle.py_plain_text.specs.TextFile.{TextPlace, TextSettings, TextFile}

-- what its buffer is seen as; the bytes that the text took from its callers and its buffer hasn't; its place, settings and life
pub record TextOver (Buffer : Type 0) : Type 0 where
  pub buffer : Buffer
  pub owed : List ℕ
  pub place : TextPlace
  pub settings : TextSettings
  pub life : Life

-- the text that stands over a buffer's flat file: what the text itself owes is laid where the buffer stands, behind what that owes
abbrev pub text_over : FlatFile → List ℕ → TextPlace → TextSettings → Life → TextFile
text_over file owed place settings life = record {
  bytes = lay file.bytes file.place owed;
  place = place;
  can = file.can;
  settings = settings;
  life = life;
}

-- the text that a text over a buffer stands for, by the flat file that the buffer stands for
abbrev pub text_file_of : {Buffer : Type 0} → (Buffer → FlatFile) → TextOver Buffer → TextFile
text_file_of file_of text = text_over (file_of text.buffer) text.owed text.place text.settings text.life
