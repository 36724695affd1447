-- The rest of a text: what a reader from its place on has before it.
use Rattle.std.specs.Prelude.{ℕ, ◌+◌, ◌≤◌, Bool, true, List, [], ◌++◌, length, take, drop, ⊤, Option, Some, None}
use Rattle.py_plain.specs.Units.{Order}
use Rattle.py_plain.specs.Handlers.{treatment}
use Rattle.py_plain.specs.Items.{Walk, walk_from, characters_of, refusal_of, decoding}
use Rattle.py_plain.specs.NewlineRule.{translated_to}
use Rattle.py_plain_text.specs.TextFile.{Front, TextSettings, TextFile}

-- the characters up to the end or to a refused range, and that range in byte places of the stream
pub record Rest : Type 0 where
  pub characters : List ℕ
  pub refusal : Option (ℕ × ℕ)

-- the characters of a front past those skipped: its bytes, decoded alone and finally
abbrev pub front_characters : TextSettings → Order → List ℕ → Option Front → List ℕ
front_characters settings order bytes None = []
front_characters settings order bytes (Some front) = drop front.skipped (characters_of (walk_from settings.encoding (treatment settings.handler settings.encoding) true order front.start 0 (take front.length (drop front.start bytes))).items)

-- the decoding from the place's byte on; `last` says that none come behind the bytes
abbrev pub decoded_to : (last : Bool) → TextFile → Walk
decoded_to last file = decoding file.settings.encoding (treatment file.settings.handler file.settings.encoding) last file.place.order file.bytes file.place.at

-- the plain decoding from the place's byte on
abbrev pub decoded : TextFile → Walk
decoded file = decoded_to true file

-- what is left: the front, then the newline rule over the decoding, without the characters taken. Where more bytes may come, it is what
-- is surely left, whatever they are: nothing of a sequence that the end cuts, nor of a CR at the end that the newline rule holds
abbrev pub rest_to : (last : Bool) → TextFile → Rest
rest_to last file = record {
  characters = drop file.place.taken (front_characters file.settings file.place.order file.bytes file.place.front ++ translated_to last file.settings.newline (characters_of (decoded_to last file).items));
  refusal = refusal_of (decoded_to last file).ending;
}

-- what is left where none come behind the bytes
abbrev pub text_rest : TextFile → Rest
text_rest file = rest_to true file

-- Texts of which more bytes come.

-- a front lies within so many bytes
abbrev pub FrontLiesWithin : ℕ → Option Front → Type 0
FrontLiesWithin size None = ⊤
FrontLiesWithin size (Some front) = front.start + front.length ≤ size

-- a text that stands within its bytes
pub record LiesInBytes (file : TextFile) : Type 0 where
  pub front : FrontLiesWithin (length file.bytes) file.place.front
  pub at : file.place.at ≤ length file.bytes

-- a text with more bytes behind its own
abbrev pub with_more : TextFile → List ℕ → TextFile
with_more file more = record file { bytes = file.bytes ++ more }
