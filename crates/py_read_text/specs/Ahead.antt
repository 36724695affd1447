-- How far a text reads ahead of its answers: no further than the last chunk that it had to ask for, and in all no more bytes than it moves forth.
use Rattle.std.specs.Prelude.{◌≡◌, ℕ, ◌+◌, ◌-◌, ◌<◌, ◌≤◌, ◌⊎◌, max, false, List, [], ◌∷◌, ◌++◌, length, take, Some, None}
use Rattle.py_flat.specs.Causes.{counted}
use Rattle.py_flat.specs.Lines.{lf, first_line}
use Rattle.py_plain.specs.declared.newlines.Newlines.{Newlines}
use Rattle.py_plain.specs.Items.{refusal_of}
use Rattle.py_plain.specs.NewlineRule.{line_end}
use Rattle.py_plain_text.specs.TextFile.{TextFile}
use Rattle.py_plain_text.specs.TextCalls.{TextFileCall, Read, ReadLine}
use Rattle.py_plain_text.specs.Rest.{text_rest}
use Rattle.py_raw.specs.RawStream.{WhereTransfers}
use Rattle.py_stream.specs.Buffer.{Buffer, WhereShown}
use Rattle.py_read_text.specs.TextState.{TextState, file_of}
use Rattle.py_read_text.specs.Waiting.{taken_walk, sure_at}

-- how many characters the front and the bytes up to a place surely give, behind those that were taken
abbrev pub known_at : TextFile → ℕ → ℕ
known_at file to = length (sure_at file to) - file.place.taken

-- the first n of what is left aren't the whole answer of a reading, whatever comes behind them: so many are less than it asks for; or none
-- of them ends the line, also where an LF comes next
abbrev pub IsLacking : TextFileCall → Newlines → ℕ → List ℕ → Type 0
IsLacking (Read None) rule count left = Unit {0}
IsLacking (Read (Some size)) rule count left = count < size
IsLacking (ReadLine limit) rule count left = count < length (first_line (line_end rule) limit (take count left ++ lf ∷ []))
IsLacking call rule count left = ⊥

-- the bytes up to a place leave a reading open: what they surely give isn't its whole answer, and no refused range stands among them
pub record LeavesOpen (file : TextFile) (call : TextFileCall) (to : ℕ) : Type 0 where
  pub lacks : IsLacking call file.settings.newline (known_at file to) (text_rest file).characters
  pub sound : refusal_of (taken_walk file to).ending ≡ None

-- a reading asked for a last chunk at a place, up to which the bytes left it open
pub record AskedAt (file : TextFile) (call : TextFileCall) (chunk start end : ℕ) : Type 0 where
  pub from : ℕ
  pub forth : start ≤ from
  pub within : end ≤ from + chunk
  pub leaves : LeavesOpen file call from

-- a reading that began at a place of the buffer brought that no further than the bytes that it had then, or than the last chunk that it had
-- to ask for
abbrev pub AsksAsNeeded : TextFile → TextFileCall → (chunk start end : ℕ) → Type 0
AsksAsNeeded file call chunk start end = (end ≤ start) ⊎ AskedAt file call chunk start end

-- where the buffer of a text stands once it has what the text owes
abbrev pub starts_at : TextState → ℕ
starts_at state = max state.text.buffer.place state.text.place.at

-- told, how far ahead a reading brought the buffer
abbrev pub ReadsNoFurther : TextState → TextFileCall → TextState → Type 0
ReadsNoFurther before call after = WhereShown before.text.buffer (AsksAsNeeded (file_of before) call before.text.settings.chunk_size (starts_at before) after.text.buffer.place)

-- a buffer that owes nothing and doesn't write was only read from: its raw moved forth, as the buffer counts, by just as many bytes as that
-- raw's reads brought, where it tells its transfers. So in all nothing was read a second time
pub record OnlyRead (before after : Buffer) : Type 0 where
  pub forth : before.raw_place ≤ after.raw_place
  pub brought : WhereTransfers before.raw (counted after.raw.reads.brought 0 ≡ counted before.raw.reads.brought (after.raw_place - before.raw_place))

abbrev pub ReadsOn : Buffer → Buffer → Type 0
ReadsOn before after = before.can.writable ≡ false → before.owed.bytes ≡ [] → OnlyRead before after
