-- Texts that are alike but for how large their chunks and their buffers are, and smooth calls of them.
use Rattle.std.specs.Prelude.{◌≡◌, ◌≢◌, ℕ, false, IsTrue, List, [], ◌∷◌}
use Rattle.py_flat.specs.declared.fault.IoFault.TheVariants as fault
use Rattle.py_flat.specs.Calls.{FileReply, Refused}
use Rattle.py_flat.specs.Causes.{rose}
use Rattle.py_plain_text.specs.TextCalls.{TextFileCall}
use Rattle.py_plain_text.specs.TextExact.{with_chunk_size}
use Rattle.py_raw.specs.RawStream.{tells}
use Rattle.py_read_text.specs.TextState.{TextState, file_of}
use Rattle.py_read_text.specs.Answers.{Answers}

-- two texts stand for the same file but for the size of its chunks; of the sizes of their buffers, and of what these hold, it knows nothing
abbrev pub AreAlike : TextState → TextState → Type 0
AreAlike one other = (chunk : ℕ) × (file_of other ≡ with_chunk_size (file_of one) chunk)

-- a call over a raw that tells, in which no count of the raw rose, and which didn't run out of memory
pub record IsSmoothCall (before : TextState) (reply : FileReply) (after : TextState) : Type 0 where
  pub told : IsTrue (tells before.text.buffer.raw)
  pub waits : rose before.text.buffer.raw.waits after.text.buffer.raw.waits ≡ false
  pub faults : rose before.text.buffer.raw.faults after.text.buffer.raw.faults ≡ false
  pub memory : reply ≢ Refused fault.NoMemory

-- calls of a text one after another, each a smooth one
abbrev pub AnswersAll : TextState → List TextFileCall → List FileReply → TextState → Type 0
AnswersAll before [] [] after = after ≡ before
AnswersAll before (call ∷ calls) (reply ∷ replies) after = (mid : TextState) × Answers before call reply mid × IsSmoothCall before reply mid × AnswersAll mid calls replies after
AnswersAll before [] (reply ∷ replies) after = ⊥
AnswersAll before (call ∷ calls) [] after = ⊥
