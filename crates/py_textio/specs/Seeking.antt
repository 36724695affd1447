-- Where a text is put: by a cookie, and where its bytes end.
use Rattle.std.specs.Prelude.{◌≡◌, ℕ, ◌≤◌, ℤ, pos, true, false, IsTrue, List, length, Result, Ok, Err}
use Rattle.py_flat.specs.declared.fault.IoFault.{IoFault}
use Rattle.py_flat.specs.declared.fault.IoFault.TheVariants as fault
use Rattle.py_flat.specs.declared.life.Life.TheVariants as life
use Rattle.py_flat.specs.Limits.{greatest_place}
use Rattle.py_flat.specs.Calls.{FileReply}
use Rattle.py_plain_text.specs.Cookie.{Cookie}
use Rattle.py_plain_text.specs.Landing.{start_of}
use Rattle.py_plain_text.specs.TextCalls.{SeekText}
use Rattle.py_stream.specs.Buffer.{WhereShown, SaysEnd, FailsAtEnd}
use Rattle.py_read_text.specs.TextState.{TextState}
use Rattle.py_read_text.specs.Reading.{KeepsPlace}
use Rattle.py_read_text.specs.Seeking.{Seeks}
use Rattle.py_read_text.specs.Answers.{Answers}
use Rattle.py_textio.specs.Written.{WrittenView, file_now}

-- a live text whose buffer can be moved
pub record CanMove (text : WrittenView) : Type 0 where
  pub live : text.life ≡ life.Live
  pub seeks : text.text.buffer.can.seekable ≡ true
  pub appends : text.text.buffer.can.appending ≡ false

-- Where the bytes end.

-- a text stays as it is, but for its buffer
pub record StaysOver (old new : WrittenView) : Type 0 where
  pub keeps : KeepsPlace old.text new.text
  pub pending : new.pending ≡ old.pending

-- the end was asked of the buffer, and the text stays as it is; told, it is that of the text's bytes, its own with them, and one that a
-- stream can have
pub record SaysTextEnd (old : WrittenView) (end : ℕ) (new : WrittenView) : Type 0 where
  pub asked : ℕ
  pub says : SaysEnd old.text.buffer asked new.text.buffer
  pub over : StaysOver old new
  pub life_is : new.life ≡ old.life
  pub within : end ≤ greatest_place
  pub told : WhereShown old.text.buffer (end ≡ length (file_now old).bytes)

-- asking for it failed, and the text with it
pub record FailsAtTextEnd (old new : WrittenView) : Type 0 where
  pub fails : FailsAtEnd old.text.buffer new.text.buffer
  pub over : StaysOver old new
  pub life_is : new.life ≡ life.Failed

-- memory ran out, of a raw that takes some, and all is as it was
pub record StarvesAtTextEnd (old new : WrittenView) : Type 0 where
  pub takes : IsTrue old.text.buffer.raw.takes_memory
  pub same : new.text.buffer ≡ record old.text.buffer { short = false }
  pub over : StaysOver old new
  pub life_is : new.life ≡ old.life

abbrev pub EndOutcome : WrittenView → Result ℕ IoFault → WrittenView → Type 0
EndOutcome old (Ok end) new = SaysTextEnd old end new
EndOutcome old (Err fault.RawFault) new = FailsAtTextEnd old new
EndOutcome old (Err fault.NoMemory) new = StarvesAtTextEnd old new
EndOutcome old (Err other) new = ⊥

-- Seeking.

-- a cookie that a text can be put by: its start is one that a stream can have, and it says no order
pub record CanSeekBy (goal : Cookie) : Type 0 where
  pub near : start_of goal ≤ greatest_place
  pub flags : goal.dec_flags ≡ pos 0

-- a seek is answered so, whatever was sought and by which whence, where that goes by the cookie
abbrev pub AnswersSeeks : TextState → Cookie → FileReply → TextState → Type 0
AnswersSeeks before goal reply after = (sought : List ℕ) (whence : ℤ) → Seeks before sought whence goal → Answers before (SeekText sought whence) reply after
