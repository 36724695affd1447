-- What a stream holds from its place on: looked at, lent, and passed over.
use Rattle.std.specs.Prelude.{◌≡◌, ℕ, min, Bool, true, false, List, length, take, Some, Result, Ok, Err, IfOk}
use Rattle.py_flat.specs.declared.fault.IoFault.{IoFault}
use Rattle.py_flat.specs.declared.life.Life.{Life}
use Rattle.py_flat.specs.declared.life.Life.TheVariants as life
use Rattle.py_flat.specs.Calls.{ReadInto1, Peek, Bytes}
use Rattle.py_flat.specs.Refusals.{life_fault}
use Rattle.py_flat.specs.ExactStep.{rest}
use Rattle.py_raw.specs.RawStream.{WhereTold}
use Rattle.py_stream.specs.Stream.{Stream, file_of}
use Rattle.py_stream.specs.Answers.{Answers, ahead}
use Rattle.py_stream.specs.Replies.{look_reply}

-- how many there are, in a life: none but in a live one
abbrev pub while_live : Life → ℕ → ℕ
while_live life.Live count = count
while_live other count = 0

-- how many bytes a stream lends: those that it holds from its place on, and none where it doesn't live
abbrev pub lent_by : Stream → ℕ
lent_by stream = while_live stream.life (ahead stream)

-- bytes are all that a stream lends; told, they come next in the flat bytes
pub record LendsAhead (stream : Stream) (lent : List ℕ) : Type 0 where
  pub many : length lent ≡ lent_by stream
  pub told : WhereTold stream.raw (take (length lent) (rest (file_of stream)) ≡ lent)

-- a call looks ahead as `peek` does: what it shows is all that the stream lends then
pub record LooksAhead (before : Stream) (result : Result Bool IoFault) (after : Stream) : Type 0 where
  pub lent : List ℕ
  pub answers : Answers before Peek (look_reply result lent) after
  pub lends : IfOk result (λ shown. shown ≡ true → LendsAhead after lent)

-- a call passes over as many bytes as it is asked for, of those that the stream lends: as a `readinto1` of so many, whose bytes no one gets.
-- Only the life refuses it, with all as it was
abbrev pub PassesOver : Stream → (amount : ℕ) → Result ℕ IoFault → Stream → Type 0
PassesOver before amount (Ok count) after = (count ≡ min amount (lent_by before)) × ((part : List ℕ) × (length part ≡ count) × Answers before (ReadInto1 count) (Bytes part) after)
PassesOver before amount (Err why) after = (life_fault before.life ≡ Some why) × (after ≡ record before { short = false })
