-- What writing a text to a string, a sink or a text over a stream answers and leaves.
use Rattle.std.specs.Prelude.{◌≡◌, ℕ, List, ◌++◌, Result, Ok, Err, OnOk}
use Rattle.std.specs.Borrow.{MutBor}
use Rattle.py_flat.specs.declared.fault.IoFault.{IoFault}
use Rattle.py_flat.specs.declared.fault.IoFault.TheVariants as fault
use Rattle.py_raw.specs.declared.source.Failed.{Failed}
use Rattle.py_raw.specs.Sink.{SinkView, SinkKeeps, SinkOutcome, NoSinkFault}
use Rattle.py_plain_text.specs.TextCalls.{WriteText}
use Rattle.py_stream.specs.Replies.{count_reply}
use Rattle.py_read_text.specs.TextState.{TextState}
use Rattle.py_read_text.specs.Answers.{Answers}

-- a text's bytes are put behind a string's, or memory ran out and they are as they were
abbrev pub AppendsText : (before text : List ℕ) → Result (Unit {0}) IoFault → (after : List ℕ) → Type 0
AppendsText before text (Ok done) after = after ≡ before ++ text
AppendsText before text (Err why) after = (why ≡ fault.NoMemory) × (after ≡ before)

-- one write to a sink, of all of a text's bytes: what its own clauses say
pub record WritesToSink (before : SinkView) (text : List ℕ) (result : Result (Unit {0}) Failed) (after : SinkView) : Type 0 where
  pub keeps : SinkKeeps before after
  pub outcome : SinkOutcome before text result after
  pub exact : OnOk result (NoSinkFault before after)

-- an answer to a write, without how many characters were written
abbrev pub without_count : Result ℕ IoFault → Result (Unit {0}) IoFault
without_count (Ok count) = Ok tt
without_count (Err why) = Err why

-- one `write` of a text over a stream was made, whose answer this is but for its count
pub record WritesToText (before : TextState) (text : List ℕ) (result : Result (Unit {0}) IoFault) (after : TextState) : Type 0 where
  pub wrote : Result ℕ IoFault
  pub answers : Answers before (WriteText text) (count_reply wrote) after
  pub says : result ≡ without_count wrote

-- a fact of what was lent, which is lent still
abbrev pub WritesThrough : {A : Type 0} → MutBor A → MutBor A → Type 0 → Type 0
WritesThrough before after Fact = (after.ghost_name ≡ before.ghost_name) × Fact
