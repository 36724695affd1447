-- The lines of a reader, one after the other.
use Rattle.std.specs.Prelude.{◌≡◌, ◌≢◌, ℕ, ◌<◌, ◌-◌, [], Option, Some, None, Result, Ok, Vec}
use Rattle.std.specs.declared.alloc.Global.{Global}
use Rattle.py_flat.specs.declared.fault.IoFault.{IoFault}
use Rattle.py_flat.specs.Calls.{ReadLine, FileReply, Bytes}
use Rattle.py_stream.specs.Stream.{Stream}
use Rattle.py_stream.specs.Replies.{bytes_reply}
use Rattle.py_stream.specs.Answers.{Answers}

-- what the reader answered where this is the next item: without one, no bytes, which are the end
abbrev pub answer_to : Option (Result (Option (Vec ℕ Global)) IoFault) → FileReply
answer_to (Some answer) = bytes_reply answer
answer_to None = Bytes []

-- how many items may come after this one: one fewer after a line and a wait, and none after a refusal and the end
abbrev pub left_after : ℕ → Option (Result (Option (Vec ℕ Global)) IoFault) → ℕ
left_after left (Some (Ok answer)) = left - 1
left_after left item = 0

-- a line has bytes
abbrev pub IsLine : Option (Result (Option (Vec ℕ Global)) IoFault) → Type 0
IsLine (Some (Ok (Some line))) = line.items ≢ []
IsLine item = Unit {0}

-- The next item of n that may still come: what `readline` answers. Where none may come any more, the reader isn't called
pub record GivesLine (before : Stream) (left : ℕ) (item : Option (Result (Option (Vec ℕ Global)) IoFault)) (after : Stream) (more : ℕ) : Type 0 where
  pub ended : left ≡ 0 → (item ≡ None) × (after ≡ before)
  pub answers : 0 < left → Answers before (ReadLine None) (answer_to item) after
  pub line : IsLine item
  pub rest : more ≡ left_after left item
