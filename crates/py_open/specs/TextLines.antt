-- The lines of a text, one after the other.
use Rattle.std.specs.Prelude.{◌≡◌, ◌≢◌, ℕ, ◌<◌, ◌-◌, List, [], Option, Some, None, Result, Ok}
use Rattle.py_flat.specs.declared.fault.IoFault.{IoFault}
use Rattle.py_flat.specs.Calls.{FileReply, Text}
use Rattle.py_plain_text.specs.TextCalls.{ReadLine}
use Rattle.py_read_text.specs.TextState.{TextState}
use Rattle.py_read_text.specs.Answers.{Answers}
use Rattle.py_open.specs.TextAnswers.{text_reply}

-- what the text answered where this is the next item: without one, no characters, which are the end
abbrev pub answer_to : Option (Result (Option (List ℕ)) IoFault) → FileReply
answer_to (Some answer) = text_reply answer
answer_to None = Text []

-- how many items may come after this one: one fewer after a line and a wait, and none after a refusal and the end
abbrev pub left_after : ℕ → Option (Result (Option (List ℕ)) IoFault) → ℕ
left_after left (Some (Ok answer)) = left - 1
left_after left item = 0

-- a line has characters
abbrev pub IsLine : Option (Result (Option (List ℕ)) IoFault) → Type 0
IsLine (Some (Ok (Some line))) = line ≢ []
IsLine item = Unit {0}

-- The next item of n that may still come: what `readline` answers. Where none may come any more, the text isn't called
pub record GivesLine (before : TextState) (left : ℕ) (item : Option (Result (Option (List ℕ)) IoFault)) (after : TextState) (more : ℕ) : Type 0 where
  pub ended : left ≡ 0 → (item ≡ None) × (after ≡ before)
  pub answers : 0 < left → Answers before (ReadLine None) (answer_to item) after
  pub line : IsLine item
  pub rest : more ≡ left_after left item
