-- Writing by std's `fmt`.
use Rattle.std.specs.Prelude.{◌≡◌, ℕ, List, Option, Some, Result, Ok, Err}
use Rattle.std.specs.declared.fmt.Error.{Error}
use Rattle.py_flat.specs.declared.fault.IoFault.{IoFault}
use Rattle.py_flat.specs.declared.fault.IoFault.TheVariants as fault
use Rattle.py_plain_text.specs.TextCalls.{WriteText}
use Rattle.py_stream.specs.Replies.{count_reply}
use Rattle.py_read_text.specs.TextState.{TextState}
use Rattle.py_read_text.specs.Answers.{Answers}

-- what `fmt` is answered, and what is told of the text: a piece that was taken is done, and a wait is told; what refuses a piece is an error
-- that says nothing, and is told
abbrev pub SaysPiece : Result ℕ IoFault → Result (Unit {0}) Error → (was told : Option IoFault) → Type 0
SaysPiece (Ok count) (Ok done) was told = told ≡ was
SaysPiece (Err (fault.WouldBlock taken)) (Ok done) was told = told ≡ Some (fault.WouldBlock taken)
SaysPiece (Err (fault.WouldBlock taken)) (Err error) was told = ⊥
SaysPiece (Err why) (Err error) was told = told ≡ Some why
SaysPiece wrote result was told = ⊥

-- one `write` of a text was made of a piece, and `fmt` is answered by what that answered
pub record AnswersPiece (before : TextState) (piece : List ℕ) (result : Result (Unit {0}) Error) (after : TextState) (was told : Option IoFault) : Type 0 where
  pub wrote : Result ℕ IoFault
  pub answers : Answers before (WriteText piece) (count_reply wrote) after
  pub says : SaysPiece wrote result was told
