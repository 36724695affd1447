-- Which answers of the system say that a call is to be made again at once.
use Rattle.std.specs.Prelude.{Bool, true, false, Result, Ok, Err}
use Rattle.std.specs.declared.io.ErrorKind.{ErrorKind}
use Rattle.std.specs.declared.io.ErrorKind.TheVariants.{Interrupted}
use Rattle.std.specs.declared.io.Error.{Error}
use Rattle.std.specs.IoError.{error_kind}

-- the kind of an error that interrupted a call
abbrev pub interrupts : ErrorKind → Bool
interrupts Interrupted = true
interrupts _ = false

-- whether an answer is an error that interrupted a call
abbrev pub was_interrupted : {A : Type 0} → Result A Error → Bool
was_interrupted (Ok answer) = false
was_interrupted (Err error) = interrupts (error_kind error)
