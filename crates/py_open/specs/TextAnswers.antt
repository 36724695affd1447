-- What the answer of a reading says, as characters.
use Rattle.std.specs.Prelude.{ℕ, List, Option, Some, None, Result, Ok, Err}
use Rattle.py_flat.specs.declared.fault.IoFault.{IoFault}
use Rattle.py_flat.specs.Calls.{FileReply, Text, NotReady, Refused}

abbrev pub text_reply : Result (Option (List ℕ)) IoFault → FileReply
text_reply (Ok (Some characters)) = Text characters
text_reply (Ok None) = NotReady
text_reply (Err why) = Refused why
