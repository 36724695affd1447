-- What the answers of a stream of characters in memory say. Its flat file has characters, each as its number, where that of a stream of
-- bytes has bytes, so its readings give these.
use Rattle.std.specs.Prelude.{◌≡◌, ℕ, List, Option, Some, None, Result, Ok, Err, chars, String, string_bytes}
use Rattle.std.specs.declared.alloc.Global.{Global}
use Rattle.py_flat.specs.declared.fault.IoFault.{IoFault}
use Rattle.py_flat.specs.declared.fault.IoFault.TheVariants as fault
use Rattle.py_flat.specs.Calls.{FileReply, Bytes, Refused}

-- the characters of a text
abbrev pub characters_of : String Global → List ℕ
characters_of text = chars (string_bytes text)

-- the reply of a reading that gives a text
abbrev pub text_reply : Result (String Global) IoFault → FileReply
text_reply (Ok text) = Bytes (characters_of text)
text_reply (Err why) = Refused why

-- a text of all characters, or out of memory
abbrev pub GivesText : Option IoFault → List ℕ → Result (String Global) IoFault → Type 0
GivesText (Some why) characters result = result ≡ Err why
GivesText None characters (Ok text) = characters_of text ≡ characters
GivesText None characters (Err why) = why ≡ fault.NoMemory
