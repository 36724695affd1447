-- The characters of a string.
use Rattle.std.specs.Prelude.{ℕ, List, String, string_bytes, chars}
use Rattle.std.specs.declared.alloc.Global.{Global}

-- the characters of a string
abbrev pub text_of : String Global → List ℕ
text_of text = chars (string_bytes text)
