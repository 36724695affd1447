-- The names of an encoding and a handler that an opening looks for.
use Rattle.std.specs.Prelude.{ℕ, List, Option, Some, None, codes, bytes_eq, if◌then◌else◌}

-- the encoding's name that an argument gives: utf-8 for none, else the name itself
abbrev pub text_encoding : Option (List ℕ) → List ℕ
text_encoding None = codes "utf-8"
text_encoding (Some name) = name

-- the name that is looked for as a text's encoding: that of the locale is utf-8
abbrev pub encoding_name : Option (List ℕ) → List ℕ
encoding_name None = codes "utf-8"
encoding_name (Some name) = if bytes_eq name (codes "locale") then codes "utf-8" else name
