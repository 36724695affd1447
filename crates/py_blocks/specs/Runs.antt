-- Whole characters that some bytes begin with.
use Rattle.std.specs.Prelude.{◌≡◌, ℕ, ◌≤◌, Bool, true, false, List, ◌++◌, length, take, Some}
use Rattle.std.specs.Char.{IsScalar}
use Rattle.std.specs.List.{All}
use Rattle.py_plain.specs.declared.encoding.Encoding.{Encoding}
use Rattle.py_plain.specs.declared.encoding.Encoding.TheVariants.{Utf16Le, Utf16Be}
use Rattle.py_plain.specs.Encode.{text_bytes}

-- the encoding of UTF-16 by the order of a unit's bytes; `big` says that the greater comes first
abbrev pub utf16 : (big : Bool) → Encoding
utf16 true = Utf16Be
utf16 false = Utf16Le

-- a front of some bytes is what a text is written as, and that text was appended
pub record IsRun (encoding : Encoding) (bytes before after : List ℕ) (used : ℕ) : Type 0 where
  pub text : List ℕ
  pub scalars : All IsScalar text
  pub within : used ≤ length bytes
  pub written : text_bytes encoding text ≡ Some (take used bytes)
  pub appended : after ≡ before ++ text
