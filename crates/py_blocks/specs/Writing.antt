-- What is written of a text: the bytes of its front, up to a character without bytes.
use Rattle.std.specs.Prelude.{◌≡◌, ℕ, List, [], ◌∷◌, ◌++◌, length, Option, Some, None, ⊤}
use Rattle.py_plain.specs.declared.encoding.Encoding.{Encoding}
use Rattle.py_plain.specs.declared.encoding.Encoding.TheVariants.{Latin1, Ascii}
use Rattle.py_plain.specs.Encode.{text_bytes, run_length}

-- the encodings that have one byte for each of their characters
abbrev pub IsOneByte : Encoding → Type 0
IsOneByte Latin1 = ⊤
IsOneByte Ascii = ⊤
IsOneByte _ = ⊥

-- a byte as a list of one
abbrev pub byte_bytes : Option ℕ → Option (List ℕ)
byte_bytes None = None
byte_bytes (Some byte) = Some (byte ∷ [])

-- the bytes of n characters from a text's front were appended, and the rest is left
pub record Wrote (encoding : Encoding) (text before after : List ℕ) (count : ℕ) (left : List ℕ) : Type 0 where
  pub front : List ℕ
  pub written : List ℕ
  pub split : text ≡ front ++ left
  pub counted : count ≡ length front
  pub own : text_bytes encoding front ≡ Some written
  pub appended : after ≡ before ++ written

-- what is left is empty, or begins with a character without bytes
abbrev pub Stops : Encoding → List ℕ → Type 0
Stops encoding left = run_length encoding left ≡ 0 → left ≡ []
