-- The bytes of each character of a text of which none is refused: the text is written as these bytes, one after the other.
use Rattle.std.specs.Prelude.{◌≡◌, ℕ, List, [], ◌∷◌, Option, Some, None}
use Rattle.py_plain.specs.declared.encoding.Encoding.{Encoding}
use Rattle.py_plain.specs.declared.handler.Handler.{Handler}
use Rattle.py_plain.specs.declared.newlines.Newlines.{Newlines}
use Rattle.py_plain.specs.Escapes.{each_spelled}
use Rattle.py_plain.specs.Encode.{own_bytes, text_bytes, replacement, encode_treatment, encoded, refused_run}
use Rattle.py_plain_text.specs.TextWriting.{written_as}
use Rattle.py_text.specs.declared.coder.Coder.{Coder}

-- no run of a text is refused
abbrev pub IsWhole : Handler → Encoding → List ℕ → Type 0
IsWhole handler encoding text = refused_run (encoded encoding (encode_treatment handler encoding) text).ending ≡ None

-- some bytes, or others where there are none
abbrev pub or_bytes : Option (List ℕ) → List ℕ → List ℕ
or_bytes None other = other
or_bytes (Some bytes) other = bytes

-- the text that a handler gives for a character without bytes
abbrev pub substitute : Handler → ℕ → List ℕ
substitute handler c = or_bytes (replacement handler (c ∷ [])) []

-- the bytes of that text
abbrev pub substitute_bytes : Handler → Encoding → ℕ → List ℕ
substitute_bytes handler encoding c = or_bytes (text_bytes encoding (substitute handler c)) []

-- a character's own bytes, or those that a handler gives for it
abbrev pub character_bytes : Handler → Encoding → ℕ → List ℕ
character_bytes handler encoding c = or_bytes (own_bytes encoding c) (substitute_bytes handler encoding c)

-- the bytes of what the writing rule makes of a character
abbrev pub written_character : Coder → Newlines → ℕ → List ℕ
written_character coder newline c = each_spelled (character_bytes coder.errors coder.encoding) (written_as newline c)

-- the bytes of each of some characters as they stand
abbrev pub each_encoded : Coder → List ℕ → List ℕ
each_encoded coder text = each_spelled (character_bytes coder.errors coder.encoding) text

-- the bytes of each of some characters, by the writing rule
abbrev pub each_written : Coder → Newlines → List ℕ → List ℕ
each_written coder newline text = each_spelled (written_character coder newline) text
