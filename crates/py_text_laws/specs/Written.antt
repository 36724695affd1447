-- Which texts are read back as they were written, and what is left where one was written.
use Rattle.std.specs.Prelude.{◌≡◌, ℕ, Bool, true, false, not, nat_eq, List, ◌++◌, is_some}
use Rattle.std.specs.List.{All, list_all}
use Rattle.std.specs.Char.{IsScalar}
use Rattle.py_flat.specs.Lines.{lf, cr}
use Rattle.py_plain.specs.declared.encoding.Encoding.{Encoding}
use Rattle.py_plain.specs.declared.encoding.Encoding.TheVariants.{Utf8, Utf16Le, Utf16Be}
use Rattle.py_plain.specs.declared.newlines.Newlines.{Newlines}
use Rattle.py_plain.specs.declared.newlines.Newlines.TheVariants as rule
use Rattle.py_plain.specs.Encode.{own_bytes}
use Rattle.py_plain_text.specs.Rest.{Rest}

-- a character that an encoding has, so that no handler is asked for it
abbrev pub HasBytes : Encoding → ℕ → Type 0
HasBytes encoding c = IsScalar c × (is_some (own_bytes encoding c) ≡ true)

-- a text that is written without replacement: characters that the encoding has, each of them
abbrev pub NeedsNoHandler : Encoding → List ℕ → Type 0
NeedsNoHandler encoding text = All (HasBytes encoding) text

-- the encodings that have every character
abbrev pub has_all : Encoding → Bool
has_all Utf8 = true
has_all Utf16Le = true
has_all Utf16Be = true
has_all _ = false

-- whether a character stands nowhere in a text
abbrev pub is_without : ℕ → List ℕ → Bool
is_without character text = list_all (λ c. not (nat_eq c character)) text

-- whether a newline rule writes a text as it is and reads that as it is: "\n" and "" do so with each text; "\r" and "\r\n" write
-- each LF as another end, and the universal rule reads each CR as LF
abbrev pub is_kept : Newlines → List ℕ → Bool
is_kept rule.Lf text = true
is_kept rule.Passthrough text = true
is_kept rule.Cr text = is_without lf text
is_kept rule.Crlf text = is_without lf text
is_kept rule.Universal text = is_without cr text

-- some characters, and behind them what is left
abbrev pub rest_behind : List ℕ → Rest → Rest
rest_behind text rest = record rest { characters = text ++ rest.characters }
