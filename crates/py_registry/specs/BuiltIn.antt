-- The names of the built-in codecs, spelled as they are looked for.
use Rattle.std.specs.Prelude.{ℕ, Bool, false, ◌||◌, List, [], ◌∷◌, codes, Option, Some, None, if◌then◌else◌}
use Rattle.py_plain.specs.declared.encoding.Encoding.{Encoding}
use Rattle.py_plain.specs.declared.encoding.Encoding.TheVariants.{Utf8, Latin1, Ascii, Utf16Le, Utf16Be}
use Rattle.py_registry.specs.Names.{same_name}

-- a name is among some
abbrev pub is_among : List (List ℕ) → List ℕ → Bool
is_among [] name = false
is_among (one ∷ names) name = same_name one name || is_among names name

-- the names of UTF-8
abbrev pub utf_8_names : List (List ℕ)
utf_8_names = codes "utf-8" ∷ codes "utf8" ∷ codes "utf_8" ∷ []

-- the names of ISO 8859-1
abbrev pub latin_1_names : List (List ℕ)
latin_1_names = codes "latin-1" ∷ codes "latin_1" ∷ codes "latin1" ∷ codes "iso-8859-1" ∷ []

-- the names of ASCII
abbrev pub ascii_names : List (List ℕ)
ascii_names = codes "ascii" ∷ codes "us-ascii" ∷ []

-- the names of UTF-16 with the lesser byte first
abbrev pub utf_16_le_names : List (List ℕ)
utf_16_le_names = codes "utf-16-le" ∷ codes "utf-16le" ∷ codes "utf_16_le" ∷ []

-- the names of UTF-16 with the greater byte first
abbrev pub utf_16_be_names : List (List ℕ)
utf_16_be_names = codes "utf-16-be" ∷ codes "utf-16be" ∷ codes "utf_16_be" ∷ []

-- the encoding that is built in under a name
abbrev pub built_in : List ℕ → Option Encoding
built_in name =
    if is_among utf_8_names name then Some Utf8
    else if is_among latin_1_names name then Some Latin1
    else if is_among ascii_names name then Some Ascii
    else if is_among utf_16_le_names name then Some Utf16Le
    else if is_among utf_16_be_names name then Some Utf16Be
    else None
