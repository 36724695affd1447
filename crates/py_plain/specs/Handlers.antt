-- What a handler makes of a refused range of bytes (Python's documentation of `codecs`, "Error Handlers").
use Rattle.std.specs.Prelude.{ℕ, ◌+◌, ◌-◌, ◌*◌, Bool, true, false, ◌&&◌, List, [], ◌∷◌, length, take, Option, Some, None, if◌then◌else◌}
use Rattle.py_plain.specs.declared.encoding.Encoding.{Encoding}
use Rattle.py_plain.specs.declared.encoding.Encoding.TheVariants.{Utf8, Latin1, Ascii, Utf16Le, Utf16Be}
use Rattle.py_plain.specs.declared.handler.Handler.{Handler}
use Rattle.py_plain.specs.declared.handler.Handler.TheVariants.{Strict, Ignore, Replace, XmlCharRefReplace, BackslashReplace, SurrogatePass, SurrogateEscape}
use Rattle.py_plain.specs.Utf8.{is_within}
use Rattle.py_plain.specs.Utf16.{code_unit}
use Rattle.py_plain.specs.OneByte.{is_ascii}
use Rattle.py_plain.specs.Escapes.{backslash_escape, surrogate_escape, surrogate_pass, each_spelled}

-- characters in place of the bytes that it used, at least one; or a refusal
pub data Handled : Type 0 where
  Replaced : (characters : List ℕ) (used : ℕ) → Handled
  Refuses : Handled

-- how refused ranges are treated: by the place of a range, the bytes from there on, and the range's length
abbrev pub Treatment : Type 0
Treatment = ℕ → List ℕ → ℕ → Handled

-- the bytes up to the first ASCII one
abbrev pub front_past_ascii : List ℕ → List ℕ
front_past_ascii [] = []
front_past_ascii (byte ∷ rest) = if is_ascii byte then [] else byte ∷ front_past_ascii rest

-- each byte of the range up to the first ASCII one; a range that begins with one is refused
abbrev pub escaped : List ℕ → Handled
escaped [] = Refuses
escaped (byte ∷ rest) = Replaced (each_spelled surrogate_escape (byte ∷ rest)) (length (byte ∷ rest))

-- the character whose three bytes in the form of UTF-8 are these: 1110, 10 and 10 before its 4, 6 and 6 bits
abbrev pub three_bytes : List ℕ → Option ℕ
three_bytes (first ∷ second ∷ third ∷ rest) =
    if is_within 0xE0 0xEF first && (is_within 0x80 0xBF second && is_within 0x80 0xBF third)
    then Some ((first - 0xE0) * 0x1000 + (second - 0x80) * 0x40 + (third - 0x80)) else None
three_bytes bytes = None

abbrev pub two_bytes : Bool → List ℕ → Option ℕ
two_bytes big (first ∷ second ∷ rest) = Some (code_unit big first second)
two_bytes big bytes = None

-- the number that bytes spell in the form of an encoding, where they could be a surrogate
abbrev pub spelled_number : Encoding → List ℕ → Option ℕ
spelled_number Utf8 bytes = three_bytes bytes
spelled_number Latin1 bytes = None
spelled_number Ascii bytes = None
spelled_number Utf16Le bytes = two_bytes false bytes
spelled_number Utf16Be bytes = two_bytes true bytes

-- how many bytes spell a number in an encoding
abbrev pub number_length : Encoding → ℕ
number_length Utf8 = 3
number_length _ = 2

unfoldable pub is_surrogate : ℕ → Bool
is_surrogate number = is_within 0xD800 0xDFFF number

abbrev pub passed : ℕ → Option ℕ → Handled
passed length None = Refuses
passed length (Some number) = if is_surrogate number then Replaced (surrogate_pass number) length else Refuses

-- the treatment that a handler stands for
abbrev pub treatment : Handler → Encoding → Treatment
treatment Strict encoding place rest size = Refuses
treatment Ignore encoding place rest size = Replaced [] size
treatment Replace encoding place rest size = Replaced (0xFFFD ∷ []) size
treatment XmlCharRefReplace encoding place rest size = Refuses
treatment BackslashReplace encoding place rest size = Replaced (each_spelled backslash_escape (take size rest)) size
treatment SurrogatePass encoding place rest size = passed (number_length encoding) (spelled_number encoding rest)
treatment SurrogateEscape encoding place rest size = escaped (front_past_ascii (take size rest))

-- the five handlers of texts that are read
abbrev pub reads_texts : Handler → Bool
reads_texts Strict = true
reads_texts Ignore = true
reads_texts Replace = true
reads_texts BackslashReplace = true
reads_texts SurrogateEscape = true
reads_texts _ = false
