-- The encoding of a text: the bytes of each character, and what a handler makes of a run of characters without bytes.
use Rattle.std.specs.Prelude.{ℕ, zero, suc, ◌+◌, ◌-◌, ◌/◌, ◌%◌, Bool, true, false, nat_lt, List, [], ◌∷◌, ◌++◌, take, Option, Some, None, if◌then◌else◌}
use Rattle.std.specs.Char.{encode_utf8}
use Rattle.py_plain.specs.declared.encoding.Encoding.{Encoding}
use Rattle.py_plain.specs.declared.encoding.Encoding.TheVariants.{Utf8, Latin1, Ascii, Utf16Le, Utf16Be}
use Rattle.py_plain.specs.declared.handler.Handler.{Handler}
use Rattle.py_plain.specs.declared.handler.Handler.TheVariants.{Strict, Ignore, Replace, XmlCharRefReplace, BackslashReplace, SurrogatePass, SurrogateEscape}
use Rattle.py_plain.specs.Escapes.{backslash_escape, character_reference, each_spelled}

-- The bytes of a character.

-- a code unit of UTF-16 as its two bytes; `big` says that the greater comes first
abbrev pub unit_bytes : Bool → ℕ → List ℕ
unit_bytes big unit = if big then unit / 256 ∷ unit % 256 ∷ [] else unit % 256 ∷ unit / 256 ∷ []

-- a character of UTF-16: one code unit, or a pair of surrogates (the Unicode Standard, Table 3-5)
abbrev pub utf16_bytes : Bool → ℕ → List ℕ
utf16_bytes big c =
    if nat_lt c 0x10000 then unit_bytes big c
    else unit_bytes big (0xD800 + (c - 0x10000) / 0x400) ++ unit_bytes big (0xDC00 + (c - 0x10000) % 0x400)

-- the bytes of a character, where the encoding has it
abbrev pub own_bytes : Encoding → ℕ → Option (List ℕ)
own_bytes Utf8 c = Some (encode_utf8 c)
own_bytes Latin1 c = if nat_lt c 0x100 then Some (c ∷ []) else None
own_bytes Ascii c = if nat_lt c 0x80 then Some (c ∷ []) else None
own_bytes Utf16Le c = Some (utf16_bytes false c)
own_bytes Utf16Be c = Some (utf16_bytes true c)

-- bytes before others, where both are there
abbrev pub joined_bytes : Option (List ℕ) → Option (List ℕ) → Option (List ℕ)
joined_bytes None more = None
joined_bytes (Some bytes) None = None
joined_bytes (Some bytes) (Some more) = Some (bytes ++ more)

-- the bytes of a text, where the encoding has all its characters
abbrev pub text_bytes : Encoding → List ℕ → Option (List ℕ)
text_bytes encoding [] = Some []
text_bytes encoding (c ∷ cs) = joined_bytes (own_bytes encoding c) (text_bytes encoding cs)

-- Runs of characters without bytes.

abbrev pub suc_unless : Option (List ℕ) → ℕ → ℕ
suc_unless None count = suc count
suc_unless (Some bytes) count = 0

-- how many characters without bytes a text begins with
abbrev pub run_length : Encoding → List ℕ → ℕ
run_length encoding [] = 0
run_length encoding (c ∷ cs) = suc_unless (own_bytes encoding c) (run_length encoding cs)

-- bytes in place of the characters that it used, at least one; or a refusal
pub data EncodeHandled : Type 0 where
  Written : (bytes : List ℕ) (used : ℕ) → EncodeHandled
  RefusesRun : EncodeHandled

-- how runs are treated: by the place of a run, the characters from there on, and the run's length
abbrev pub EncodeTreatment : Type 0
EncodeTreatment = ℕ → List ℕ → ℕ → EncodeHandled

-- a text in place of a run, which has to have bytes itself
abbrev pub written_as : Option (List ℕ) → ℕ → EncodeHandled
written_as None used = RefusesRun
written_as (Some bytes) used = Written bytes used

-- the text that a handler gives for a run; nothing where it refuses
abbrev pub replacement : Handler → List ℕ → Option (List ℕ)
replacement Strict run = None
replacement Ignore run = Some []
replacement Replace run = Some (each_spelled (λ c. 0x3F ∷ []) run)
replacement XmlCharRefReplace run = Some (each_spelled character_reference run)
replacement BackslashReplace run = Some (each_spelled backslash_escape run)
replacement SurrogatePass run = None
replacement SurrogateEscape run = None

abbrev pub written_if : Encoding → Option (List ℕ) → ℕ → EncodeHandled
written_if encoding None used = RefusesRun
written_if encoding (Some text) used = written_as (text_bytes encoding text) used

-- the treatment that a handler stands for
abbrev pub encode_treatment : Handler → Encoding → EncodeTreatment
encode_treatment handler encoding place rest size = written_if encoding (replacement handler (take size rest)) size

-- The encoding of a whole text.

-- what ended an encoding: the end of the text; or a refused run, in characters from the text's start
pub data EncodeEnding : Type 0 where
  AllWritten : EncodeEnding
  AtRun : (start end : ℕ) → EncodeEnding

-- the refused run that ended an encoding
abbrev pub refused_run : EncodeEnding → Option (ℕ × ℕ)
refused_run AllWritten = None
refused_run (AtRun start end) = Some (start, end)

pub record Encoded : Type 0 where
  pub bytes : List ℕ
  pub ending : EncodeEnding

-- what comes first of a text: a character's own bytes, or a run as it is treated
abbrev pub first_written : EncodeTreatment → ℕ → List ℕ → ℕ → Option (List ℕ) → EncodeHandled
first_written treat place rest size (Some bytes) = Written bytes 1
first_written treat place rest size None = treat place rest size

-- the characters after the first that it uses
abbrev pub characters_behind : EncodeHandled → ℕ
characters_behind (Written bytes used) = used - 1
characters_behind RefusesRun = 0

abbrev pub onto_encoded : (place size : ℕ) → EncodeHandled → Encoded → Encoded
onto_encoded place size (Written bytes used) behind = record { bytes = bytes ++ behind.bytes; ending = behind.ending }
onto_encoded place size RefusesRun behind = record { bytes = []; ending = AtRun place (place + size) }

-- the encoding of the characters that stand at a place, after the first `skip` of them
abbrev pub encoded_from : Encoding → EncodeTreatment → (place skip : ℕ) → List ℕ → Encoded
encoded_from encoding treat place skip [] = record { bytes = []; ending = AllWritten }
encoded_from encoding treat place (suc skip) (c ∷ cs) = encoded_from encoding treat (place + 1) skip cs
encoded_from encoding treat place zero (c ∷ cs) =
    let size = run_length encoding (c ∷ cs) in
    let first = first_written treat place (c ∷ cs) size (own_bytes encoding c) in
    onto_encoded place size first (encoded_from encoding treat (place + 1) (characters_behind first) cs)

-- the encoding of a text
abbrev pub encoded : Encoding → EncodeTreatment → List ℕ → Encoded
encoded encoding treat text = encoded_from encoding treat 0 0 text
