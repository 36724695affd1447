-- What a text that is written comes to: the writing rule, then the encoding.
use Rattle.std.specs.Prelude.{ℕ, Bool, true, false, nat_eq, List, [], ◌∷◌, Option, if◌then◌else◌}
use Rattle.py_flat.specs.Lines.{lf, cr}
use Rattle.py_plain.specs.declared.handler.Handler.{Handler}
use Rattle.py_plain.specs.declared.handler.Handler.TheVariants.{SurrogatePass}
use Rattle.py_plain.specs.declared.newlines.Newlines.{Newlines}
use Rattle.py_plain.specs.declared.newlines.Newlines.TheVariants as rule
use Rattle.py_plain.specs.Escapes.{each_spelled}
use Rattle.py_plain.specs.Encode.{EncodeTreatment, encode_treatment, encoded, refused_run}
use Rattle.py_plain_text.specs.TextFile.{TextSettings}

-- the handlers of texts that are written (Python's documentation of `codecs`, "Error Handlers"): all but one, which speaks of surrogates
abbrev pub writes_texts : Handler → Bool
writes_texts SurrogatePass = false
writes_texts _ = true

-- what an LF is written as
abbrev pub written_end : Newlines → List ℕ
written_end rule.Cr = cr ∷ []
written_end rule.Crlf = cr ∷ lf ∷ []
written_end _ = lf ∷ []

-- what a character is written as
abbrev pub written_as : Newlines → ℕ → List ℕ
written_as rule c = if nat_eq c lf then written_end rule else c ∷ []

-- the writing rule: the characters of a text as they are written (Python's documentation of `open`, `newline`)
abbrev pub written : Newlines → List ℕ → List ℕ
written rule text = each_spelled (written_as rule) text

abbrev pub written_treatment : TextSettings → EncodeTreatment
written_treatment settings = encode_treatment settings.handler settings.encoding

-- the bytes that a text is written as
abbrev pub written_bytes : TextSettings → List ℕ → List ℕ
written_bytes settings text = (encoded settings.encoding (written_treatment settings) (written settings.newline text)).bytes

-- the first run of the text itself that is refused: the writing rule changes and gives only characters that each encoding has
abbrev pub written_refusal : TextSettings → List ℕ → Option (ℕ × ℕ)
written_refusal settings text = refused_run (encoded settings.encoding (written_treatment settings) text).ending
