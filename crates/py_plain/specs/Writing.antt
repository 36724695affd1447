-- What the program writes for a text, and for what comes first of one, in the words of the definitions.
use Rattle.std.specs.Prelude.{ℕ, ◌≡◌, Bool, true, false, List, [], ◌∷◌, ◌++◌, Option, Some, None}
use Rattle.py_plain.specs.declared.encoding.Encoding.{Encoding}
use Rattle.py_plain.specs.Encode.{EncodeHandled, Written, RefusesRun, EncodeTreatment, own_bytes, run_length, first_written}
use Rattle.py_plain.specs.declared.plain_encode.FirstWritten.{FirstWritten}
use Rattle.py_plain.specs.declared.plain_encode.FirstWritten.TheVariants as seen

-- where there are numbers, they stand after those of before, and the answer is yes; else nothing is written
abbrev pub Writes : Option (List ℕ) → (before after : List ℕ) → Bool → Type 0
Writes (Some written) before after answer = (after ≡ before ++ written) × (answer ≡ true)
Writes None before after answer = (after ≡ before) × (answer ≡ false)

-- bytes that are written stand after those of before, and the answer is the characters that they stand for; at a run of n characters that is refused, nothing is written
abbrev pub WritesFirst : ℕ → EncodeHandled → (before after : List ℕ) → FirstWritten → Type 0
WritesFirst size (Written bytes used) before after answer = (after ≡ before ++ bytes) × (answer ≡ seen.Written used)
WritesFirst size RefusesRun before after answer = (after ≡ before) × (answer ≡ seen.RefusedRun size)

-- what comes first of some characters that stand at a place
abbrev pub first_encoded : Encoding → EncodeTreatment → ℕ → List ℕ → EncodeHandled
first_encoded encoding treat place [] = RefusesRun
first_encoded encoding treat place (c ∷ cs) = first_written treat place (c ∷ cs) (run_length encoding (c ∷ cs)) (own_bytes encoding c)

-- how many characters the bytes written first, or a refused run, stand for
abbrev pub characters_used : FirstWritten → ℕ
characters_used (seen.Written used) = used
characters_used (seen.RefusedRun size) = size
