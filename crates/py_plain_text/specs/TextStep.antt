-- What a text answers to a reading, and where it stands then.
use Rattle.std.specs.Prelude.{◌≡◌, ◌≢◌, ℕ, ◌+◌, ◌⊎◌, max, Bool, true, ◌||◌, not, nat_eq, nat_lt, List, [], length, Option, Some, None, if◌then◌else◌}
use Rattle.py_flat.specs.declared.fault.IoFault.{IoFault}
use Rattle.py_flat.specs.declared.fault.IoFault.TheVariants as fault
use Rattle.py_flat.specs.Bytes.{first_of}
use Rattle.py_flat.specs.Lines.{first_line, is_ended}
use Rattle.py_flat.specs.Calls.{FileReply, Text, NotReady, Refused}
use Rattle.py_flat.specs.BinaryStep.{IsFrontOf}
use Rattle.py_plain.specs.NewlineRule.{line_end}
use Rattle.py_plain_text.specs.TextFile.{TextPlace, clean_at, TextFile}
use Rattle.py_plain_text.specs.Rest.{Rest}

-- a refused range as a fault
abbrev pub decode_error : ℕ × ℕ → IoFault
decode_error range = fault.UnicodeDecodeError range.0 range.1

-- the refused range, where the answer would have to pass it
abbrev pub range_refusal : Bool → Option (ℕ × ℕ) → Option IoFault
range_refusal passes None = None
range_refusal passes (Some range) = if passes then Some (decode_error range) else None

-- whether a read asks for more than there is
abbrev pub asks_past : Option ℕ → List ℕ → Bool
asks_past None characters = true
asks_past (Some size) characters = nat_lt (length characters) size

-- whether a size or limit asks for anything
abbrev pub asks_any : Option ℕ → Bool
asks_any None = true
asks_any (Some size) = not (nat_eq size 0)

-- characters taken from a place; one that asks for any makes the text dirty
abbrev pub place_taking : TextPlace → ℕ → Bool → TextPlace
place_taking place count asks = record place { taken = place.taken + count; dirty = place.dirty || asks }

abbrev pub after_taking : TextFile → ℕ → Bool → TextFile
after_taking file count asks = record file { place = place_taking file.place count asks }

-- a text at the end of its bytes, clean; a place past the end stays
abbrev pub at_the_end : TextFile → TextFile
at_the_end file = record file { place = clean_at (max file.place.at (length file.bytes)) file.place.order }

abbrev pub after_text_read : TextFile → Option ℕ → List ℕ → TextFile
after_text_read file None characters = at_the_end file
after_text_read file (Some size) characters = after_taking file (length characters) (asks_any (Some size))

abbrev pub answered_text : TextFile → Option IoFault → List ℕ → TextFile → FileReply × TextFile
answered_text file (Some fault) characters after = (Refused fault, file)
answered_text file None characters after = (Text characters, after)

-- the first characters, as many as asked for; refused where a refused range stands before the last of them
abbrev pub text_read : TextFile → Option ℕ → Rest → FileReply × TextFile
text_read file size rest = answered_text file (range_refusal (asks_past size rest.characters) rest.refusal) (first_of size rest.characters) (after_text_read file size (first_of size rest.characters))

-- the first line; refused where a refused range stands before its end
abbrev pub text_line : TextFile → Option ℕ → Rest → FileReply × TextFile
text_line file limit rest =
    let end = line_end file.settings.newline in
    let line = first_line end limit rest.characters in
    answered_text file (range_refusal (not (is_ended end limit rest.characters)) rest.refusal) line (after_taking file (length line) (asks_any limit))

-- a short answer, not empty, of the characters before the end and any refusal; or none
abbrev pub ReadsTextPart : TextFile → List ℕ → FileReply → TextFile → Type 0
ReadsTextPart file wanted reply after = ((reply ≡ NotReady) × (after ≡ file)) ⊎ ((part : List ℕ) × IsFrontOf part wanted × (part ≢ []) × (reply ≡ Text part) × (after ≡ after_taking file (length part) true))
