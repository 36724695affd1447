-- The letters of a raw mode, one at a time.
use Rattle.std.proofs.Common.{◌≡◌, ℕ, ◌+◌, ◌<◌, ◌≤◌, if◌then◌else◌, List, length, get_or, take, drop, drop-cons, add-one, Option, Some, None, refl, ap, ◌∙◌}
use Rattle.std.proofs.lemmas.List.{drop_all, take_all, take_more}
use Rattle.py_flat.specs.declared.mode_error.ModeError.{ModeError}
use Rattle.py_flat.specs.declared.mode_error.ModeError.TheVariants.{BadRwa}
use Rattle.py_raw.specs.ComputeMode.{first_offence, offence_behind, has_file_letter}

-- what a letter's offence and the letters after it come to
abbrev offence_or : List ℕ → List ℕ → Option ModeError → Option ModeError
offence_or before more (Some why) = Some why
offence_or before more None = first_offence before more

at_letter : (letters : List ℕ) (place : ℕ) → place < length letters → first_offence (take place letters) (drop place letters) ≡ offence_or (take (place + 1) letters) (drop (place + 1) letters) (offence_behind (take place letters) (get_or letters place 0))
at_letter letters place within = rw (take_more letters place 0 within, add-one, drop-cons letters place 0) refl

-- a letter that does not offend leaves the rest
pub letter_passes : (letters : List ℕ) (place : ℕ) → place < length letters → offence_behind (take place letters) (get_or letters place 0) ≡ None → first_offence (take place letters) (drop place letters) ≡ first_offence (take (place + 1) letters) (drop (place + 1) letters)
letter_passes letters place within passes = at_letter letters place within ∙ ap (offence_or (take (place + 1) letters) (drop (place + 1) letters)) passes

-- a letter that offends decides how the mode is malformed
pub letter_offends : (letters : List ℕ) (place : ℕ) (why : ModeError) → place < length letters → offence_behind (take place letters) (get_or letters place 0) ≡ Some why → first_offence (take place letters) (drop place letters) ≡ Some why
letter_offends letters place why within offends = at_letter letters place within ∙ ap (offence_or (take (place + 1) letters) (drop (place + 1) letters)) offends

-- after the last letter, only the want of a file letter offends
pub letters_end : (letters : List ℕ) (place : ℕ) → length letters ≤ place → first_offence (take place letters) (drop place letters) ≡ (if has_file_letter letters then None else Some BadRwa)
letters_end letters place past = rw (drop_all place letters past, take_all place letters past) refl
