-- The letters of a mode, one at a time.
use Rattle.std.proofs.Common.{◌≡◌, ℕ, ◌+◌, ◌<◌, ◌≤◌, List, length, get_or, drop, drop-cons, add-one, Result, Ok, Err, refl, ap, ◌∙◌}
use Rattle.std.proofs.lemmas.List.{drop_all}
use Rattle.py_flat.specs.declared.mode_error.ParseModeError.{ParseModeError}
use Rattle.py_calls.specs.declared.mode.Mode.{Mode}
use Rattle.py_calls.specs.declared.letters.Letters.{Letters}
use Rattle.py_calls.specs.Mode.{with_letter, mode_said, mode_from}

-- what a letter's answer and the letters after it come to
abbrev mode_behind : List ℕ → Result Letters ParseModeError → Result Mode ParseModeError
mode_behind letters (Ok more) = mode_from more letters
mode_behind letters (Err why) = Err why

front_letter : (said : Letters) (letters : List ℕ) (at : ℕ) → at < length letters → mode_from said (drop at letters) ≡ mode_behind (drop (at + 1) letters) (with_letter said (get_or letters at 0))
front_letter said letters at within = rw (add-one, drop-cons letters at 0) refl

-- a letter that is taken leaves the rest
pub letter_taken : (said more : Letters) (letters : List ℕ) (at : ℕ) → at < length letters → with_letter said (get_or letters at 0) ≡ Ok more → mode_from said (drop at letters) ≡ mode_from more (drop (at + 1) letters)
letter_taken said more letters at within taken = front_letter said letters at within ∙ ap (mode_behind (drop (at + 1) letters)) taken

-- a letter that offends decides how the mode is malformed
pub letter_refused : (said : Letters) (why : ParseModeError) (letters : List ℕ) (at : ℕ) → at < length letters → with_letter said (get_or letters at 0) ≡ Err why → mode_from said (drop at letters) ≡ Err why
letter_refused said why letters at within refused = front_letter said letters at within ∙ ap (mode_behind (drop (at + 1) letters)) refused

-- after the last letter a mode is what its letters said
pub letters_end : (said : Letters) (letters : List ℕ) (at : ℕ) → length letters ≤ at → mode_from said (drop at letters) ≡ mode_said said
letters_end said letters at past = ap (mode_from said) (drop_all at letters past)
