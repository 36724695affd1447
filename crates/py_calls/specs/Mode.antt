-- The mode of an opening: what its letters say, read from left to right (Python's documentation of `open`).
use Rattle.std.specs.Prelude.{ℕ, Bool, true, false, not, ◌||◌, nat_eq, List, [], ◌∷◌, None, Some, unwrap_or, Result, Ok, Err, if◌then◌else◌}
use Rattle.py_flat.specs.declared.mode_error.ParseModeError.{ParseModeError}
use Rattle.py_flat.specs.declared.mode_error.ParseModeError.TheVariants.{InvalidMode, MultipleFile, MultipleEncode, NoFile}
use Rattle.py_raw.specs.RawMode.{letter_r, letter_w, letter_x, letter_a, letter_b, plus_sign}
use Rattle.py_calls.specs.declared.mode.FileMode.{FileMode}
use Rattle.py_calls.specs.declared.mode.FileMode.TheVariants.{Read, Write, Exclusive, Append}
use Rattle.py_calls.specs.declared.mode.EncodeMode.{EncodeMode}
use Rattle.py_calls.specs.declared.mode.EncodeMode.TheVariants.{Text, Bytes}
use Rattle.py_calls.specs.declared.mode.Mode.{Mode}
use Rattle.py_calls.specs.declared.letters.Letters.{Letters}

-- the letter of texts, by its number
abbrev pub letter_t : ℕ
letter_t = 116

-- the letter of what is done with the file
abbrev pub letter_of : FileMode → ℕ
letter_of Read = letter_r
letter_of Write = letter_w
letter_of Exclusive = letter_x
letter_of Append = letter_a

-- the letter of texts or of bytes
abbrev pub encode_letter : EncodeMode → ℕ
encode_letter Text = letter_t
encode_letter Bytes = letter_b

-- whether an existing file is opened, from its start
abbrev pub is_read : FileMode → Bool
is_read Read = true
is_read Write = false
is_read Exclusive = false
is_read Append = false

-- whether the file is written at its end alone
abbrev pub is_append : FileMode → Bool
is_append Append = true
is_append other = false

-- whether the file is read, and whether it is written
abbrev pub reads : Mode → Bool
reads mode = mode.plus || is_read mode.file

abbrev pub writes : Mode → Bool
writes mode = mode.plus || not (is_read mode.file)

-- whether calls speak of characters
abbrev pub is_text : EncodeMode → Bool
is_text Text = true
is_text Bytes = false

-- what is said before the first letter: no file letter, neither t nor b, no plus
abbrev pub no_letters : Letters
no_letters = record { file = None; encode = None; plus = false }

-- letters with a file letter more: the first is taken; the same again, or a second that differs, is refused
abbrev pub with_file : Letters → FileMode → Result Letters ParseModeError
with_file said file = elim said.file as (λ _. Result Letters ParseModeError) [
  | None ↦ Ok (record said { file = Some file })
  | Some before ↦ Err (if nat_eq (letter_of before) (letter_of file) then InvalidMode else MultipleFile)
]

-- letters with t or b more: the first of either is taken; the same again, or t and b together, is refused
abbrev pub with_encode : Letters → EncodeMode → Result Letters ParseModeError
with_encode said encode = elim said.encode as (λ _. Result Letters ParseModeError) [
  | None ↦ Ok (record said { encode = Some encode })
  | Some before ↦ Err (if nat_eq (encode_letter before) (encode_letter encode) then InvalidMode else MultipleEncode)
]

-- letters with a plus more: it is the first, or a second
abbrev pub with_plus : Letters → Result Letters ParseModeError
with_plus said = if said.plus then Err InvalidMode else Ok (record said { plus = true })

-- letters with one more; a character that is no letter of a mode is refused
abbrev pub with_letter : Letters → ℕ → Result Letters ParseModeError
with_letter said letter =
    if nat_eq letter letter_r then with_file said Read
    else (if nat_eq letter letter_w then with_file said Write
    else (if nat_eq letter letter_x then with_file said Exclusive
    else (if nat_eq letter letter_a then with_file said Append
    else (if nat_eq letter letter_t then with_encode said Text
    else (if nat_eq letter letter_b then with_encode said Bytes
    else (if nat_eq letter plus_sign then with_plus said
    else Err InvalidMode))))))

-- the mode that letters name where no further one comes: text where neither t nor b stood
abbrev pub mode_said : Letters → Result Mode ParseModeError
mode_said said = elim said.file as (λ _. Result Mode ParseModeError) [
  | None ↦ Err NoFile
  | Some file ↦ Ok (record { file = file; encode = unwrap_or said.encode Text; plus = said.plus })
]

-- letters after others: the first that offends decides, and no other is looked at
abbrev pub mode_from : Letters → List ℕ → Result Mode ParseModeError
mode_from said [] = mode_said said
mode_from said (letter ∷ letters) = elim (with_letter said letter) as (λ _. Result Mode ParseModeError) [
  | Ok more ↦ mode_from more letters
  | Err why ↦ Err why
]

-- the mode that a text names, or how its letters offend; a character that takes several bytes is none of the letters
abbrev pub mode_of : List ℕ → Result Mode ParseModeError
mode_of text = mode_from no_letters text
