-- The mode of a raw stream by itself: what its letters say, and which of them offends (Python's documentation of `io.FileIO`).
use Rattle.std.specs.Prelude.{◌≡◌, ℕ, ◌+◌, Bool, ◌||◌, ◌==◌, List, [], ◌∷◌, ◌++◌, Option, Some, None, Result, Ok, Err, if◌then◌else◌}
use Rattle.std.specs.List.{list_any}
use Rattle.py_flat.specs.declared.mode_error.ModeError.{ModeError}
use Rattle.py_flat.specs.declared.mode_error.ModeError.TheVariants.{Invalid, BadRwa}
use Rattle.py_raw.specs.declared.raw_flags.RawFlags.{RawFlags}
use Rattle.py_raw.specs.RawMode.{letter_r, letter_w, letter_x, letter_a, letter_b, plus_sign}

-- whether a letter stands among others
abbrev pub has_letter : List ℕ → ℕ → Bool
has_letter letters wanted = list_any (λ letter. letter == wanted) letters

-- x, r, w or a
abbrev pub says_file : ℕ → Bool
says_file letter = letter == letter_x || (letter == letter_r || (letter == letter_w || letter == letter_a))

-- whether a file letter stands among letters
abbrev pub has_file_letter : List ℕ → Bool
has_file_letter letters = list_any says_file letters

-- how a letter offends after others: as a second file letter, as a second plus, or as no letter of a mode
abbrev pub offence_behind : List ℕ → ℕ → Option ModeError
offence_behind before letter =
    if says_file letter then (if has_file_letter before then Some BadRwa else None)
    else (if letter == plus_sign then (if has_letter before plus_sign then Some BadRwa else None)
    else (if letter == letter_b then None
    else Some Invalid))

-- letters after others: the first that offends decides, and no other is looked at; at the end, that no file letter stood
abbrev pub first_offence : List ℕ → List ℕ → Option ModeError
first_offence before [] = if has_file_letter before then None else Some BadRwa
first_offence before (letter ∷ more) = elim (offence_behind before letter) as (λ _. Option ModeError) [
  | Some why ↦ Some why
  | None ↦ first_offence (before ++ letter ∷ []) more
]

-- what can be read: with r, or with a plus
abbrev pub letters_read : List ℕ → Bool
letters_read letters = has_letter letters letter_r || has_letter letters plus_sign

-- what can be written: with any file letter but r, or with a plus
abbrev pub letters_write : List ℕ → Bool
letters_write letters = has_letter letters letter_x || (has_letter letters letter_w || (has_letter letters letter_a || has_letter letters plus_sign))

-- a bit where it is wanted
abbrev pub bit_if : Bool → ℕ → ℕ
bit_if wanted bit = if wanted then bit else 0

-- the flags of letters, as a number: CREATED with x, READABLE, WRITABLE, and APPENDING with a
abbrev pub letters_bits : List ℕ → ℕ
letters_bits letters = bit_if (has_letter letters letter_x) 1 + (bit_if (letters_read letters) 2 + (bit_if (letters_write letters) 4 + bit_if (has_letter letters letter_a) 8))

-- the flags that a text's letters give, or how the first that offends does; a character that takes several bytes is none of the letters
abbrev pub ComputesMode : List ℕ → Result RawFlags ModeError → Type 0
ComputesMode text (Ok flags) = (first_offence [] text ≡ None) × (flags.0 ≡ letters_bits text)
ComputesMode text (Err why) = first_offence [] text ≡ Some why
