-- The modes by which a raw stream is opened: rb, rb+, wb, wb+, xb, xb+, ab, ab+.
use Rattle.std.specs.Prelude.{◌≡◌, ℕ, ◌⊎◌, Bool, not, ◌||◌, nat_eq, List, [], ◌∷◌, length, slice_index, if◌then◌else◌}

-- the letters of a mode, by their numbers
abbrev pub letter_r : ℕ
letter_r = 114

abbrev pub letter_w : ℕ
letter_w = 119

abbrev pub letter_x : ℕ
letter_x = 120

abbrev pub letter_a : ℕ
letter_a = 97

abbrev pub letter_b : ℕ
letter_b = 98

abbrev pub plus_sign : ℕ
plus_sign = 43

-- a file letter, then b, then a plus or not
abbrev pub raw_mode_text : ℕ → Bool → List ℕ
raw_mode_text letter plus = letter ∷ letter_b ∷ (if plus then plus_sign ∷ [] else [])

abbrev pub IsFileLetter : ℕ → Type 0
IsFileLetter letter = (letter ≡ letter_r) ⊎ ((letter ≡ letter_w) ⊎ ((letter ≡ letter_x) ⊎ (letter ≡ letter_a)))

-- a text is one of the eight modes of raw streams
pub record IsRawMode (mode : List ℕ) : Type 0 where
  pub letter : ℕ
  pub plus : Bool
  pub file : IsFileLetter letter
  pub text : mode ≡ raw_mode_text letter plus

-- the file letter of a mode of raw streams
abbrev pub file_letter : List ℕ → ℕ
file_letter mode = slice_index mode 0

-- whether a mode of raw streams has a plus
abbrev pub has_plus : List ℕ → Bool
has_plus mode = nat_eq (length mode) 3

-- whether what a mode opens can be read: with r, or with a plus
abbrev pub mode_reads : List ℕ → Bool
mode_reads mode = nat_eq (file_letter mode) letter_r || has_plus mode

-- whether what a mode opens can be written: with w, x or a, or with a plus
abbrev pub mode_writes : List ℕ → Bool
mode_writes mode = not (nat_eq (file_letter mode) letter_r) || has_plus mode
