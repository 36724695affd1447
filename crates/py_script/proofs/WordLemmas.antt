-- Words that hold neither a space nor an LF, and how a line is cut into them.
use Rattle.std.proofs.Common.{◌≡◌, ℕ, zero, suc, ◌/◌, ◌%◌, ◌<◌, ◌^◌, Bool, true, false, not, ◌&&◌, ◌||◌, eqb, List, [], ◌∷◌, ◌++◌, get_or, map, refl, sym, ap, ◌∙◌, append_assoc, append-nil, arith}
use Rattle.std.specs.Bool.{⊤}
use Rattle.std.specs.Char.{digit_value}
use Rattle.std.specs.Fmt.{decimal}
use Rattle.std.specs.List.{All}
use Rattle.std.specs.Str.Parse.{AllDigits}
use Rattle.std.proofs.lemmas.Bool.{false≢true}
use Rattle.std.proofs.lemmas.Bool.Decides.{nat_tests}
use Rattle.std.proofs.lemmas.Fmt.{decimal_is_IsNumeral}
use Rattle.std.proofs.lemmas.List.{append_cancel_right}
use Rattle.std.proofs.lemmas.List.Elements.{All-nil, All-cons}
use Rattle.std.proofs.lemmas.List.Splits.{slice_split_none, slice_split_at}
use Rattle.hex.specs.Hex.{encode_with, lower_digits}
use Rattle.py_script.specs.Words.{words_of, spaced}
use Rattle.py_script.specs.ReplyLine.{hex_of}

-- whether a byte ends a word: a space or an LF
abbrev pub is_separator : ℕ → Bool
is_separator byte = eqb byte 32 || eqb byte 10

-- whether bytes hold neither a space nor an LF, as a word does
abbrev pub is_word : List ℕ → Bool
is_word [] = true
is_word (byte ∷ bytes) = not (is_separator byte) && is_word bytes

-- whether bytes begin with a space or an LF
abbrev pub ends_word : List ℕ → Bool
ends_word [] = false
ends_word (byte ∷ bytes) = is_separator byte

-- the first byte of a word is neither a space nor an LF
first_of_word : (byte : ℕ) (bytes : List ℕ) → is_word (byte ∷ bytes) ≡ true → is_separator byte ≡ false
first_of_word byte bytes = elim (is_separator byte) as (λ b. (not b && is_word bytes) ≡ true → b ≡ false) [
  | true ↦ λ h. sym h
  | false ↦ λ h. refl
]

-- what follows the first byte of a word is a word
rest_of_word : (byte : ℕ) (bytes : List ℕ) → is_word (byte ∷ bytes) ≡ true → is_word bytes ≡ true
rest_of_word byte bytes = elim (is_separator byte) as (λ b. (not b && is_word bytes) ≡ true → is_word bytes ≡ true) [
  | true ↦ λ h. absurd (false≢true h)
  | false ↦ λ h. h
]

-- a word's first byte ends no word
no_end : (byte : ℕ) (bytes : List ℕ) → is_word (byte ∷ bytes) ≡ true → is_separator byte ≡ true → ⊥
no_end byte bytes word ends = false≢true (sym (first_of_word byte bytes word) ∙ ends)

-- a line is cut at its first space or LF in one way
pub cut : (u v r s : List ℕ) → is_word u ≡ true → is_word v ≡ true → ends_word r ≡ true → ends_word s ≡ true → u ++ r ≡ v ++ s → (u ≡ v) × (r ≡ s)
cut [] [] r s word_u word_v ends_r ends_s same = (refl, same)
cut [] (d ∷ v) r s word_u word_v ends_r ends_s same = absurd (no_end d v word_v (sym (ap ends_word same) ∙ ends_r))
cut (c ∷ u) [] r s word_u word_v ends_r ends_s same = absurd (no_end c u word_u (ap ends_word same ∙ ends_s))
cut (c ∷ u) (d ∷ v) r s word_u word_v ends_r ends_s same =
    let heads : c ≡ d = cc in
    let tails : u ++ r ≡ v ++ s = cc in
    let parts : (u ≡ v) × (r ≡ s) = cut u v r s (rest_of_word c u word_u) (rest_of_word d v word_v) ends_r ends_s tails in
    let whole : c ∷ u ≡ d ∷ v = cc in
    (whole, parts.1)

-- the words of a line after its first, with its LF
abbrev pub rest_of_line : List (List ℕ) → List ℕ
rest_of_line words = spaced words ++ 10 ∷ []

-- what stands after a line's first word begins with a space or the LF
pub rest_ends_word : (words : List (List ℕ)) → ends_word (rest_of_line words) ≡ true
rest_ends_word [] = refl
rest_ends_word (word ∷ words) = refl

-- every word holds neither a space nor an LF
abbrev pub AreWords : List (List ℕ) → Type 0
AreWords [] = ⊤
AreWords (word ∷ words) = (is_word word ≡ true) × AreWords words

-- the words after a first one
rest_of_line_more : (word : List ℕ) (words : List (List ℕ)) → rest_of_line (word ∷ words) ≡ 32 ∷ (word ++ rest_of_line words)
rest_of_line_more word words = ap (λ rest. 32 ∷ rest) (append_assoc word (spaced words) (10 ∷ []))

-- what stands after a line's first word is cut into words in one way
pub rest_of_line_same : (us vs : List (List ℕ)) → AreWords us → AreWords vs → rest_of_line us ≡ rest_of_line vs → us ≡ vs
rest_of_line_same [] [] words_u words_v same = refl
rest_of_line_same [] (v ∷ vs) words_u words_v same = absurd (omega (arith, ap (λ bytes. get_or bytes 0 0) same))
rest_of_line_same (u ∷ us) [] words_u words_v same = absurd (omega (arith, ap (λ bytes. get_or bytes 0 0) same))
rest_of_line_same (u ∷ us) (v ∷ vs) words_u words_v same =
    let apart : 32 ∷ (u ++ rest_of_line us) ≡ 32 ∷ (v ++ rest_of_line vs) = sym (rest_of_line_more u us) ∙ same ∙ rest_of_line_more v vs in
    let behind : u ++ rest_of_line us ≡ v ++ rest_of_line vs = cc in
    let parts : (u ≡ v) × (rest_of_line us ≡ rest_of_line vs) = cut u v (rest_of_line us) (rest_of_line vs) words_u.0 words_v.0 (rest_ends_word us) (rest_ends_word vs) behind in
    let more : us ≡ vs = rest_of_line_same us vs words_u.1 words_v.1 parts.1 in
    cc

-- one word alone, whatever it holds
pub one_word_same : (u v : List ℕ) → rest_of_line (u ∷ []) ≡ rest_of_line (v ∷ []) → u ≡ v
one_word_same u v same =
    let apart : 32 ∷ (u ++ rest_of_line []) ≡ 32 ∷ (v ++ rest_of_line []) = sym (rest_of_line_more u []) ∙ same ∙ rest_of_line_more v [] in
    let behind : u ++ 10 ∷ [] ≡ v ++ 10 ∷ [] = cc in
    append_cancel_right u v (10 ∷ []) behind

-- a byte of a word, or 0 past its end, is no separator
byte_of_word : (word : List ℕ) (i : ℕ) → is_word word ≡ true → is_separator (get_or word i 0) ≡ false
byte_of_word [] zero is = refl
byte_of_word [] (suc i) is = refl
byte_of_word (byte ∷ bytes) zero is = first_of_word byte bytes is
byte_of_word (byte ∷ bytes) (suc i) is = byte_of_word bytes i (rest_of_word byte bytes is)

-- hex digits are a word
encode_word : (bytes : List ℕ) → is_word (encode_with lower_digits bytes) ≡ true
unfolding encode_with
encode_word [] = refl
encode_word (byte ∷ bytes) =
    rw (byte_of_word lower_digits (byte / 16) refl, byte_of_word lower_digits (byte % 16) refl) (encode_word bytes)

-- the word of bytes, hex digits or `-`, is a word
pub hex_word : (bytes : List ℕ) → is_word (hex_of bytes) ≡ true
hex_word [] = refl
hex_word (byte ∷ bytes) = encode_word (byte ∷ bytes)

-- a digit is no separator
digit_is_none : (digit : ℕ) → digit_value digit < 10 → is_separator digit ≡ false
digit_is_none digit small = grind (arith, nat_tests)

-- digits are a word
digits_word : (digits : List ℕ) → AllDigits 10 digits → is_word digits ≡ true
digits_word [] all = refl
digits_word (digit ∷ digits) all = rw (digit_is_none digit all.0) (digits_word digits all.1)

-- a decimal is a word
pub decimal_word : (number : ℕ) → number < 2 ^ 64 → is_word (decimal number) ≡ true
decimal_word number small = digits_word (decimal number) (decimal_is_IsNumeral number small).0.1

-- words of lines are words
pub hex_lines_words : (lines : List (List ℕ)) → AreWords (map hex_of lines)
hex_lines_words [] = tt
hex_lines_words (line ∷ lines) = (hex_word line, hex_lines_words lines)

-- what ends no word is no space
no_space : (byte : ℕ) → is_separator byte ≡ false → eqb byte 32 ≡ false
no_space byte = elim (eqb byte 32) as (λ b. (b || eqb byte 10) ≡ false → b ≡ false) [
  | true ↦ λ h. h
  | false ↦ λ h. refl
]

-- a word has no space
spaceless : (word : List ℕ) → is_word word ≡ true → All (λ byte. eqb byte 32 ≡ false) word
spaceless [] is = All-nil (λ byte. eqb byte 32 ≡ false)
spaceless (byte ∷ bytes) is =
    All-cons (λ byte. eqb byte 32 ≡ false) byte bytes (no_space byte (first_of_word byte bytes is)) (spaceless bytes (rest_of_word byte bytes is))

-- words after one another are told apart
pub words_apart : (word : List ℕ) (words : List (List ℕ)) → is_word word ≡ true → AreWords words → words_of (word ++ spaced words) ≡ word ∷ words
words_apart word [] is are = rw append-nil (slice_split_none (λ byte. eqb byte 32) word (spaceless word is))
words_apart word (next ∷ words) is are =
    slice_split_at (λ byte. eqb byte 32) word 32 (next ++ spaced words) (spaceless word is) refl
    ∙ ap (λ rest. word ∷ rest) (words_apart next words are.0 are.1)
