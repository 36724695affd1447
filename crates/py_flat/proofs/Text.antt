-- Characters of a string.
use Rattle.std.proofs.Common.{◌≡◌, ℕ, List, [], nat_eq, sym, ap, ◌∙◌, chars}
use Rattle.std.specs.Str.{IsUtf8, encode_utf8_all}
use Rattle.std.specs.Cmp.Lexicographic.{pointwise, bytes_decides}
use Rattle.std.proofs.lemmas.Bool.Decides.{same_from_decides}
use Rattle.std.proofs.lemmas.Str.{chars-nil, encodes-chars}

-- a text without bytes has no characters
pub chars_of_nil : (bytes : List ℕ) → bytes ≡ [] → chars bytes ≡ []
chars_of_nil bytes none = ap chars none ∙ chars-nil

-- texts have the same characters where they have the same bytes
pub same_chars : (xs ys : List ℕ) → IsUtf8 xs → IsUtf8 ys → pointwise nat_eq xs ys ≡ pointwise nat_eq (chars xs) (chars ys)
same_chars xs ys x-valid y-valid = same_from_decides {P = xs ≡ ys} (pointwise nat_eq xs ys) (pointwise nat_eq (chars xs) (chars ys)) (bytes_decides xs ys) (
  λ same. sym (encodes-chars xs x-valid) ∙ ap encode_utf8_all ((bytes_decides (chars xs) (chars ys)).0 same) ∙ encodes-chars ys y-valid,
  λ same. (bytes_decides (chars xs) (chars ys)).1 (ap chars same),
)
