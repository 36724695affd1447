-- A text's characters in two parts, and the bytes of each.
use Rattle.std.proofs.Common.{◌≡◌, ℕ, ◌+◌, ◌≤◌, true, List, [], ◌∷◌, ◌++◌, length, take, drop, chars, encode_utf8_all, refl, sym, ap, subst, ◌∙◌, arith}
use Rattle.std.specs.Str.{IsUtf8, IsCharBoundary}
use Rattle.std.proofs.Math.Utf8.{scalars}
use Rattle.std.proofs.Math.Seq.{drop-append_seam, take-append_seam}
use Rattle.std.proofs.lemmas.Bool.{and_parts, and_from}
use Rattle.std.proofs.lemmas.List.{length-append}
use Rattle.std.proofs.lemmas.Str.{encodes-append, encodes-chars, scalars-chars, chars-encodes, IsCharBoundary-at_seam}

scalars-right : (xs ys : List ℕ) → scalars (xs ++ ys) ≡ true → scalars ys ≡ true
scalars-right [] ys is = is
scalars-right (x ∷ xs) ys is = scalars-right xs ys (and_parts _ (scalars (xs ++ ys)) is).1

scalars-left : (xs ys : List ℕ) → scalars (xs ++ ys) ≡ true → scalars xs ≡ true
scalars-left [] ys is = refl
scalars-left (x ∷ xs) ys is = and_from _ (scalars xs) (and_parts _ (scalars (xs ++ ys)) is).0 (scalars-left xs ys (and_parts _ (scalars (xs ++ ys)) is).1)

-- the bytes of two parts
pub spelled-both : (xs ys : List ℕ) → length (encode_utf8_all (xs ++ ys)) ≡ length (encode_utf8_all xs) + length (encode_utf8_all ys)
spelled-both xs ys = ap (λ (t : List ℕ). length t) (encodes-append xs ys) ∙ length-append (encode_utf8_all xs) (encode_utf8_all ys)

-- a text is cut between two parts of its characters
pub record IsCut (text front rest : List ℕ) (bytes : ℕ) : Type 0 where
  pub boundary : IsCharBoundary text bytes
  pub within : bytes ≤ length text
  pub front_is : take bytes text ≡ encode_utf8_all front
  pub front_chars : chars (take bytes text) ≡ front
  pub rest_is : drop bytes text ≡ encode_utf8_all rest
  pub rest_chars : chars (drop bytes text) ≡ rest

pub cut : (text front rest : List ℕ) (bytes : ℕ) → IsUtf8 text → chars text ≡ front ++ rest → bytes ≡ length (encode_utf8_all front) → IsCut text front rest bytes
cut text front rest bytes utf8 is bytes_are =
    let before : List ℕ = encode_utf8_all front in
    let behind : List ℕ = encode_utf8_all rest in
    let whole : text ≡ before ++ behind = sym (encodes-chars text utf8) ∙ (ap encode_utf8_all is ∙ encodes-append front rest) in
    let all : scalars (front ++ rest) ≡ true = ap scalars (sym is) ∙ scalars-chars text utf8 in
    let front_is : take bytes text ≡ before = ap (λ (n : ℕ). take n text) bytes_are ∙ (ap (take (length before)) whole ∙ take-append_seam before behind) in
    let rest_is : drop bytes text ≡ behind = ap (λ (n : ℕ). drop n text) bytes_are ∙ (ap (drop (length before)) whole ∙ drop-append_seam before behind) in
    record {
      boundary = subst (IsCharBoundary text) (sym bytes_are) (IsCharBoundary-at_seam text before behind whole (rest, (scalars-right front rest all, refl)));
      within = omega (arith, bytes_are, ap (λ (t : List ℕ). length t) whole, length-append before behind);
      front_is = front_is;
      front_chars = ap chars front_is ∙ chars-encodes front (scalars-left front rest all);
      rest_is = rest_is;
      rest_chars = ap chars rest_is ∙ chars-encodes rest (scalars-right front rest all);
    }
