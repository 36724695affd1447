-- Characters, counted by the bytes that begin one.
use Rattle.std.proofs.Common.{◌≡◌, ℕ, ◌<◌, ◌≤◌, Bool, true, false, nat_le, List, ◌++◌, length, take, drop, chars, encode_utf8_all, refl, sym, ap, subst, ◌∙◌, arith, leb-true, leb-false}
use Rattle.std.specs.Fmt.{is_char_start}
use Rattle.std.specs.List.{count_by}
use Rattle.std.specs.Str.{IsUtf8, IsCharBoundary}
use Rattle.std.proofs.lemmas.Bool.Decides.{nat_tests}
use Rattle.std.proofs.lemmas.List.{length-append, length-take, length-take-le, take_all, take_at, take-append-drop}
use Rattle.std.proofs.lemmas.Str.{IsUtf8-take, chars-append, encodes-chars}
use Rattle.py_blocks.specs.declared.fronts.TextFront.{TextFront}
use Rattle.py_blocks.specs.Fronts.{IsFrontOf, IsPassed, Ends}
use Rattle.py_blocks.proofs.Beginning.{count-chars}

lead-start : (byte : ℕ) → is_char_start byte ≡ true → 128 ≤ byte → 192 ≤ byte
lead-start byte starts high = grind (arith, nat_tests)

-- what was passed is a front
record AreTaken (cs : List ℕ) (bytes count : ℕ) : Type 0 where
  within : count ≤ length cs
  spelled : bytes ≡ length (encode_utf8_all (take count cs))
  all : (total : ℕ) → bytes ≡ total → total ≡ length (encode_utf8_all cs) → count ≡ length cs

taken : (text : List ℕ) (bytes count : ℕ) → IsUtf8 text → IsCharBoundary text bytes → count ≡ count_by is_char_start (take bytes text) → AreTaken (chars text) bytes count
taken text bytes count utf8 boundary counted =
    let part : List ℕ = take bytes text in
    let part_utf8 : IsUtf8 part = IsUtf8-take text bytes utf8 boundary in
    let rest : List ℕ = chars (drop bytes text) in
    let whole : chars text ≡ chars part ++ rest = ap chars (sym (take-append-drop bytes text)) ∙ chars-append part (drop bytes text) part_utf8 in
    let count_is : length (chars part) ≡ count = sym (counted ∙ count-chars part part_utf8) in
    let front : take count (chars text) ≡ chars part = ap (take count) whole ∙ take_at (chars part) rest count count_is in
    record {
      within = omega (arith, count_is, ap (λ (t : List ℕ). length t) whole, length-append (chars part) rest);
      spelled = sym (ap (λ (t : List ℕ). length (encode_utf8_all t)) front ∙ (ap (λ (t : List ℕ). length t) (encodes-chars part part_utf8) ∙ length-take-le bytes text boundary.0));
      all = λ total reaches total_is.
          let end : bytes ≡ length text = reaches ∙ (total_is ∙ ap (λ (t : List ℕ). length t) (encodes-chars text utf8)) in
          sym count_is ∙ ap (λ (t : List ℕ). length (chars t)) (take_all bytes text (omega (arith, end)));
    }

passed-boundary : (text : List ℕ) (most : ℕ) (front : TextFront) → IsPassed text most front → Ends text most front → IsCharBoundary text front.bytes
passed-boundary text most front passed ends = (passed.within, λ less high. lead-start _ (ends less).1 high)

count-by : (cs : List ℕ) (most count bytes total : ℕ) → (less : Bool) → nat_le total bytes ≡ less → AreTaken cs bytes count → count ≤ most → bytes ≤ total → total ≡ length (encode_utf8_all cs) → (bytes < total → count ≡ most) → count ≡ length (take most cs)
count-by cs most count bytes total true test are few within total_is ends =
    let all : bytes ≡ total = omega (arith, leb-true total bytes test, within) in
    let count_is : count ≡ length cs = are.all total all total_is in
    omega (arith, count_is, few, length-take most cs)
count-by cs most count bytes total false test are few within total_is ends =
    let full : count ≡ most = ends (leb-false total bytes test) in
    omega (arith, full, are.within, length-take most cs)

-- the front that was passed is the one that is asked for
pub front-passed : (text bytes : List ℕ) (most : ℕ) (front : TextFront) → IsUtf8 text → bytes ≡ text → IsPassed bytes most front → Ends bytes most front → (front.chars ≡ length (take most (chars text))) × IsFrontOf (chars text) front
front-passed text bytes most front utf8 are was was_ends =
    let passed : IsPassed text most front = subst (λ (t : List ℕ). IsPassed t most front) are was in
    let ends : Ends text most front = subst (λ (t : List ℕ). Ends t most front) are was_ends in
    let own = taken text front.bytes front.chars utf8 (passed-boundary text most front passed ends) passed.counted in (
      count-by (chars text) most front.chars front.bytes (length text) (nat_le (length text) front.bytes) refl own passed.few passed.within (ap (λ (t : List ℕ). length t) (sym (encodes-chars text utf8))) (λ less. (ends less).0),
      record { within = own.within; bytes = own.spelled },
    )
