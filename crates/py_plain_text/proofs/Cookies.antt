-- A cookie of a boundary brings back what was left where it was told.
use Rattle.std.proofs.Common.{◌≡◌, ℕ, ◌⊎◌, inl, inr, Bool, true, false, pos, List, [], ◌∷◌, find, Option, Some, None, refl, sym, ap, subst, subst₂, ◌∙◌}
use Rattle.std.proofs.lemmas.Bool.{and_parts, eqb-true, cond-true, cond-false}
use Rattle.std.proofs.lemmas.Slice.Eq.{bytes_eq-Decides}
use Rattle.py_plain.specs.Units.{Order, Unknown, Little, Big}
use Rattle.py_plain_text.specs.TextFile.{TextFile, clean_at}
use Rattle.py_plain_text.specs.Rest.{Rest, text_rest}
use Rattle.py_plain_text.specs.Cookie.{flags_of, order_of}
use Rattle.py_plain_text.specs.Landing.{lands}
use Rattle.py_plain_text.specs.Telling.{order_at, placed, same_range, same_rest, gives_rest, boundaries, told_at, told}
use Rattle.py_plain_text.specs.CookieLaws.{GivesBack}

either : (test : Bool) → (test ≡ true) ⊎ (test ≡ false)
either true = inl refl
either false = inr refl

-- what is found passes the test
find-passes : (test : ℕ → Bool) (xs : List ℕ) (x : ℕ) → find test xs ≡ Some x → test x ≡ true
find-passes test [] x is = absurd (cc)
find-passes test (y ∷ ys) x is =
    elim (either (test y)) [
      | inl passes ↦ (
          let first : Some y ≡ Some x = sym (cond-true (test y) (Some y) (find test ys) passes) ∙ is in
          let same : y ≡ x = cc in
          subst (λ z. test z ≡ true) same passes
          )
      | inr fails ↦ find-passes test ys x (sym (cond-false (test y) (Some y) (find test ys) fails) ∙ is)
    ]

-- the order that flags say is the one that they were made of
pub flags-order : (order : Order) → order_of (pos (flags_of order)) ≡ order
flags-order Unknown = refl
flags-order Little = refl
flags-order Big = refl

same-range : (one other : Option (ℕ × ℕ)) → same_range one other ≡ true → one ≡ other
same-range None None same = refl
same-range None (Some other) same = absurd (cc)
same-range (Some one) None same = absurd (cc)
same-range (Some one) (Some other) same =
    let parts = and_parts _ _ same in
    subst₂ (λ start end. Some one ≡ Some (start, end)) (eqb-true one.0 other.0 parts.0) (eqb-true one.1 other.1 parts.1) refl

same-rest : (one other : Rest) → same_rest one other ≡ true → one ≡ other
same-rest one other same =
    let parts = and_parts _ _ same in
    let characters : one.characters ≡ other.characters = (bytes_eq-Decides one.characters other.characters).0 parts.0 in
    subst₂ (λ cs range. one ≡ record { characters = cs; refusal = range }) characters (same-range one.refusal other.refusal parts.1) refl

boundary-back : (file : TextFile) (boundary : ℕ) (order : Order) → order ≡ order_at file boundary → gives_rest file boundary ≡ true → text_rest (placed file (clean_at boundary order)) ≡ text_rest file
boundary-back file boundary order is gives =
    ap (λ o. text_rest (placed file (clean_at boundary o))) is
    ∙ same-rest (text_rest (placed file (clean_at boundary (order_at file boundary)))) (text_rest file) gives

-- where a boundary gives the rest, the cookie that is told brings it back
pub told-boundary-back : (file : TextFile) (boundary : ℕ) → find (gives_rest file) (boundaries file) ≡ Some boundary → GivesBack file (lands file (told file))
told-boundary-back file boundary found =
    let passes = find-passes (gives_rest file) (boundaries file) boundary found in
    let back = boundary-back file boundary (order_of (pos (flags_of (order_at file boundary)))) (flags-order (order_at file boundary)) passes in
    subst (λ at. GivesBack file (lands file (told_at file at))) (sym found) back
