-- Numbers of exports of which none is out twice.
use Rattle.std.proofs.Common.{◌≡◌, ℕ, ◌<◌, Bool, true, false, ◌||◌, nat_eq, IsTrue, List, [], ◌∷◌, ◌++◌, refl, sym, ap, subst, ◌∙◌, arith, if◌then◌else◌}
use Rattle.std.specs.List.{AllByRecursion, IsDistinct, list_any}
use Rattle.std.proofs.lemmas.Bool.{eqb-true}
use Rattle.std.proofs.lemmas.Cmp.{nat_eq_equiv}
use Rattle.std.proofs.lemmas.List.Folds.{list_any-append}
use Rattle.std.proofs.lemmas.Map.Keys.{IsDistinct-head, IsDistinct-tail, IsDistinct-cons, IsDistinct-push}
use Rattle.py_memio.specs.BytesIO.{without}

flipped : (number : ℕ) (xs : List ℕ) → list_any (nat_eq number) xs ≡ list_any (λ own. nat_eq own number) xs
flipped number [] = refl
flipped number (x ∷ xs) = ap (λ (first : Bool). first || list_any (nat_eq number) xs) (nat_eq_equiv.symm number x) ∙ ap (λ (rest : Bool). nat_eq x number || rest) (flipped number xs)

-- a number that is not out goes to the others
pub apart_with : (number : ℕ) (out : List ℕ) → IsDistinct nat_eq out → list_any (λ own. nat_eq own number) out ≡ false → IsDistinct nat_eq (out ++ number ∷ [])
apart_with number out apart none = IsDistinct-push nat_eq_equiv out number apart (flipped number out ∙ none)

all_but : (P : ℕ → Type 0) (number x : ℕ) (xs : List ℕ) (same : Bool) → AllByRecursion P (x ∷ xs) → AllByRecursion P (without number xs) → AllByRecursion P (if same then xs else x ∷ without number xs)
all_but P number x xs true all rest = all.1
all_but P number x xs false all rest = (all.0, rest)

all_without : (P : ℕ → Type 0) (number : ℕ) (xs : List ℕ) → AllByRecursion P xs → AllByRecursion P (without number xs)
all_without P number [] all = tt
all_without P number (x ∷ xs) all = all_but P number x xs (nat_eq x number) all (all_without P number xs all.1)

apart_but : (number x : ℕ) (xs : List ℕ) (same : Bool) → IsDistinct nat_eq (x ∷ xs) → IsDistinct nat_eq (without number xs) → IsDistinct nat_eq (if same then xs else x ∷ without number xs)
apart_but number x xs true apart rest = IsDistinct-tail nat_eq x xs apart
apart_but number x xs false apart rest = IsDistinct-cons nat_eq x (without number xs) (all_without (λ y. nat_eq x y ≡ false) number xs (IsDistinct-head nat_eq x xs apart)) rest

-- a number is taken from the others
pub apart_without : (number : ℕ) (xs : List ℕ) → IsDistinct nat_eq xs → IsDistinct nat_eq (without number xs)
apart_without number [] apart = apart
apart_without number (x ∷ xs) apart = apart_but number x xs (nat_eq x number) apart (apart_without number xs (IsDistinct-tail nat_eq x xs apart))

none_of : (number x : ℕ) (xs : List ℕ) → nat_eq x number ≡ true → AllByRecursion (λ y. nat_eq x y ≡ false) xs → list_any (λ own. nat_eq own number) xs ≡ false
none_of number x [] same all = refl
none_of number x (y ∷ ys) same all =
    let other : nat_eq y number ≡ false = nat_eq_equiv.symm y number ∙ sym (nat_eq_equiv.congr x number y same) ∙ all.0 in
    ap (λ (first : Bool). first || list_any (λ own. nat_eq own number) ys) other ∙ none_of number x ys same all.1

gone_but : (number x : ℕ) (xs : List ℕ) (same : Bool) → nat_eq x number ≡ same → AllByRecursion (λ y. nat_eq x y ≡ false) xs → list_any (λ own. nat_eq own number) (without number xs) ≡ false → list_any (λ own. nat_eq own number) (if same then xs else x ∷ without number xs) ≡ false
gone_but number x xs true is all rest = none_of number x xs is all
gone_but number x xs false is all rest = ap (λ (first : Bool). first || list_any (λ own. nat_eq own number) (without number xs)) is ∙ rest

-- a number that was taken is there no more
pub gone : (number : ℕ) (xs : List ℕ) → IsDistinct nat_eq xs → list_any (λ own. nat_eq own number) (without number xs) ≡ false
gone number [] apart = refl
gone number (x ∷ xs) apart = gone_but number x xs (nat_eq x number) refl (IsDistinct-head nat_eq x xs apart) (gone number xs (IsDistinct-tail nat_eq x xs apart))

none_by : (number : ℕ) (found : Bool) → (IsTrue found → number < number) → found ≡ false
none_by number true given = absurd (omega (arith, given refl))
none_by number false given = refl

-- the number of the next export is none of those that are out
pub next_is_fresh : (number : ℕ) (out : List ℕ) → ((own : ℕ) → IsTrue (list_any (λ n. nat_eq n own) out) → own < number) → list_any (λ own. nat_eq own number) out ≡ false
next_is_fresh number out given = none_by number (list_any (λ own. nat_eq own number) out) (given number)

given_by : (old same : Bool) (number own next : ℕ) → (IsTrue old → own < number) → (same ≡ true → number ≡ own) → number < next → IsTrue (old || (same || false)) → own < next
given_by true same number own next given is below has = omega (arith, given refl)
given_by false true number own next given is below has = omega (arith, is refl)
given_by false false number own next given is below has = absurd (cc)

-- all that are out lie below the next number, where one more is out
pub given_with : (number next : ℕ) (out : List ℕ) → ((own : ℕ) → IsTrue (list_any (λ n. nat_eq n own) out) → own < number) → number < next → (own : ℕ) → IsTrue (list_any (λ n. nat_eq n own) (out ++ number ∷ [])) → own < next
given_with number next out given below own has = given_by (list_any (λ n. nat_eq n own) out) (nat_eq number own) number own next (given own) (eqb-true number own) below (subst IsTrue (list_any-append (λ n. nat_eq n own) out (number ∷ [])) has)
