-- Numbers of exports.
use Rattle.std.proofs.Common.{◌≡◌, ℕ, suc, ◌<◌, ◌≤◌, Bool, true, false, not, ◌||◌, cond, nat_eq, nat_lt, IsTrue, List, [], ◌∷◌, length, position, Option, Some, None, Ok, Err, refl, sym, ap, subst, ◌∙◌, arith, if◌then◌else◌}
use borrow.Author.Tests.{ltb-true, ltb-false}
use Rattle.std.specs.List.{list_any, remove, position_or_len}
use Rattle.py_flat.specs.declared.fault.IoFault.{IoFault}
use Rattle.py_flat.specs.declared.fault.IoFault.TheVariants as fault
use Rattle.py_flat.specs.declared.life.Life.{Life}
use Rattle.py_flat.specs.declared.life.Life.TheVariants as life
use Rattle.py_flat.specs.Refusals.{life_fault, or_else, refused_if}
use Rattle.py_memio.specs.BytesIO.{BytesView, without, released, PlaceOutcome, Releases}

without_cons : (test : ℕ → Bool) (number x : ℕ) (xs : List ℕ) (same found : Bool) → (IsTrue (list_any test (without number xs)) → IsTrue (list_any test xs)) → IsTrue (list_any test (if same then xs else x ∷ without number xs)) → test x ≡ found → IsTrue (found || list_any test xs)
without_cons test number x xs same true rest has is = refl
without_cons test number x xs true false rest has is = has
without_cons test number x xs false false rest has is = rest (subst (λ (first : Bool). IsTrue (first || list_any test (without number xs))) is has)

-- what is among the rest is among all
pub any_without : (test : ℕ → Bool) (number : ℕ) (xs : List ℕ) → IsTrue (list_any test (without number xs)) → IsTrue (list_any test xs)
any_without test number [] has = has
any_without test number (x ∷ xs) has = without_cons test number x xs (nat_eq x number) (test x) (any_without test number xs) has refl

-- where a number stands among others, and what they are without it
record Stands (numbers : List ℕ) (number place : ℕ) : Type 0 where
  out : list_any (λ own. nat_eq own number) numbers ≡ true
  left : remove numbers place ≡ without number numbers

stands_cons : (number x : ℕ) (xs : List ℕ) (same : Bool) (place next : ℕ) → nat_eq x number ≡ same → next ≡ suc place → (place < length xs → Stands xs number place) → cond (not same) next 0 < length (x ∷ xs) → Stands (x ∷ xs) number (cond (not same) next 0)
stands_cons number x xs true place next is behind rest within = record {
  out = ap (λ (first : Bool). first || list_any (λ own. nat_eq own number) xs) is;
  left = sym (ap (λ (first : Bool). if first then xs else x ∷ without number xs) is);
}
stands_cons number x xs false place next is behind rest within =
    let there = rest (omega arith) in
    record {
      out = ap (λ (first : Bool). first || list_any (λ own. nat_eq own number) xs) is ∙ there.out;
      left = ap (λ (at : ℕ). remove (x ∷ xs) at) behind ∙ ap (λ (left : List ℕ). x ∷ left) there.left ∙ sym (ap (λ (first : Bool). if first then xs else x ∷ without number xs) is);
    }

stands : (number : ℕ) (xs : List ℕ) → position_or_len (λ own. nat_eq own number) xs < length xs → Stands xs number (position_or_len (λ own. nat_eq own number) xs)
stands number [] within = absurd (omega arith)
stands number (x ∷ xs) within = stands_cons number x xs (nat_eq x number) (position_or_len (λ own. nat_eq own number) xs) _ refl (omega arith) (stands number xs) within

none_cons : (number x : ℕ) (xs : List ℕ) (same : Bool) (place next : ℕ) → nat_eq x number ≡ same → next ≡ suc place → (length xs ≤ place → list_any (λ own. nat_eq own number) xs ≡ false) → length (x ∷ xs) ≤ cond (not same) next 0 → list_any (λ own. nat_eq own number) (x ∷ xs) ≡ false
none_cons number x xs true place next is behind rest past = absurd (omega arith)
none_cons number x xs false place next is behind rest past = ap (λ (first : Bool). first || list_any (λ own. nat_eq own number) xs) is ∙ rest (omega arith)

none : (number : ℕ) (xs : List ℕ) → length xs ≤ position_or_len (λ own. nat_eq own number) xs → list_any (λ own. nat_eq own number) xs ≡ false
none number [] past = refl
none number (x ∷ xs) past = none_cons number x xs (nat_eq x number) (position_or_len (λ own. nat_eq own number) xs) _ refl (omega arith) (none number xs) past

-- what a search for a number that is out finds
abbrev pub FoundIn : Option ℕ → List ℕ → ℕ → Type 0
FoundIn (Some place) out number = (list_any (λ own. nat_eq own number) out ≡ true) × (place < length out) × (remove out place ≡ without number out)
FoundIn None out number = list_any (λ own. nat_eq own number) out ≡ false

found_by : (number : ℕ) (xs : List ℕ) (less : Bool) → nat_lt (position_or_len (λ own. nat_eq own number) xs) (length xs) ≡ less → FoundIn (cond less (Some (position_or_len (λ own. nat_eq own number) xs)) None) xs number
found_by number xs true is =
    let within : position_or_len (λ own. nat_eq own number) xs < length xs = ltb-true _ _ is in
    let there = stands number xs within in
    (there.out, within, there.left)
found_by number xs false is = none number xs (ltb-false _ _ is)

pub found_in : (number : ℕ) (xs : List ℕ) → FoundIn (position (λ own. nat_eq own number) xs) xs number
found_in number xs = found_by number xs (nat_lt (position_or_len (λ own. nat_eq own number) xs) (length xs)) refl

-- an export that is out, of a live stream, may be used
pub used_found : (current : Life) (found : Bool) (out : List ℕ) (number place : ℕ) → current ≡ life.Live → found ≡ true → place < length out → remove out place ≡ without number out → PlaceOutcome (or_else (life_fault current) (refused_if (not found) fault.BadArgument)) out number (Ok place)
used_found life.Live true out number place live is within left = (within, left)
used_found life.Live false out number place live is within left = absurd (cc)
used_found current found out number place live is within left = absurd (cc)

-- one that isn't out is refused
pub used_unfound : (current : Life) (found : Bool) (out : List ℕ) (number : ℕ) → current ≡ life.Live → found ≡ false → PlaceOutcome (or_else (life_fault current) (refused_if (not found) fault.BadArgument)) out number (Err fault.BadArgument)
used_unfound life.Live false out number live is = refl
used_unfound life.Live true out number live is = absurd (cc)
used_unfound current found out number live is = absurd (cc)

-- what is known where an export was found
pub record UsesPlace (refusal : Option IoFault) (out : List ℕ) (number place : ℕ) : Type 0 where
  pub accepts : refusal ≡ None
  pub left : remove out place ≡ without number out

pub uses_place : (refusal : Option IoFault) (out : List ℕ) (number place : ℕ) → PlaceOutcome refusal out number (Ok place) → UsesPlace refusal out number place
uses_place (Some why) out number place outcome = absurd (cc)
uses_place None out number place outcome = record { accepts = refl; left = outcome.1 }

-- an export is taken back
pub releases_place : (refusal : Option IoFault) (before : BytesView) (number : ℕ) (after : BytesView) → refusal ≡ None → after ≡ released before number → Releases refusal before number (Ok tt) after
releases_place None before number after accepts same = (refl, same)
releases_place (Some why) before number after accepts same = absurd (cc)
