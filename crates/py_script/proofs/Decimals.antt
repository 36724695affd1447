-- The value of digits, one digit at a time.
use Rattle.std.proofs.Common.{◌≡◌, ℕ, ◌+◌, ◌-◌, ◌*◌, ◌^◌, ◌<◌, ◌≤◌, true, false, cond, ltb, List, [], ◌∷◌, Option, Some, None, length, get_or, drop, drop-cons, add-one, refl, ap, arith}
use Rattle.std.proofs.lemmas.List.{drop_all}
use Rattle.std.proofs.lemmas.Bool.Decides.{nat_tests}
use Rattle.std.proofs.lemmas.Option.{none-some, cond_some}
use Rattle.py_script.specs.Words.{is_digit, value_onto, as_size, decimal_value}

-- what some digits read as a number stand for
pub decimal_value_of_some : (digits : List ℕ) → 0 < length digits → decimal_value digits ≡ as_size (value_onto 0 digits)
decimal_value_of_some [] some = absurd (omega arith)
decimal_value_of_some (digit ∷ digits) some = refl

-- a value that is too large for a size stays so with any digits after it
pub value_onto_large : (value : ℕ) (digits : List ℕ) → 2 ^ 64 ≤ value → as_size (value_onto value digits) ≡ None
value_onto_large value [] large = grind (arith, nat_tests)
value_onto_large value (digit ∷ digits) large =
    elim (is_digit digit) as (λ b. as_size (cond b (value_onto (value * 10 + (digit - 48)) digits) None) ≡ None) [
      | true ↦ value_onto_large (value * 10 + (digit - 48)) digits (omega arith)
      | false ↦ refl
    ]

-- a number that no size holds is large
as_size_none : (value : ℕ) → as_size (Some value) ≡ None → 2 ^ 64 ≤ value
as_size_none value none = grind (arith, nat_tests, none-some)

-- one digit that fits is laid to the value
first_digit : (value digit next : ℕ) (digits : List ℕ) → as_size (value_onto value (digit ∷ [])) ≡ Some next → value_onto value (digit ∷ digits) ≡ value_onto next digits
first_digit value digit next digits =
    let with_it : ℕ = value * 10 + (digit - 48) in
    elim (is_digit digit) as (λ b. as_size (cond b (Some with_it) None) ≡ Some next → cond b (value_onto with_it digits) None ≡ value_onto next digits) [
      | true ↦ λ fits. ap (λ v. value_onto v digits) (cond_some (ltb with_it (2 ^ 64)) with_it next fits).1
      | false ↦ λ fits. absurd (none-some next fits)
    ]

-- a digit that doesn't fit, or a byte that is no digit, makes no number
first_digit_none : (value digit : ℕ) (digits : List ℕ) → as_size (value_onto value (digit ∷ [])) ≡ None → as_size (value_onto value (digit ∷ digits)) ≡ None
first_digit_none value digit digits =
    let with_it : ℕ = value * 10 + (digit - 48) in
    elim (is_digit digit) as (λ b. as_size (cond b (Some with_it) None) ≡ None → as_size (cond b (value_onto with_it digits) None) ≡ None) [
      | true ↦ λ fails. value_onto_large with_it digits (as_size_none with_it fails)
      | false ↦ λ fails. refl
    ]

-- the next digit of a list fits
pub value_onto_more : (value : ℕ) (digits : List ℕ) (i next : ℕ) → i < length digits → as_size (value_onto value (get_or digits i 0 ∷ [])) ≡ Some next → value_onto value (drop i digits) ≡ value_onto next (drop (i + 1) digits)
value_onto_more value digits i next within fits =
    rw (drop-cons digits i 0, add-one) (first_digit value (get_or digits i 0) next _ fits)

-- the next digit of a list doesn't fit, or is none
pub value_onto_none : (value : ℕ) (digits : List ℕ) (i : ℕ) → i < length digits → as_size (value_onto value (get_or digits i 0 ∷ [])) ≡ None → as_size (value_onto value (drop i digits)) ≡ None
value_onto_none value digits i within fails =
    rw (drop-cons digits i 0) (first_digit_none value (get_or digits i 0) _ fails)

-- no digit is left
pub value_onto_end : (value : ℕ) (digits : List ℕ) (i : ℕ) → length digits ≤ i → value_onto value (drop i digits) ≡ Some value
value_onto_end value digits i past = rw (drop_all i digits past) refl

-- a number that a size holds is below 2 ^ 64
pub as_size_fits : (number : Option ℕ) (value : ℕ) → as_size number ≡ Some value → value < 2 ^ 64
as_size_fits None value is = absurd (none-some value is)
as_size_fits (Some number) value is =
    let parts = cond_some (ltb number (2 ^ 64)) number value is in
    grind (arith, nat_tests)

-- a value that a size holds is itself
pub fits_as_size : (value : ℕ) → value < 2 ^ 64 → as_size (Some value) ≡ Some value
fits_as_size value fits = grind (arith, nat_tests)
