-- The number under which a function is registered.
use Rattle.std.proofs.Common.{◌≡◌, ℕ, ◌+◌, ◌^◌, ◌<◌, nat_lt, Option, Some, None, Ok, Err, sym, ap, ◌∙◌, subst, arith}
use Rattle.std.specs.Option.{SomeIff}
use Rattle.std.proofs.lemmas.Bool.{cond-true, lt-ltb}
use Rattle.py_flat.specs.declared.fault.IoFault.TheVariants.{TooFar}
use Rattle.py_registry.specs.Machine.{next_number, IsNext}
use Rattle.py_registry.specs.Answers.{number_or_too_far}

-- a number that is left is below the limit
pub number-fits : (next : Option ℕ) (number : ℕ) → next ≡ Some number → IsNext next → number < 2 ^ 64
number-fits next number is fits = subst IsNext is fits

-- a number that is left is the one that is given
pub number-given : (next : Option ℕ) (number : ℕ) → next ≡ Some number → IsNext next → number_or_too_far (next_number next) ≡ Ok number
number-given next number is fits =
    let below = number-fits next number is fits in
    ap (λ (n : Option ℕ). number_or_too_far (next_number n)) is
    ∙ cond-true (nat_lt number (2 ^ 64)) (Ok number) (Err TooFar) (lt-ltb number (2 ^ 64) below)

-- a number that is left is not the limit
pub not-far : {A : Type 0} (next : Option ℕ) (number : ℕ) → next ≡ Some number → IsNext next → next_number next ≡ 2 ^ 64 → A
not-far next number is fits far =
    let below : number < 2 ^ 64 = number-fits next number is fits in
    let same : number ≡ 2 ^ 64 = sym (ap next_number is) ∙ far in
    absurd (omega (arith, below, same))

next-rises_by : (after : Option ℕ) (number : ℕ) → number < 2 ^ 64 → SomeIff after (number + 1 < 18446744073709551616) (number + 1) → next_number after ≡ number + 1
next-rises_by None number fits is = elim-le number fits is
  where
    elim-le : (number : ℕ) → number < 2 ^ 64 → (number + 1 < 18446744073709551616 → ⊥) → 2 ^ 64 ≡ number + 1
    elim-le number fits not = omega (arith, not)
next-rises_by (Some next) number fits is = is.1

-- the next number is one greater, past the limit where none is left
pub number-rises : (next after : Option ℕ) (number : ℕ) → next ≡ Some number → IsNext next → SomeIff after (number + 1 < 18446744073709551616) (number + 1) → next_number after ≡ next_number next + 1
number-rises next after number is fits rises =
    next-rises_by after number (number-fits next number is fits) rises ∙ sym (ap (λ (n : Option ℕ). next_number n + 1) is)
