-- The escapes, one digit and one number at a time.
use Rattle.std.proofs.Common.{◌≡◌, ℕ, zero, suc, ◌+◌, ◌-◌, ◌<◌, ◌/◌, ◌%◌, List, [], ◌∷◌, ◌++◌, length, take, get_or, refl, sym, ap, ◌∙◌, arith}
use Rattle.std.proofs.lemmas.List.{append_assoc, append-nil, take_more}
use Rattle.py_plain.specs.Escapes.{hex_digit, hex_digits, each_spelled}

-- the last digit stands after those of the number without it
pub hex_digits-onto : (out : List ℕ) (count value : ℕ) → 0 < count → (out ++ hex_digits (count - 1) (value / 16)) ++ hex_digit (value % 16) ∷ [] ≡ out ++ hex_digits count value
hex_digits-onto out zero value some = absurd (omega arith)
hex_digits-onto out (suc count) value some =
    let less : suc count - 1 ≡ count = omega arith in
    rw less (append_assoc out (hex_digits count (value / 16)) (hex_digit (value % 16) ∷ []))

-- one number more is spelled after those before it
pub each_spelled-more : (spell : ℕ → List ℕ) (values : List ℕ) (value : ℕ) → each_spelled spell (values ++ value ∷ []) ≡ each_spelled spell values ++ spell value
each_spelled-more spell [] value = rw append-nil refl
each_spelled-more spell (first ∷ values) value = rw (each_spelled-more spell values value) (sym (append_assoc (spell first) (each_spelled spell values) (spell value)))

-- the numbers up to the next one, after what is out
pub each_spelled-onto : (spell : ℕ → List ℕ) (out : List ℕ) (values : List ℕ) (at default : ℕ) → at < length values → (out ++ each_spelled spell (take at values)) ++ spell (get_or values at default) ≡ out ++ each_spelled spell (take (at + 1) values)
each_spelled-onto spell out values at default inside =
    append_assoc out (each_spelled spell (take at values)) (spell (get_or values at default))
    ∙ ap (λ more. out ++ more) (sym (each_spelled-more spell (take at values) (get_or values at default)) ∙ ap (λ vs. each_spelled spell vs) (sym (take_more values at default inside)))
