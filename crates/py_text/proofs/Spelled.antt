-- Numbers spelled one after the other: over lists that are joined, and by spellings that agree.
use Rattle.std.proofs.Common.{◌≡◌, ℕ, ◌+◌, List, [], ◌∷◌, ◌++◌, length as len, refl, sym, ap, ◌∙◌, append_assoc}
use Rattle.std.proofs.lemmas.List.{length-append}
use Rattle.py_plain.specs.Escapes.{each_spelled}

-- two lists that are joined are spelled one after the other
pub each-both : (spell : ℕ → List ℕ) (xs ys : List ℕ) → each_spelled spell (xs ++ ys) ≡ each_spelled spell xs ++ each_spelled spell ys
each-both spell [] ys = refl
each-both spell (x ∷ xs) ys = ap (λ (t : List ℕ). spell x ++ t) (each-both spell xs ys) ∙ sym (append_assoc (spell x) (each_spelled spell xs) (each_spelled spell ys))

-- what is spelled twice is spelled by both at once
pub each-each : (outer inner : ℕ → List ℕ) (xs : List ℕ) → each_spelled outer (each_spelled inner xs) ≡ each_spelled (λ x. each_spelled outer (inner x)) xs
each-each outer inner [] = refl
each-each outer inner (x ∷ xs) = each-both outer (inner x) (each_spelled inner xs) ∙ ap (λ (t : List ℕ). each_spelled outer (inner x) ++ t) (each-each outer inner xs)

-- spellings that agree spell the same
pub each-same : (one other : ℕ → List ℕ) → ((x : ℕ) → one x ≡ other x) → (xs : List ℕ) → each_spelled one xs ≡ each_spelled other xs
each-same one other same [] = refl
each-same one other same (x ∷ xs) = ap (λ (t : List ℕ). t ++ each_spelled one xs) (same x) ∙ ap (λ (t : List ℕ). other x ++ t) (each-same one other same xs)

-- spellings of the same lengths spell lists of the same length
pub each-long : (one other : ℕ → List ℕ) → ((x : ℕ) → len (one x) ≡ len (other x)) → (xs : List ℕ) → len (each_spelled one xs) ≡ len (each_spelled other xs)
each-long one other same [] = refl
each-long one other same (x ∷ xs) =
    length-append (one x) (each_spelled one xs)
    ∙ (ap (λ (n : ℕ). n + len (each_spelled one xs)) (same x)
    ∙ (ap (λ (n : ℕ). len (other x) + n) (each-long one other same xs)
    ∙ sym (length-append (other x) (each_spelled other xs))))

-- a spelling of no characters
pub each-none : (xs : List ℕ) → each_spelled (λ x. []) xs ≡ []
each-none [] = refl
each-none (x ∷ xs) = each-none xs
