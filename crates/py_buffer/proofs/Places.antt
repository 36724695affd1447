-- The items in row order, each by its number.
use Rattle.std.proofs.Common.{◌≡◌, ℕ, zero, suc, ◌+◌, ◌-◌, ◌*◌, ◌/◌, ◌%◌, ◌<◌, ◌≤◌, ◌⊎◌, inl, inr, ℤ, pos, ◌+ℤ◌, List, [], ◌∷◌, ◌++◌, length, get_or, map, drop, arith, refl, ap, ◌∙◌, sym, length-append}
use Rattle.std.proofs.lemmas.List.{length-map, get_or_append_left, get_or-append_right, get_or-map, drop_more}
use Rattle.std.proofs.lemmas.Bool.{cases_lt}
use Rattle.std.proofs.Math.Nat.{div-eq_of_lt-le, div-lt_iff_lt-mul, mod_def, mod-lt}
use Rattle.py_buffer.specs.Descriptor.{Dimension, items_in}
use Rattle.py_buffer.specs.Position.{step_of}
use Rattle.py_buffer.specs.Segments.{rows, moved, positions, place_of, span}

-- a number below a product comes of a second factor that isn't 0
pub some_rest : (n shape rest : ℕ) → n < shape * rest → 0 < rest
some_rest n shape zero below = absurd (omega (arith, below))
some_rest n shape (suc rest) below = omega arith

-- a number below a product of shapes has an index below the first one
pub index_below : (n shape rest : ℕ) → n < shape * rest → n / rest < shape
index_below n shape rest below = (div-lt_iff_lt-mul (some_rest n shape rest below)).1 below

-- a number that is so many rows and a place within one more
pub row_and_place : (n row place size : ℕ) → place < size → n ≡ row * size + place → (n / size ≡ row) × (n % size ≡ place)
row_and_place n row place size below is =
    let quotient : n / size ≡ row = div-eq_of_lt-le {k = row} size {m = n} (omega (arith, is)) (omega (arith, is, below)) in
    (quotient, mod_def n size ∙ omega (arith, is, ap (λ q. size * q) quotient))

-- lists of one length, one after the other
pub rows_length : {X : Type 0} (n size : ℕ) (row : ℕ → List X) → ((i : ℕ) → length (row i) ≡ size) → length (rows n row) ≡ n * size
rows_length zero size row each = omega arith
rows_length (suc n) size row each = length-append (rows n row) (row n) ∙ omega (arith, rows_length n size row each, each n)

rows_at_end : {X : Type 0} (n size k : ℕ) (row : ℕ → List X) (d : X) → ((i : ℕ) → length (row i) ≡ size) → k < suc n * size → (k < n * size) ⊎ (n * size ≤ k)
    → (k < n * size → get_or (rows n row) k d ≡ get_or (row (k / size)) (k % size) d) → get_or (rows n row ++ row n) k d ≡ get_or (row (k / size)) (k % size) d
rows_at_end n size k row d each below (inl within) before = get_or_append_left (rows n row) (row n) d k (omega (arith, within, rows_length n size row each)) ∙ before within
rows_at_end n size k row d each below (inr behind) before =
    let place = row_and_place k n (k - n * size) size (omega (arith, below, behind)) (omega (arith, behind)) in
    get_or-append_right (rows n row) (row n) (n * size) k d (rows_length n size row each) behind
    ∙ ap (λ q. get_or (row q) (k - n * size) d) (sym place.0) ∙ ap (λ r. get_or (row (k / size)) r d) (sym place.1)

-- an element of so many lists of one length
pub rows_at : {X : Type 0} (n size k : ℕ) (row : ℕ → List X) (d : X) → ((i : ℕ) → length (row i) ≡ size) → k < n * size → get_or (rows n row) k d ≡ get_or (row (k / size)) (k % size) d
rows_at zero size k row d each below = absurd (omega (arith, below))
rows_at (suc n) size k row d each below = rows_at_end n size k row d each below (cases_lt k (n * size)) (rows_at n size k row d each)

-- there are as many items as the product of the shapes
pub positions_length : (dimensions : List Dimension) → length (positions dimensions) ≡ items_in dimensions
positions_length [] = refl
positions_length (dimension ∷ rest) = rows_length dimension.0 (items_in rest) (λ index. moved (step_of index dimension) (positions rest)) (λ index. length-map (positions rest) (λ p. step_of index dimension +ℤ p) ∙ positions_length rest)

-- the item of a number in row order
pub positions_at : (dimensions : List Dimension) (n : ℕ) (z : ℤ) → n < items_in dimensions → get_or (positions dimensions) n z ≡ place_of dimensions n
positions_at [] zero z below = refl
positions_at [] (suc n) z below = absurd (omega (arith, below))
positions_at (dimension ∷ rest) n z below =
    let size = items_in rest in
    let within : n % size < size = mod-lt n (some_rest n dimension.0 size below) in
    rows_at dimension.0 size n (λ index. moved (step_of index dimension) (positions rest)) z (λ index. length-map (positions rest) (λ p. step_of index dimension +ℤ p) ∙ positions_length rest) below
    ∙ get_or-map (λ p. step_of (n / size) dimension +ℤ p) (positions rest) (n % size) z z (omega (arith, within, positions_length rest))
    ∙ ap (λ p. step_of (n / size) dimension +ℤ p) (positions_at rest (n % size) z within)

-- the segments from a number on are the one of that number and those from the next on
pub span_next : (dimensions : List Dimension) (width n : ℕ) → n < items_in dimensions
    → drop n (map (span width) (positions dimensions)) ≡ span width (place_of dimensions n) ∷ drop (n + 1) (map (span width) (positions dimensions))
span_next dimensions width n below =
    let all = map (span width) (positions dimensions) in
    drop_more all n (span width (pos 0)) (omega (arith, below, length-map (positions dimensions) (span width), positions_length dimensions))
    ∙ ap (λ first. first ∷ drop (n + 1) all) (get_or-map (span width) (positions dimensions) n (pos 0) (span width (pos 0)) (omega (arith, below, positions_length dimensions)) ∙ ap (span width) (positions_at dimensions n (pos 0) below))
