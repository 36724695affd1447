-- What the products and sums over dimensions have in common.
use Rattle.std.proofs.Common.{◌≡◌, ℕ, zero, suc, ◌-◌, ◌*◌, ◌/◌, ◌^◌, ◌<◌, ◌≤◌, ◌↔◌, max, pos, List, [], ◌∷◌, arith, ap, ◌∙◌, sym}
use Rattle.std.proofs.Math.Nat.{mul-le-mul_left, mul-le-mul_right, div-eq_of_eq-mul_right}
use Rattle.py_buffer.specs.Descriptor.{Dimension, items_in, bound_of, IsRowMajor}

-- a product with a number that isn't 0 is at least the other number
pub product_grows : (a b : ℕ) → 1 ≤ b → a ≤ a * b
product_grows a b some = omega (arith, mul-le-mul_left a some)

-- a product of shapes, each 0 taken as 1, isn't 0
pub bound_is_some : (dimensions : List Dimension) → 1 ≤ bound_of dimensions
bound_is_some [] = omega arith
bound_is_some (dimension ∷ rest) = omega (arith, product_grows (max dimension.0 1) (bound_of rest) (bound_is_some rest))

-- where a product of shapes fits, so does that of the first ones
pub front_fits : (front shape : ℕ) (rest : List Dimension) → front * (max shape 1 * bound_of rest) < 2 ^ 64 → front * max shape 1 < 2 ^ 64
front_fits front shape rest fits = omega (arith, fits, product_grows (front * max shape 1) (bound_of rest) (bound_is_some rest))

-- the number of the items of the first dimensions fits where their bound does
pub items_fit : (front shape : ℕ) (rest : List Dimension) → front * (max shape 1 * bound_of rest) < 2 ^ 64 → front * shape < 2 ^ 64
items_fit front shape rest fits =
    let least : shape ≤ max shape 1 = omega arith in
    omega (arith, front_fits front shape rest fits, mul-le-mul_left front least)

-- there are no more items than their bound says
pub items_within_bound : (dimensions : List Dimension) → items_in dimensions ≤ bound_of dimensions
items_within_bound [] = omega arith
items_within_bound (dimension ∷ rest) =
    let least : dimension.0 ≤ max dimension.0 1 = omega arith in
    omega (arith, mul-le-mul_left dimension.0 (items_within_bound rest), mul-le-mul_right (bound_of rest) least)

-- all bytes divided by the first shape are those behind it
pub bytes_behind : (bytes shape rest size : ℕ) → bytes ≡ shape * rest * size → 0 < bytes → bytes / shape ≡ rest * size
bytes_behind bytes zero rest size whole some = absurd (omega (arith, whole, some))
bytes_behind bytes (suc shape) rest size whole some = div-eq_of_eq-mul_right (omega arith) (omega (arith, whole))

-- some bytes in all are some bytes behind the first shape
pub some_behind : (bytes shape rest size : ℕ) → bytes ≡ shape * rest * size → 0 < bytes → 0 < rest * size
some_behind bytes shape zero size whole some = absurd (omega (arith, whole, some))
some_behind bytes shape (suc rest) zero whole some = absurd (omega (arith, whole, some))
some_behind bytes shape (suc rest) (suc size) whole some = omega arith

-- an index below a shape leads no further than the last one
pub index_within : (index shape stride : ℕ) → index < shape → index * stride ≤ (shape - 1) * stride
index_within index shape stride below =
    let least : index ≤ shape - 1 = omega (arith, below) in
    mul-le-mul_right stride least

-- one dimension before others that lie in row order
pub row_major_steps : (itemsize : ℕ) (dimension : Dimension) (rest : List Dimension) (bytes : ℕ) → bytes ≡ items_in rest * itemsize
    → (dimension.2 ≡ pos 0) × (1 < dimension.0 → dimension.1 ≡ pos bytes) → IsRowMajor itemsize rest ↔ IsRowMajor itemsize (dimension ∷ rest)
row_major_steps itemsize dimension rest bytes is follows = ((λ behind. (follows.0, λ more. follows.1 more ∙ ap pos is, behind)), λ all. all.2)

-- the first of dimensions that lie in row order
pub row_major_follows : (itemsize : ℕ) (dimension : Dimension) (rest : List Dimension) (bytes : ℕ) → bytes ≡ items_in rest * itemsize
    → IsRowMajor itemsize (dimension ∷ rest) → (dimension.2 ≡ pos 0) × (1 < dimension.0 → dimension.1 ≡ pos bytes)
row_major_follows itemsize dimension rest bytes is all = (all.0, λ more. all.1 more ∙ ap pos (sym is))
