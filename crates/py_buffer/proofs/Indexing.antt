-- Sums of signed numbers, and what indices come to step by step.
use Rattle.std.proofs.Common.{◌≡◌, ℕ, ◌+◌, ◌^◌, ◌<◌, ◌≤◌, ℤ, pos, negsuc, ◌+ℤ◌, ◌≤ℤ◌, unsigned_abs, to_z, of_z, w64, List, ◌∷◌, Some, Result, Ok, Err, arith, refl, ap, ◌∙◌, true}
use Rattle.std.proofs.lemmas.Int.{ints}
use lib.Signed.{le_z}
use mir.Val.{SFits}
use Rattle.py_flat.specs.declared.fault.IoFault.{IoFault}
use Rattle.py_buffer.specs.Descriptor.{Dimension}
use Rattle.py_buffer.specs.Position.{step_of, entry_at, step_onto, indexed_by, indexed_from}

-- the sum of three numbers as the code has it
pub sum_is : (a b c : ℤ) (n : ℕ) → SFits w64 a → SFits w64 b → SFits w64 c → unsigned_abs b ≡ n → unsigned_abs a + (n + unsigned_abs c) < 2 ^ 63
    → to_z w64 (of_z w64 (to_z w64 (of_z w64 (to_z w64 (of_z w64 a) +ℤ to_z w64 (of_z w64 b))) +ℤ to_z w64 (of_z w64 c))) ≡ a +ℤ (b +ℤ c)
sum_is a b c n p q r size fits = omega (arith, ints)

-- a sum of three numbers is no further from 0 than all of them
pub sum_within : (a b c : ℤ) (n : ℕ) → unsigned_abs b ≡ n → unsigned_abs (a +ℤ (b +ℤ c)) ≤ unsigned_abs a + (n + unsigned_abs c)
sum_within a b c n size = omega (arith, ints)

-- an entry lies within its shape
pub entry_below : (index : ℤ) (shape entry : ℕ) → entry_at index shape ≡ Some entry → entry < shape
entry_below (pos index) shape entry is = grind arith
entry_below (negsuc before) shape entry is = grind arith

-- two steps onto what is left are one
pub onto_onto : (a b : ℤ) (rest : Result ℤ IoFault) → step_onto a (step_onto b rest) ≡ step_onto (a +ℤ b) rest
onto_onto a b (Ok position) = let same : a +ℤ (b +ℤ position) ≡ a +ℤ b +ℤ position = omega (arith, ints) in ap Ok same
onto_onto a b (Err refused) = refl

-- one index of several
pub one_indexed : (position index : ℤ) (entry number : ℕ) (dimension : Dimension) (indices : List ℤ) (rest : List Dimension) → entry_at index dimension.0 ≡ Some entry
    → step_onto position (indexed_from number (index ∷ indices) (dimension ∷ rest)) ≡ step_onto (position +ℤ step_of entry dimension) (indexed_from (number + 1) indices rest)
one_indexed position index entry number dimension indices rest is =
    ap (λ found. step_onto position (indexed_by found dimension number (indexed_from (number + 1) indices rest))) is
    ∙ onto_onto position (step_of entry dimension) (indexed_from (number + 1) indices rest)

-- where a segment ends, as the code has it
pub end_is : (start : ℤ) (width : ℕ) → SFits w64 start → unsigned_abs start + width < 2 ^ 63 → to_z w64 (of_z w64 (to_z w64 (of_z w64 start) +ℤ to_z w64 width)) ≡ start +ℤ pos width
end_is start width starts fits = omega (arith, ints)

-- where segments end, compared with a length as the code does
pub end_compared : (first last : ℤ) (width n size : ℕ) → pos 0 ≤ℤ first → first ≤ℤ last → size ≡ unsigned_abs (last +ℤ pos width) → (size ≤ n → (last +ℤ pos width) ≤ℤ pos n) × ((last +ℤ pos width) ≤ℤ pos n → size ≤ n)
end_compared first last width n size starts ordered is = ((λ h. omega (arith, ints)), λ h. omega (arith, ints))

-- a number that isn't negative is tested as such
pub is_le : (z : ℤ) → pos 0 ≤ℤ z → le_z (pos 0) z ≡ true
is_le z h = grind (arith, ints)
