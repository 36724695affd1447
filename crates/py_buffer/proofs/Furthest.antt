-- The items that lie furthest out bound all of them, and are among them.
use Rattle.std.proofs.Common.{◌≡◌, ℕ, zero, suc, ◌+◌, ◌-◌, ◌*◌, ◌/◌, ◌%◌, ◌<◌, ℤ, pos, negsuc, ◌+ℤ◌, ◌*ℤ◌, ◌≤ℤ◌, Bool, true, false, List, [], ◌∷◌, length, get_or, map, arith, refl, ap, ◌∙◌, sym, subst}
use Rattle.std.proofs.lemmas.Int.{ints}
use Rattle.std.proofs.lemmas.List.{length-map, get_or-map, nil_from_length}
use Rattle.std.proofs.Math.Nat.{mod-lt}
use Rattle.py_buffer.specs.Descriptor.{Dimension, Each, items_in}
use Rattle.py_buffer.specs.Position.{step_of}
use Rattle.py_buffer.specs.Segments.{positions, place_of, span, IsWithin}
use Rattle.py_buffer.specs.Edges.{edge_index, edge_of}
use Rattle.py_buffer.proofs.Products.{index_within}
use Rattle.py_buffer.proofs.Places.{some_rest, index_below, row_and_place, positions_length, positions_at}

-- what holds of each element holds of one
pub each_at : {X : Type 0} (P : X → Type 0) (xs : List X) (k : ℕ) (d : X) → Each P xs → k < length xs → P (get_or xs k d)
each_at P [] k d each below = absurd (omega (arith, below))
each_at P (x ∷ xs) zero d each below = each.0
each_at P (x ∷ xs) (suc k) d each below = each_at P xs k d each.1 (omega (arith, below))

-- what holds at each place holds of each element
pub each_from : {X : Type 0} (P : X → Type 0) (xs : List X) (d : X) → ((k : ℕ) → k < length xs → P (get_or xs k d)) → Each P xs
each_from P [] d at = tt
each_from P (x ∷ xs) d at = (at 0 (omega arith), each_from P xs d (λ k below. at (suc k) (omega (arith, below))))

-- sums of what isn't greater aren't greater
sum_le : (a b c d : ℤ) → a ≤ℤ b → c ≤ℤ d → (a +ℤ c) ≤ℤ (b +ℤ d)
sum_le a b c d p q = omega (arith, ints)

-- no index leads further to the front than that of the edge
front_step : (index shape : ℕ) (stride suboffset : ℤ) → index < shape → (pos (edge_index true shape stride) *ℤ stride +ℤ suboffset) ≤ℤ (pos index *ℤ stride +ℤ suboffset)
front_step index shape (pos stride) suboffset below = omega (arith, ints)
front_step index shape (negsuc stride) suboffset below = omega (arith, ints, index_within index shape (suc stride) below)

-- no index leads further to the back than that of the edge
back_step : (index shape : ℕ) (stride suboffset : ℤ) → index < shape → (pos index *ℤ stride +ℤ suboffset) ≤ℤ (pos (edge_index false shape stride) *ℤ stride +ℤ suboffset)
back_step index shape (pos stride) suboffset below = omega (arith, ints, index_within index shape stride below)
back_step index shape (negsuc stride) suboffset below = omega (arith, ints)

-- the edges bound all items
pub edges_bound : (dimensions : List Dimension) (n : ℕ) → n < items_in dimensions → (edge_of true dimensions ≤ℤ place_of dimensions n) × (place_of dimensions n ≤ℤ edge_of false dimensions)
edges_bound [] n below = (omega (arith, ints), omega (arith, ints))
edges_bound (dimension ∷ rest) n below =
    let size = items_in rest in
    let index = index_below n dimension.0 size below in
    let behind = edges_bound rest (n % size) (mod-lt n (some_rest n dimension.0 size below)) in
    (sum_le _ _ _ _ (front_step (n / size) dimension.0 dimension.1 dimension.2 index) behind.0, sum_le _ _ _ _ (back_step (n / size) dimension.0 dimension.1 dimension.2 index) behind.1)

-- the index of an edge is one of the dimension
edge_index_below : (front : Bool) (shape : ℕ) (stride : ℤ) → 0 < shape → edge_index front shape stride < shape
edge_index_below true shape (pos stride) some = omega (arith, some)
edge_index_below true shape (negsuc stride) some = omega (arith, some)
edge_index_below false shape (pos stride) some = omega (arith, some)
edge_index_below false shape (negsuc stride) some = omega (arith, some)

-- a product that isn't 0 has no factor that is
pub some_shape : (shape rest : ℕ) → 0 < shape * rest → 0 < shape
some_shape zero rest some = absurd (omega (arith, some))
some_shape (suc shape) rest some = omega arith

-- all rows but the last and the last one are all
pub last_row : (shape size : ℕ) → 0 < shape → (shape - 1) * size + size ≡ shape * size
last_row zero size some = absurd (omega (arith, some))
last_row (suc shape) size some = let less : suc shape - 1 ≡ shape = omega arith in omega (arith, ap (λ n. n * size) less)

-- the edges are met, where there are items
pub edge_met : (front : Bool) (dimensions : List Dimension) → 0 < items_in dimensions → (n : ℕ) × (n < items_in dimensions) × (place_of dimensions n ≡ edge_of front dimensions)
edge_met front [] some = (0, omega arith, refl)
edge_met front (dimension ∷ rest) some =
    let size = items_in rest in
    let index = edge_index front dimension.0 dimension.1 in
    let below : index < dimension.0 = edge_index_below front dimension.0 dimension.1 (some_shape dimension.0 size some) in
    let behind = edge_met front rest (some_rest 0 dimension.0 size some) in
    let n = index * size + behind.0 in
    let place = row_and_place n index behind.0 size behind.1 refl in (
      n,
      omega (arith, behind.1, index_within index dimension.0 size below, some_shape dimension.0 size some, last_row dimension.0 size (some_shape dimension.0 size some)),
      ap (λ i. step_of i dimension +ℤ place_of rest (n % size)) place.0 ∙ ap (λ r. step_of index dimension +ℤ place_of rest r) place.1 ∙ ap (λ p. step_of index dimension +ℤ p) behind.2,
    )

-- without items there are no positions
pub no_positions : (dimensions : List Dimension) → items_in dimensions ≡ 0 → positions dimensions ≡ []
no_positions dimensions none = nil_from_length (positions dimensions) (positions_length dimensions ∙ none)

at_least : (a b : ℤ) → pos 0 ≤ℤ a → a ≤ℤ b → pos 0 ≤ℤ b
at_least a b p q = omega (arith, ints)

end_within : (a b : ℤ) (width n : ℕ) → a ≤ℤ b → (b +ℤ pos width) ≤ℤ pos n → (a +ℤ pos width) ≤ℤ pos n
end_within a b width n p q = omega (arith, ints)

-- one segment of those that lie within so many bytes
pub span_within : (dimensions : List Dimension) (width n k : ℕ) → k < items_in dimensions → Each (IsWithin n) (map (span width) (positions dimensions)) → IsWithin n (span width (place_of dimensions k))
span_within dimensions width n k item each =
    let is = get_or-map (span width) (positions dimensions) k (pos 0) (span width (pos 0)) (omega (arith, item, positions_length dimensions)) ∙ ap (span width) (positions_at dimensions k (pos 0) item) in
    subst (IsWithin n) is (each_at (IsWithin n) (map (span width) (positions dimensions)) k (span width (pos 0)) each (omega (arith, item, length-map (positions dimensions) (span width), positions_length dimensions)))

-- segments lie within so many bytes where the edges do
pub spans_within : (dimensions : List Dimension) (width n : ℕ) → pos 0 ≤ℤ edge_of true dimensions → (edge_of false dimensions +ℤ pos width) ≤ℤ pos n
    → Each (IsWithin n) (map (span width) (positions dimensions))
spans_within dimensions width n first last = each_from (IsWithin n) (map (span width) (positions dimensions)) (span width (pos 0)) (λ k below.
    let item : k < items_in dimensions = omega (arith, below, length-map (positions dimensions) (span width), positions_length dimensions) in
    let is = get_or-map (span width) (positions dimensions) k (pos 0) (span width (pos 0)) (omega (arith, item, positions_length dimensions)) ∙ ap (span width) (positions_at dimensions k (pos 0) item) in
    let bounds = edges_bound dimensions k item in
    subst (IsWithin n) (sym is) (at_least _ _ first bounds.0, end_within _ _ width n bounds.1 last))

-- where segments lie within so many bytes the edges do
pub edges_within : (dimensions : List Dimension) (width n : ℕ) → 0 < items_in dimensions → Each (IsWithin n) (map (span width) (positions dimensions))
    → (pos 0 ≤ℤ edge_of true dimensions) × ((edge_of false dimensions +ℤ pos width) ≤ℤ pos n)
edges_within dimensions width n some each =
    let first = edge_met true dimensions some in
    let last = edge_met false dimensions some in
    ((subst (λ (p : ℤ). IsWithin n (span width p)) first.2 (span_within dimensions width n first.0 first.1 each)).0, (subst (λ (p : ℤ). IsWithin n (span width p)) last.2 (span_within dimensions width n last.0 last.1 each)).1)
