-- Rows that are joined: the last dimension beside those before it.
use Rattle.std.proofs.Common.{◌≡◌, ◌≢◌, ℕ, zero, suc, ◌+◌, ◌-◌, ◌*◌, ◌^◌, ◌<◌, ◌≤◌, ◌⊎◌, inl, inr, max, ℤ, pos, ◌+ℤ◌, ◌*ℤ◌, ◌≤ℤ◌, unsigned_abs, Bool, true, false, List, [], ◌∷◌, ◌++◌, length, map, arith, refl, ap, ◌∙◌, sym, subst, length-append}
use lib.IntN.{+ℤ_assoc}
use Rattle.std.proofs.lemmas.Int.{ints}
use Rattle.std.proofs.lemmas.Bool.{and_parts, cases_lt}
use Rattle.std.proofs.lemmas.List.{take_at, drop_at}
use Rattle.std.specs.Cmp.{signed_Decides}
use Rattle.std.specs.Ordering.{int_eq}
use Rattle.py_buffer.specs.declared.descriptor.BufferDescriptor.{BufferDescriptor}
use Rattle.py_buffer.specs.Descriptor.{Dimension, Each, IsSound, IsValid, items_in, bound_of, reach_of}
use Rattle.py_buffer.specs.Position.{step_of}
use Rattle.py_buffer.specs.Segments.{span, positions, outer, last_of, is_row, rows_join, walked_of, width_of, spans, segments_of, IsWithin, Covers}
use Rattle.py_buffer.specs.Edges.{edge_index, edge_of}
use Rattle.py_buffer.proofs.Products.{product_grows}
use Rattle.py_buffer.proofs.Furthest.{no_positions, spans_within, edges_within, edges_bound, some_shape, last_row}

associates : (a b c : ℕ) → a * (b * c) ≡ a * b * c
associates a b c = omega arith

swapped : (z : ℤ) → z +ℤ pos 0 ≡ pos 0 +ℤ z
swapped z = omega (arith, ints)

row_end : (front shape size : ℕ) → front + (shape - 1) * size + size < 2 ^ 63 → front + shape * size < 2 ^ 63
row_end front zero size fits = omega (arith, fits)
row_end front (suc shape) size fits = omega (arith, fits, last_row (suc shape) size (omega arith))

-- a list that isn't empty is a front and a last element
pub front_and_last : {X : Type 0} (xs : List X) → xs ≢ [] → (front : List X) × (last : X) × (xs ≡ front ++ last ∷ [])
front_and_last [] some = absurd (some refl)
front_and_last (x ∷ []) some = ([], x, refl)
front_and_last (x ∷ y ∷ ys) some = let rest = front_and_last (y ∷ ys) (λ none. absurd (omega (arith, ap length none))) in (x ∷ rest.0, rest.1, ap (λ zs. x ∷ zs) rest.2)

-- the dimensions before the last one of a front and a last dimension are the front
pub outer_is : (front : List Dimension) (last : Dimension) → outer (front ++ last ∷ []) ≡ front
outer_is front last = take_at front (last ∷ []) _ (omega (arith, length-append front (last ∷ [])))

-- the last dimension of a front and a last dimension is the latter
pub last_is : (front : List Dimension) (last : Dimension) → last_of (front ++ last ∷ []) ≡ last ∷ []
last_is front last = drop_at front (last ∷ []) _ (omega (arith, length-append front (last ∷ [])))

-- the items of a front and a last dimension are those of the front, times its shape
pub items_split : (front : List Dimension) (last : Dimension) → items_in (front ++ last ∷ []) ≡ items_in front * last.0
items_split [] last = omega arith
items_split (dimension ∷ front) last = ap (λ n. dimension.0 * n) (items_split front last) ∙ omega arith

-- the bound of a front and a last dimension is that of the front, times its shape, 0 taken as 1
pub bound_split : (front : List Dimension) (last : Dimension) → bound_of (front ++ last ∷ []) ≡ bound_of front * max last.0 1
bound_split [] last = omega arith
bound_split (dimension ∷ front) last = ap (λ n. max dimension.0 1 * n) (bound_split front last) ∙ associates (max dimension.0 1) (bound_of front) (max last.0 1)

-- the reach of a front and a last dimension is that of the front, and its own
pub reach_split : (front : List Dimension) (last : Dimension) → reach_of (front ++ last ∷ []) ≡ reach_of front + ((last.0 - 1) * unsigned_abs last.1 + unsigned_abs last.2)
reach_split [] last = omega arith
reach_split (dimension ∷ front) last = omega (arith, reach_split front last)

-- the front of sound dimensions is sound
pub sound_split : (front : List Dimension) (last : Dimension) → Each IsSound (front ++ last ∷ []) → Each IsSound front
sound_split [] last sound = tt
sound_split (dimension ∷ front) last sound = (sound.0, sound_split front last sound.1)

-- an edge of a front and a last dimension is that of the front, moved along the last
pub edge_split : (first : Bool) (front : List Dimension) (last : Dimension) → edge_of first (front ++ last ∷ []) ≡ edge_of first front +ℤ step_of (edge_index first last.0 last.1) last
edge_split first [] last = swapped (step_of (edge_index first last.0 last.1) last)
edge_split first (dimension ∷ front) last =
    ap (λ z. step_of (edge_index first dimension.0 dimension.1) dimension +ℤ z) (edge_split first front last)
    ∙ sym (+ℤ_assoc (step_of (edge_index first dimension.0 dimension.1) dimension) (edge_of first front) (step_of (edge_index first last.0 last.1) last))

-- the last of dimensions whose rows can be joined: an item's stride, and no suboffset
pub row_is : (itemsize : ℕ) (front : List Dimension) (last : Dimension) → is_row itemsize (last_of (front ++ last ∷ [])) ≡ true → (last.1 ≡ pos itemsize) × (last.2 ≡ pos 0)
row_is itemsize front last row =
    let here : is_row itemsize (last ∷ []) ≡ true = ap (is_row itemsize) (sym (last_is front last)) ∙ row in
    let both = and_parts (int_eq last.1 (pos itemsize)) (int_eq last.2 (pos 0)) here in
    ((signed_Decides last.1 (pos itemsize)).0 both.0, (signed_Decides last.2 (pos 0)).0 both.1)

-- a joined row ends within reach
pub row_fits : (itemsize : ℕ) (front : List Dimension) (last : Dimension) → is_row itemsize (last_of (front ++ last ∷ [])) ≡ true
    → reach_of (front ++ last ∷ []) + itemsize < 2 ^ 63 → reach_of front + last.0 * itemsize < 2 ^ 63
row_fits itemsize front last row fits =
    let is = row_is itemsize front last row in
    let long : reach_of (front ++ last ∷ []) ≡ reach_of front + (last.0 - 1) * itemsize = reach_split front last ∙ ap (λ z. reach_of front + ((last.0 - 1) * unsigned_abs z + unsigned_abs last.2)) is.0 ∙ ap (λ z. reach_of front + ((last.0 - 1) * itemsize + unsigned_abs z)) is.1 ∙ omega arith in
    row_end (reach_of front) last.0 itemsize (omega (arith, long, fits))

-- the first dimensions are bounded where all are
pub outer_bounded : (front : List Dimension) (last : Dimension) → bound_of (front ++ last ∷ []) < 2 ^ 64 → bound_of front < 2 ^ 64
outer_bounded front last fits = let some : 1 ≤ max last.0 1 = omega arith in omega (arith, bound_split front last, fits, product_grows (bound_of front) (max last.0 1) some)

in_order : (a b c : ℤ) → a ≤ℤ b → b ≤ℤ c → a ≤ℤ c
in_order a b c p q = omega (arith, ints)

last_some : (front last : ℕ) → 0 < front * last → 0 < last
last_some front zero some = absurd (omega (arith, some))
last_some front (suc last) some = omega arith

first_entry : (shape itemsize : ℕ) (last : Dimension) → last.1 ≡ pos itemsize → last.2 ≡ pos 0 → step_of (edge_index true shape last.1) last ≡ pos 0
first_entry shape itemsize last is none = ap (λ z. pos (edge_index true shape z) *ℤ z +ℤ last.2) is ∙ ap (λ z. pos 0 *ℤ pos itemsize +ℤ z) none ∙ omega (arith, ints)

last_entry : (shape itemsize : ℕ) (last : Dimension) → last.1 ≡ pos itemsize → last.2 ≡ pos 0 → step_of (edge_index false shape last.1) last ≡ pos ((shape - 1) * itemsize)
last_entry shape itemsize last is none = ap (λ z. pos (edge_index false shape z) *ℤ z +ℤ last.2) is ∙ ap (λ z. pos (shape - 1) *ℤ pos itemsize +ℤ z) none ∙ omega (arith, ints)

as_before : (z : ℤ) → pos 0 ≤ℤ z → pos 0 ≤ℤ (z +ℤ pos 0)
as_before z h = omega (arith, ints)

row_within : (z : ℤ) (shape size n : ℕ) → 0 < shape → (z +ℤ pos (shape * size)) ≤ℤ pos n → (z +ℤ pos ((shape - 1) * size) +ℤ pos size) ≤ℤ pos n
row_within z shape size n some h = omega (arith, ints, last_row shape size some)

-- the items of rows that lie within so many bytes lie within them too
rows_hold : (itemsize : ℕ) (front : List Dimension) (last : Dimension) (n : ℕ) → is_row itemsize (last_of (front ++ last ∷ [])) ≡ true
    → Each (IsWithin n) (map (span (last.0 * itemsize)) (positions front)) → (0 < items_in (front ++ last ∷ [])) ⊎ (items_in (front ++ last ∷ []) ≤ 0)
    → Each (IsWithin n) (map (span itemsize) (positions (front ++ last ∷ [])))
rows_hold itemsize front last n row each (inr none) = subst (λ (xs : List ℤ). Each (IsWithin n) (map (span itemsize) xs)) (sym (no_positions (front ++ last ∷ []) (omega (arith, none)))) tt
rows_hold itemsize front last n row each (inl some) =
    let is = row_is itemsize front last row in
    let shape : 0 < last.0 = last_some (items_in front) last.0 (omega (arith, some, items_split front last)) in
    let edges = edges_within front (last.0 * itemsize) n (some_shape (items_in front) last.0 (omega (arith, some, items_split front last))) each in
    let first = edge_split true front last ∙ ap (λ z. edge_of true front +ℤ z) (first_entry last.0 itemsize last is.0 is.1) in
    let end = edge_split false front last ∙ ap (λ z. edge_of false front +ℤ z) (last_entry last.0 itemsize last is.0 is.1) in
    spans_within (front ++ last ∷ []) itemsize n (subst (λ (z : ℤ). pos 0 ≤ℤ z) (sym first) (as_before _ edges.0))
    (subst (λ (z : ℤ). (z +ℤ pos itemsize) ≤ℤ pos n) (sym end) (row_within _ last.0 itemsize n shape edges.1))

-- where the rows lie within so many bytes, so do the items
by_rows : (itemsize : ℕ) (dimensions : List Dimension) (n : ℕ) (joined : Bool) → dimensions ≢ [] → is_row itemsize (last_of dimensions) ≡ joined
    → Each (IsWithin n) (spans joined itemsize dimensions) → Each (IsWithin n) (spans false itemsize dimensions)
by_rows itemsize dimensions n false some row each = each
by_rows itemsize dimensions n true some row each =
    let parts = front_and_last dimensions some in
    let front = parts.0 in
    let last = parts.1 in
    let row' : is_row itemsize (last_of (front ++ last ∷ [])) ≡ true = ap (λ ds. is_row itemsize (last_of ds)) (sym parts.2) ∙ row in
    let each' : Each (IsWithin n) (spans true itemsize (front ++ last ∷ [])) = subst (λ (ds : List Dimension). Each (IsWithin n) (spans true itemsize ds)) parts.2 each in
    let width : items_in (last_of (front ++ last ∷ [])) * itemsize ≡ last.0 * itemsize = ap (λ ds. items_in ds * itemsize) (last_is front last) ∙ omega arith in
    let rows : Each (IsWithin n) (map (span (last.0 * itemsize)) (positions front)) =
    subst (λ (w : ℕ). Each (IsWithin n) (map (span w) (positions front))) width (subst (λ (ds : List Dimension). Each (IsWithin n) (map (span (items_in (last_of (front ++ last ∷ [])) * itemsize)) (positions ds))) (outer_is front last) each') in
    subst (λ (ds : List Dimension). Each (IsWithin n) (spans false itemsize ds)) (sym parts.2) (rows_hold itemsize front last n row' rows (cases_lt 0 (items_in (front ++ last ∷ []))))

-- a descriptor covers so many bytes where its joined segments lie within them
pub covers_by_rows : (descriptor : BufferDescriptor) (n : ℕ) → IsValid descriptor → Each (IsWithin n) (segments_of descriptor true) → Covers descriptor n
covers_by_rows descriptor n valid each = record { rows = each; items = by_rows descriptor.itemsize descriptor.dim_desc.items n (rows_join descriptor) valid.some_dimension refl each }

-- without segments a descriptor covers any number of bytes
pub covers_none : (descriptor : BufferDescriptor) (n : ℕ) → IsValid descriptor → items_in (walked_of (rows_join descriptor) descriptor.dim_desc.items) ≡ 0 → Covers descriptor n
covers_none descriptor n valid none = covers_by_rows descriptor n valid (subst (λ (xs : List ℤ). Each (IsWithin n) (map (span (width_of (rows_join descriptor) descriptor.itemsize descriptor.dim_desc.items)) xs)) (sym (no_positions _ none)) tt)

-- a descriptor covers so many bytes where the items that lie furthest out lie within them
pub covers_by_edges : (descriptor : BufferDescriptor) (n : ℕ) (walked : List Dimension) (width : ℕ) → IsValid descriptor
    → walked ≡ walked_of (rows_join descriptor) descriptor.dim_desc.items → width ≡ width_of (rows_join descriptor) descriptor.itemsize descriptor.dim_desc.items
    → pos 0 ≤ℤ edge_of true walked → (edge_of false walked +ℤ pos width) ≤ℤ pos n → Covers descriptor n
covers_by_edges descriptor n walked width valid is wide first last =
    covers_by_rows descriptor n valid
    (subst (λ (w : ℕ). Each (IsWithin n) (map (span w) (positions (walked_of (rows_join descriptor) descriptor.dim_desc.items)))) wide
    (subst (λ (ds : List Dimension). Each (IsWithin n) (map (span width) (positions ds))) is (spans_within walked width n first last)))

-- of a descriptor that covers so many bytes the items that lie furthest out lie within them
pub edges_by_covers : (descriptor : BufferDescriptor) (n : ℕ) (walked : List Dimension) (width : ℕ)
    → walked ≡ walked_of (rows_join descriptor) descriptor.dim_desc.items → width ≡ width_of (rows_join descriptor) descriptor.itemsize descriptor.dim_desc.items
    → 0 < items_in walked → Covers descriptor n → (pos 0 ≤ℤ edge_of true walked) × ((edge_of false walked +ℤ pos width) ≤ℤ pos n)
edges_by_covers descriptor n walked width is wide some covers =
    edges_within walked width n some
    (subst (λ (ds : List Dimension). Each (IsWithin n) (map (span width) (positions ds))) (sym is)
    (subst (λ (w : ℕ). Each (IsWithin n) (map (span w) (positions (walked_of (rows_join descriptor) descriptor.dim_desc.items)))) (sym wide) covers.rows))

-- the front edge isn't behind the back one
pub edges_in_order : (walked : List Dimension) → 0 < items_in walked → edge_of true walked ≤ℤ edge_of false walked
edges_in_order walked some = let bounds = edges_bound walked 0 some in in_order (edge_of true walked) _ (edge_of false walked) bounds.0 bounds.1
