-- The bytes of segments: of items that lie in row order, and of rows that are joined.
use Rattle.std.proofs.Common.{◌≡◌, ◌≢◌, ℕ, zero, suc, ◌+◌, ◌-◌, ◌*◌, ◌<◌, ◌≤◌, ◌⊎◌, inl, inr, min, ℤ, pos, negsuc, ◌+ℤ◌, ◌*ℤ◌, ◌≤ℤ◌, unsigned_abs, Bool, true, false, List, [], ◌∷◌, ◌++◌, length, map, take, drop, arith, refl, ap, ◌∙◌, sym, subst, length-append, append_assoc}
use lib.IntN.{+ℤ_assoc}
use Rattle.std.proofs.lemmas.Int.{ints}
use Rattle.std.proofs.lemmas.Bool.{cases_lt}
use Rattle.std.proofs.lemmas.List.{map-append, drop-drop, append-nil, length-take, length-drop}
use Rattle.py_buffer.specs.declared.descriptor.BufferDescriptor.{BufferDescriptor}
use Rattle.py_buffer.specs.Descriptor.{Dimension, Each, IsValid, IsContiguous, IsRowMajor, items_in}
use Rattle.py_buffer.specs.Position.{step_of}
use Rattle.py_buffer.specs.Segments.{Span, span, rows, moved, positions, lent, gathered, IsWithin, IsOrdered, Covers, segments_of, spans, bytes_of, rows_join, is_row, last_of}
use Rattle.py_buffer.proofs.Places.{positions_length}
use Rattle.py_buffer.proofs.Furthest.{no_positions}
use Rattle.py_buffer.proofs.Rows.{front_and_last, outer_is, last_is, row_is}

nothing : {X : Type 0} (n : ℕ) → take {A = X} n [] ≡ []
nothing zero = refl
nothing (suc n) = refl

-- the first bytes of a list in two parts
take_in_two : {X : Type 0} (m n : ℕ) (xs : List X) → take (m + n) xs ≡ take m xs ++ take n (drop m xs)
take_in_two zero n xs = ap (λ k. take k xs) {x = 0 + n} {y = n} (omega arith)
take_in_two (suc m) n [] = nothing (suc m + n) ∙ sym (nothing n)
take_in_two (suc m) n (x ∷ xs) = ap (λ k. take k (x ∷ xs)) {x = suc m + n} {y = suc (m + n)} (omega arith) ∙ ap (λ ys. x ∷ ys) (take_in_two m n xs)

-- the bytes of an item that begins at a number
lent_at : (bytes : List ℕ) (width base : ℕ) → lent bytes (span width (pos base)) ≡ take width (drop base bytes)
lent_at bytes width base = ap (λ k. take k (drop base bytes)) (omega arith)

-- the bytes of segments one after the other are those of the first and those of the rest
gathered_append : (bytes : List ℕ) (xs ys : List Span) → gathered bytes (xs ++ ys) ≡ gathered bytes xs ++ gathered bytes ys
gathered_append bytes [] ys = refl
gathered_append bytes (x ∷ xs) ys = ap (λ zs. lent bytes x ++ zs) (gathered_append bytes xs ys) ∙ sym (append_assoc (lent bytes x) (gathered bytes xs) (gathered bytes ys))

-- positions moved twice are moved once
moved_moved : (s t : ℤ) (ps : List ℤ) → moved s (moved t ps) ≡ moved (s +ℤ t) ps
moved_moved s t [] = refl
moved_moved s t (p ∷ ps) = ap (λ q. q ∷ moved s (moved t ps)) (sym (+ℤ_assoc s t p)) ∙ ap (λ qs. (s +ℤ t +ℤ p) ∷ qs) (moved_moved s t ps)

-- positions that aren't moved stay
not_moved : (ps : List ℤ) → moved (pos 0) ps ≡ ps
not_moved [] = refl
not_moved (p ∷ ps) = ap (λ q. q ∷ moved (pos 0) ps) (omega (arith, ints)) ∙ ap (λ qs. p ∷ qs) (not_moved ps)

at_first : (stride : ℤ) → pos 0 *ℤ stride +ℤ pos 0 ≡ pos 0
at_first stride = omega (arith, ints)

row_step_by : (dimension : Dimension) (size n : ℕ) → dimension.2 ≡ pos 0 → (1 < dimension.0 → dimension.1 ≡ pos size) → n < dimension.0 → (1 < dimension.0) ⊎ (dimension.0 ≤ 1) → step_of n dimension ≡ pos (n * size)
row_step_by dimension size n flat follows below (inl more) = ap (λ z. pos n *ℤ z +ℤ dimension.2) (follows more) ∙ ap (λ z. pos n *ℤ pos size +ℤ z) flat ∙ omega (arith, ints)
row_step_by dimension size n flat follows below (inr one) =
    let first : n ≡ 0 = omega (arith, below, one) in
    ap (λ z. pos n *ℤ dimension.1 +ℤ z) flat ∙ ap (λ k. pos k *ℤ dimension.1 +ℤ pos 0) first ∙ at_first dimension.1 ∙ ap pos (sym (ap (λ k. k * size) first ∙ omega arith))

-- how far an index leads in a dimension whose entries lie one after the other
row_step : (dimension : Dimension) (size n : ℕ) → dimension.2 ≡ pos 0 → (1 < dimension.0 → dimension.1 ≡ pos size) → n < dimension.0 → step_of n dimension ≡ pos (n * size)
row_step dimension size n flat follows below = row_step_by dimension size n flat follows below (cases_lt 1 dimension.0)

-- the bytes of the first rows
rows_gathered : (bytes : List ℕ) (itemsize size base n : ℕ) (dimension : Dimension) (rest : List Dimension)
    → dimension.2 ≡ pos 0 → (1 < dimension.0 → dimension.1 ≡ pos size) → n ≤ dimension.0
    → ((base : ℕ) → gathered bytes (map (span itemsize) (moved (pos base) (positions rest))) ≡ take size (drop base bytes))
    → gathered bytes (map (span itemsize) (moved (pos base) (rows n (λ index. moved (step_of index dimension) (positions rest))))) ≡ take (n * size) (drop base bytes)
rows_gathered bytes itemsize size base zero dimension rest flat follows below behind = sym (ap (λ k. take k (drop base bytes)) {x = 0 * size} {y = 0} (omega arith))
rows_gathered bytes itemsize size base (suc n) dimension rest flat follows below behind =
    let before = rows n (λ index. moved (step_of index dimension) (positions rest)) in
    let here = moved (step_of n dimension) (positions rest) in
    ap (λ ps. gathered bytes (map (span itemsize) ps)) (map-append (λ p. pos base +ℤ p) before here)
    ∙ ap (gathered bytes) (map-append (span itemsize) (moved (pos base) before) (moved (pos base) here))
    ∙ gathered_append bytes (map (span itemsize) (moved (pos base) before)) (map (span itemsize) (moved (pos base) here))
    ∙ ap (λ bs. bs ++ gathered bytes (map (span itemsize) (moved (pos base) here))) (rows_gathered bytes itemsize size base n dimension rest flat follows (omega (arith, below)) behind)
    ∙ ap (λ ps. take (n * size) (drop base bytes) ++ gathered bytes (map (span itemsize) ps)) (moved_moved (pos base) (step_of n dimension) (positions rest))
    ∙ ap (λ s. take (n * size) (drop base bytes) ++ gathered bytes (map (span itemsize) (moved (pos base +ℤ s) (positions rest)))) (row_step dimension size n flat follows (omega (arith, below)))
    ∙ ap (λ bs. take (n * size) (drop base bytes) ++ bs) (behind (base + n * size))
    ∙ ap (λ bs. take (n * size) (drop base bytes) ++ take size bs) (sym (drop-drop (n * size) base bytes))
    ∙ sym (take_in_two (n * size) size (drop base bytes))
    ∙ ap (λ k. take k (drop base bytes)) {x = n * size + size} {y = suc n * size} (omega arith)

-- items that lie in row order from a base on are the bytes from there on
pub row_major_gathered : (bytes : List ℕ) (itemsize : ℕ) (dimensions : List Dimension) → IsRowMajor itemsize dimensions → (base : ℕ)
    → gathered bytes (map (span itemsize) (moved (pos base) (positions dimensions))) ≡ take (items_in dimensions * itemsize) (drop base bytes)
row_major_gathered bytes itemsize [] row base =
    ap (λ z. lent bytes (span itemsize z) ++ []) {x = pos base +ℤ pos 0} {y = pos base} (omega (arith, ints)) ∙ append-nil (lent bytes (span itemsize (pos base))) ∙ lent_at bytes itemsize base ∙ ap (λ k. take k (drop base bytes)) {x = itemsize} {y = 1 * itemsize} (omega arith)
row_major_gathered bytes itemsize (dimension ∷ rest) row base =
    rows_gathered bytes itemsize (items_in rest * itemsize) base dimension.0 dimension rest row.0 row.1 (omega arith) (row_major_gathered bytes itemsize rest row.2)
    ∙ ap (λ k. take k (drop base bytes)) {x = dimension.0 * (items_in rest * itemsize)} {y = dimension.0 * items_in rest * itemsize} (omega arith)

-- a product that is 0 with a factor that isn't
no_factor : (items size : ℕ) → 0 < size → items * size ≡ 0 → items ≡ 0
no_factor zero size some none = refl
no_factor (suc items) zero some none = absurd (omega (arith, some))
no_factor (suc items) (suc size) some none = absurd (omega (arith, none))

-- the bytes of a contiguous descriptor are the first ones
pub contiguous_bytes : (descriptor : BufferDescriptor) (bytes : List ℕ) → IsValid descriptor → IsContiguous descriptor → bytes_of descriptor bytes ≡ take descriptor.len bytes
contiguous_bytes descriptor bytes valid (inl none) =
    ap (λ ps. gathered bytes (map (span descriptor.itemsize) ps)) (no_positions descriptor.dim_desc.items (no_factor (items_in descriptor.dim_desc.items) descriptor.itemsize valid.some_bytes (valid.all_bytes ∙ none)))
    ∙ ap (λ k. take k bytes) (sym none)
contiguous_bytes descriptor bytes valid (inr row) =
    ap (λ ps. gathered bytes (map (span descriptor.itemsize) ps)) (sym (not_moved (positions descriptor.dim_desc.items)))
    ∙ row_major_gathered bytes descriptor.itemsize descriptor.dim_desc.items row 0
    ∙ ap (λ k. take k bytes) valid.all_bytes

-- Joined rows.

-- what holds of a list holds of both its parts
each_split : {X : Type 0} (P : X → Type 0) (xs ys : List X) → Each P (xs ++ ys) → Each P xs × Each P ys
each_split P [] ys each = (tt, each)
each_split P (x ∷ xs) ys each = let rest = each_split P xs ys each.1 in ((each.0, rest.0), rest.1)

-- a position that isn't negative
abbrev pub IsForward : ℤ → Type 0
IsForward position = pos 0 ≤ℤ position

-- a joined row has the bytes of its items
row_joined : (bytes : List ℕ) (itemsize : ℕ) (last : Dimension) → last.1 ≡ pos itemsize → last.2 ≡ pos 0 → (s : ℤ) → pos 0 ≤ℤ (s +ℤ pos 0)
    → gathered bytes (map (span itemsize) (moved s (positions (last ∷ [])))) ≡ gathered bytes (map (span (last.0 * itemsize)) (moved s (positions [])))
row_joined bytes itemsize last follows flat (pos base) forward =
    row_major_gathered bytes itemsize (last ∷ []) (flat, (λ more. follows ∙ ap pos (omega arith)), tt) base
    ∙ ap (λ k. take k (drop base bytes)) {x = last.0 * 1 * itemsize} {y = last.0 * itemsize} (omega arith)
    ∙ sym (lent_at bytes (last.0 * itemsize) base)
    ∙ sym (append-nil (lent bytes (span (last.0 * itemsize) (pos base))))
    ∙ ap (λ z. lent bytes (span (last.0 * itemsize) z) ++ []) {x = pos base} {y = pos base +ℤ pos 0} (omega (arith, ints))
row_joined bytes itemsize last follows flat (negsuc before) forward = absurd (omega (arith, ints, forward))

in_parts : (bytes : List ℕ) (width : ℕ) (s : ℤ) (xs ys : List ℤ) → gathered bytes (map (span width) (moved s (xs ++ ys))) ≡ gathered bytes (map (span width) (moved s xs)) ++ gathered bytes (map (span width) (moved s ys))
in_parts bytes width s xs ys =
    ap (λ ps. gathered bytes (map (span width) ps)) (map-append (λ p. s +ℤ p) xs ys)
    ∙ ap (gathered bytes) (map-append (span width) (moved s xs) (moved s ys))
    ∙ gathered_append bytes (map (span width) (moved s xs)) (map (span width) (moved s ys))

-- the first rows joined have the bytes of their items
rows_joined : (bytes : List ℕ) (itemsize n : ℕ) (dimension last : Dimension) (rest : List Dimension) (s : ℤ)
    → Each IsForward (moved s (rows n (λ index. moved (step_of index dimension) (positions rest))))
    → ((s : ℤ) → Each IsForward (moved s (positions rest)) → gathered bytes (map (span itemsize) (moved s (positions (rest ++ last ∷ [])))) ≡ gathered bytes (map (span (last.0 * itemsize)) (moved s (positions rest))))
    → gathered bytes (map (span itemsize) (moved s (rows n (λ index. moved (step_of index dimension) (positions (rest ++ last ∷ [])))))) ≡ gathered bytes (map (span (last.0 * itemsize)) (moved s (rows n (λ index. moved (step_of index dimension) (positions rest)))))
rows_joined bytes itemsize zero dimension last rest s forward behind = refl
rows_joined bytes itemsize (suc n) dimension last rest s forward behind =
    let wide = last.0 * itemsize in
    let items = rows n (λ index. moved (step_of index dimension) (positions (rest ++ last ∷ []))) in
    let starts = rows n (λ index. moved (step_of index dimension) (positions rest)) in
    let item = moved (step_of n dimension) (positions (rest ++ last ∷ [])) in
    let start = moved (step_of n dimension) (positions rest) in
    let parts = each_split IsForward (moved s starts) (moved s start) (subst (λ (ps : List ℤ). Each IsForward ps) (map-append (λ p. s +ℤ p) starts start) forward) in
    in_parts bytes itemsize s items item
    ∙ ap (λ bs. bs ++ gathered bytes (map (span itemsize) (moved s item))) (rows_joined bytes itemsize n dimension last rest s parts.0 behind)
    ∙ ap (λ ps. gathered bytes (map (span wide) (moved s starts)) ++ gathered bytes (map (span itemsize) ps)) (moved_moved s (step_of n dimension) (positions (rest ++ last ∷ [])))
    ∙ ap (λ bs. gathered bytes (map (span wide) (moved s starts)) ++ bs) (behind (s +ℤ step_of n dimension) (subst (λ (ps : List ℤ). Each IsForward ps) (moved_moved s (step_of n dimension) (positions rest)) parts.1))
    ∙ ap (λ ps. gathered bytes (map (span wide) (moved s starts)) ++ gathered bytes (map (span wide) ps)) (sym (moved_moved s (step_of n dimension) (positions rest)))
    ∙ sym (in_parts bytes wide s starts start)

-- all rows joined have the bytes of their items
all_joined : (bytes : List ℕ) (itemsize : ℕ) (front : List Dimension) (last : Dimension) → last.1 ≡ pos itemsize → last.2 ≡ pos 0 → (s : ℤ) → Each IsForward (moved s (positions front))
    → gathered bytes (map (span itemsize) (moved s (positions (front ++ last ∷ [])))) ≡ gathered bytes (map (span (last.0 * itemsize)) (moved s (positions front)))
all_joined bytes itemsize [] last follows flat s forward = row_joined bytes itemsize last follows flat s forward.0
all_joined bytes itemsize (dimension ∷ front) last follows flat s forward = rows_joined bytes itemsize dimension.0 dimension last front s forward (all_joined bytes itemsize front last follows flat)

-- segments within some bytes begin at no negative place
starts_forward : (n width : ℕ) (ps : List ℤ) → Each (IsWithin n) (map (span width) ps) → Each IsForward (moved (pos 0) ps)
starts_forward n width [] each = tt
starts_forward n width (p ∷ ps) each = (subst (λ (z : ℤ). pos 0 ≤ℤ z) (omega (arith, ints)) each.0.0, starts_forward n width ps each.1)

joined_or_not : (bytes : List ℕ) (itemsize : ℕ) (dimensions : List Dimension) (joined : Bool) → dimensions ≢ [] → is_row itemsize (last_of dimensions) ≡ joined
    → Each (IsWithin (length bytes)) (spans joined itemsize dimensions) → gathered bytes (spans joined itemsize dimensions) ≡ gathered bytes (spans false itemsize dimensions)
joined_or_not bytes itemsize dimensions false some row each = refl
joined_or_not bytes itemsize dimensions true some row each =
    let parts = front_and_last dimensions some in
    let front = parts.0 in
    let last = parts.1 in
    let is = row_is itemsize front last (ap (λ ds. is_row itemsize (last_of ds)) (sym parts.2) ∙ row) in
    let width : items_in (last_of (front ++ last ∷ [])) * itemsize ≡ last.0 * itemsize = ap (λ ds. items_in ds * itemsize) (last_is front last) ∙ omega arith in
    let whole : spans true itemsize (front ++ last ∷ []) ≡ map (span (last.0 * itemsize)) (positions front) =
    ap (λ ds. map (span (items_in (last_of (front ++ last ∷ [])) * itemsize)) (positions ds)) (outer_is front last) ∙ ap (λ w. map (span w) (positions front)) width in
    let all : Each (IsWithin (length bytes)) (map (span (last.0 * itemsize)) (positions front)) =
    subst (λ (xs : List Span). Each (IsWithin (length bytes)) xs) whole (subst (λ (ds : List Dimension). Each (IsWithin (length bytes)) (spans true itemsize ds)) parts.2 each) in
    ap (λ ds. gathered bytes (spans true itemsize ds)) parts.2
    ∙ ap (gathered bytes) whole
    ∙ ap (λ ps. gathered bytes (map (span (last.0 * itemsize)) ps)) (sym (not_moved (positions front)))
    ∙ sym (all_joined bytes itemsize front last is.0 is.1 (pos 0) (starts_forward (length bytes) (last.0 * itemsize) (positions front) all))
    ∙ ap (λ ps. gathered bytes (map (span itemsize) ps)) (not_moved (positions (front ++ last ∷ [])))
    ∙ ap (λ ds. gathered bytes (spans false itemsize ds)) (sym parts.2)

-- joined rows give the same bytes as item by item
pub joined_bytes : (descriptor : BufferDescriptor) (bytes : List ℕ) → IsValid descriptor → Covers descriptor (length bytes) → gathered bytes (segments_of descriptor true) ≡ bytes_of descriptor bytes
joined_bytes descriptor bytes valid covers = joined_or_not bytes descriptor.itemsize descriptor.dim_desc.items (rows_join descriptor) valid.some_dimension refl covers.rows

-- Lengths.

within_width : (p width n : ℕ) → (pos p +ℤ pos width) ≤ℤ pos n → min width (n - p) ≡ width
within_width p width n end = let fits : p + width ≤ n = omega (arith, ints, end) in omega (arith, fits)

-- segments within some bytes have as many as their widths
gathered_length : (bytes : List ℕ) (width : ℕ) (ps : List ℤ) → Each (IsWithin (length bytes)) (map (span width) ps) → length (gathered bytes (map (span width) ps)) ≡ length ps * width
gathered_length bytes width [] each = omega arith
gathered_length bytes width (pos p ∷ ps) each =
    length-append (lent bytes (span width (pos p))) (gathered bytes (map (span width) ps))
    ∙ ap (λ k. k + length (gathered bytes (map (span width) ps))) (ap length (lent_at bytes width p) ∙ length-take width (drop p bytes) ∙ ap (λ k. min width k) (length-drop p bytes) ∙ within_width p width (length bytes) each.0.1)
    ∙ omega (arith, gathered_length bytes width ps each.1)
gathered_length bytes width (negsuc p ∷ ps) each = absurd (omega (arith, ints, each.0.0))

-- the bytes of a descriptor that covers no more than there are number its `len`
pub bytes_length : (descriptor : BufferDescriptor) (bytes : List ℕ) → IsValid descriptor → Covers descriptor (length bytes) → length (bytes_of descriptor bytes) ≡ descriptor.len
bytes_length descriptor bytes valid covers =
    gathered_length bytes descriptor.itemsize (positions descriptor.dim_desc.items) covers.items
    ∙ ap (λ k. k * descriptor.itemsize) (positions_length descriptor.dim_desc.items) ∙ valid.all_bytes

-- a contiguous descriptor that covers no more than there are has no more bytes
pub contiguous_within : (descriptor : BufferDescriptor) (bytes : List ℕ) → IsValid descriptor → Covers descriptor (length bytes) → IsContiguous descriptor → descriptor.len ≤ length bytes
contiguous_within descriptor bytes valid covers contiguous = omega (arith, bytes_length descriptor bytes valid covers, ap length (contiguous_bytes descriptor bytes valid contiguous), length-take descriptor.len bytes)

-- Slices.

-- no segment ends before it starts
pub spans_ordered : (width : ℕ) (ps : List ℤ) → Each IsOrdered (map (span width) ps)
spans_ordered width [] = tt
spans_ordered width (p ∷ ps) = (omega (arith, ints), spans_ordered width ps)

-- the bytes of a segment, by bounds as the code has them
pub lent_by : (bytes : List ℕ) (segment : Span) (a b : ℕ) → a ≡ unsigned_abs segment.start → b ≡ unsigned_abs segment.end → take (b - a) (drop a bytes) ≡ lent bytes segment
lent_by bytes segment a b starts ends = ap (λ k. take (b - k) (drop k bytes)) starts ∙ ap (λ k. take (k - unsigned_abs segment.start) (drop (unsigned_abs segment.start) bytes)) ends
