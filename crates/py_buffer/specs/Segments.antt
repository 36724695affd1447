-- The segments of a descriptor: the ranges of bytes that hold its items, in row order. Python's buffer protocol.
use Rattle.std.specs.Prelude.{ℕ, zero, suc, ◌-◌, ◌*◌, ◌/◌, ◌%◌, ℤ, pos, ◌+ℤ◌, ◌≤ℤ◌, unsigned_abs, Bool, true, false, ◌&&◌, List, [], ◌∷◌, ◌++◌, length, map, take, drop, slice_range}
use Rattle.std.specs.Ordering.{int_eq}
use Rattle.std.specs.declared.ops.Range.{Range}
use Rattle.py_buffer.specs.declared.descriptor.BufferDescriptor.{BufferDescriptor}
use Rattle.py_buffer.specs.Descriptor.{Dimension, Each, items_in}
use Rattle.py_buffer.specs.Position.{step_of}

-- a range of bytes, from its start to before its end
abbrev pub Span : Type 0
Span = Range ℤ

-- the lists of the numbers 0 to before n, one after the other
abbrev pub rows : {X : Type 0} → ℕ → (ℕ → List X) → List X
rows zero row = []
rows (suc n) row = rows n row ++ row n

-- each of some places moved by a step
abbrev pub moved : ℤ → List ℤ → List ℤ
moved step positions = map (λ position. step +ℤ position) positions

-- where the items begin, in row order: the last index moves first
abbrev pub positions : List Dimension → List ℤ
positions [] = pos 0 ∷ []
positions (dimension ∷ rest) = rows dimension.0 (λ index. moved (step_of index dimension) (positions rest))

-- where the item of a number in row order begins
abbrev pub place_of : List Dimension → ℕ → ℤ
place_of [] number = pos 0
place_of (dimension ∷ rest) number = step_of (number / items_in rest) dimension +ℤ place_of rest (number % items_in rest)

-- a range of so many bytes from a position on
abbrev pub span : ℕ → ℤ → Span
span width position = record { start = position; end = position +ℤ pos width }

-- Rows.

-- the dimensions but for the last
abbrev pub outer : List Dimension → List Dimension
outer dimensions = take (length dimensions - 1) dimensions

-- the last dimension, alone in its list
abbrev pub last_of : List Dimension → List Dimension
last_of dimensions = drop (length dimensions - 1) dimensions

-- the items of a row lie one after the other: no suboffset, and a stride of an item's bytes
abbrev pub is_row : ℕ → List Dimension → Bool
is_row itemsize [] = false
is_row itemsize (dimension ∷ rest) = int_eq dimension.1 (pos itemsize) && int_eq dimension.2 (pos 0)

-- rows can be joined to one segment each
abbrev pub rows_join : BufferDescriptor → Bool
rows_join descriptor = is_row descriptor.itemsize (last_of descriptor.dim_desc.items)

-- the dimensions whose indices move from one segment to the next: all; or, joined, all but the last
abbrev pub walked_of : Bool → List Dimension → List Dimension
walked_of false dimensions = dimensions
walked_of true dimensions = outer dimensions

-- how many bytes a segment has: those of an item; or, joined, of a row
abbrev pub width_of : Bool → ℕ → List Dimension → ℕ
width_of false itemsize dimensions = itemsize
width_of true itemsize dimensions = items_in (last_of dimensions) * itemsize

-- the segments one by one: each item; or, joined, each last row, an empty one too
abbrev pub spans : Bool → ℕ → List Dimension → List Span
spans joined itemsize dimensions = map (span (width_of joined itemsize dimensions)) (positions (walked_of joined dimensions))

-- the segments of a descriptor, joined where that is asked for and its rows can be
abbrev pub segments_of : BufferDescriptor → Bool → List Span
segments_of descriptor joined = spans (joined && rows_join descriptor) descriptor.itemsize descriptor.dim_desc.items

-- two lists side by side, as far as both go
abbrev pub side_by_side : {X Y : Type 0} → List X → List Y → List (X × Y)
side_by_side (x ∷ xs) (y ∷ ys) = (x, y) ∷ side_by_side xs ys
side_by_side xs ys = []

-- the segments of two descriptors of the same shapes, side by side: joined where that is asked for and the rows of both can be
abbrev pub paired_segments : BufferDescriptor → BufferDescriptor → Bool → List (Span × Span)
paired_segments descriptor other joined =
    let both = joined && rows_join descriptor && rows_join other in
    side_by_side (segments_of descriptor both) (segments_of other both)

-- Among bytes.

-- a range that lies within the first n bytes
abbrev pub IsWithin : ℕ → Span → Type 0
IsWithin n segment = (pos 0 ≤ℤ segment.start) × (segment.end ≤ℤ pos n)

-- a segment that doesn't end before it starts
abbrev pub IsOrdered : Span → Type 0
IsOrdered segment = segment.start ≤ℤ segment.end

-- each segment, joined or single, an empty one too, lies within the first n bytes
pub record Covers (descriptor : BufferDescriptor) (n : ℕ) : Type 0 where
  pub rows : Each (IsWithin n) (segments_of descriptor true)
  pub items : Each (IsWithin n) (segments_of descriptor false)

-- the bytes of a range
abbrev pub lent : List ℕ → Span → List ℕ
lent bytes segment = slice_range bytes (unsigned_abs segment.start) (unsigned_abs segment.end)

-- the bytes of some ranges, one after the other
abbrev pub gathered : List ℕ → List Span → List ℕ
gathered bytes [] = []
gathered bytes (segment ∷ rest) = lent bytes segment ++ gathered bytes rest

-- the bytes that a descriptor describes, in row order
abbrev pub bytes_of : BufferDescriptor → List ℕ → List ℕ
bytes_of descriptor bytes = gathered bytes (segments_of descriptor false)
