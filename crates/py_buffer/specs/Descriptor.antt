-- What a descriptor says of the bytes that it describes, and which descriptors are valid: Python's buffer protocol.
use Rattle.std.specs.Prelude.{◌≡◌, ◌≢◌, ℕ, ◌+◌, ◌-◌, ◌*◌, ◌^◌, ◌<◌, ◌⊎◌, max, ℤ, pos, ◌≤ℤ◌, unsigned_abs, List, [], ◌∷◌}
use Rattle.py_buffer.specs.declared.descriptor.BufferDescriptor.{BufferDescriptor}

-- one dimension: how many entries it has, how many bytes lie from one to the next, and how many are added once
abbrev pub Dimension : Type 0
Dimension = ℕ × ℤ × ℤ

-- P holds of each element
abbrev pub Each : {X : Type 0} → (X → Type 0) → List X → Type 0
Each P [] = Unit {0}
Each P (x ∷ xs) = P x × Each P xs

-- how many items dimensions have: the product of their shapes
abbrev pub items_in : List Dimension → ℕ
items_in [] = 1
items_in (dimension ∷ rest) = dimension.0 * items_in rest

-- the product of the shapes, each 0 taken as 1
abbrev pub bound_of : List Dimension → ℕ
bound_of [] = 1
bound_of (dimension ∷ rest) = max dimension.0 1 * bound_of rest

-- how far from its base an item may begin: of each dimension its last index times the stride, whatever the sign, and the suboffset
abbrev pub reach_of : List Dimension → ℕ
reach_of [] = 0
reach_of (dimension ∷ rest) = (dimension.0 - 1) * unsigned_abs dimension.1 + unsigned_abs dimension.2 + reach_of rest

-- a dimension whose stride isn't 0 and whose suboffset isn't negative
abbrev pub IsSound : Dimension → Type 0
IsSound dimension = (dimension.1 ≢ pos 0) × (pos 0 ≤ℤ dimension.2)

-- a descriptor whose numbers belong together and fit: this is what `validate` accepts
pub record IsValid (descriptor : BufferDescriptor) : Type 0 where
  pub some_bytes : 0 < descriptor.itemsize
  pub some_dimension : descriptor.dim_desc.items ≢ []
  pub sound : Each IsSound descriptor.dim_desc.items
  pub all_bytes : items_in descriptor.dim_desc.items * descriptor.itemsize ≡ descriptor.len
  pub bounded : bound_of descriptor.dim_desc.items < 2 ^ 64
  pub within_reach : reach_of descriptor.dim_desc.items + descriptor.itemsize < 2 ^ 63

-- Contiguity.

-- items of this many bytes lie one after the other, in row order: no suboffset, and from the last dimension on each that has more
-- than one entry steps over all bytes of those after it
abbrev pub IsRowMajor : ℕ → List Dimension → Type 0
IsRowMajor itemsize [] = Unit {0}
IsRowMajor itemsize (dimension ∷ rest) = (dimension.2 ≡ pos 0) × (1 < dimension.0 → dimension.1 ≡ pos (items_in rest * itemsize)) × IsRowMajor itemsize rest

-- a descriptor's bytes are the first ones, in their order
abbrev pub IsContiguous : BufferDescriptor → Type 0
IsContiguous descriptor = (descriptor.len ≡ 0) ⊎ IsRowMajor descriptor.itemsize descriptor.dim_desc.items

-- some dimension has no entries
abbrev pub HasNoItems : List Dimension → Type 0
HasNoItems [] = ⊥
HasNoItems (dimension ∷ rest) = (dimension.0 ≡ 0) ⊎ HasNoItems rest
