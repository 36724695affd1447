-- Where an item begins, counted in bytes: Python's buffer protocol.
use Rattle.std.specs.Prelude.{ℕ, ◌+◌, ◌-◌, ◌<◌, ℤ, pos, negsuc, ◌+ℤ◌, ◌*ℤ◌, List, [], ◌∷◌, Option, Some, None, if◌then◌else◌, nat_lt, Result, Ok, Err}
use Rattle.py_flat.specs.declared.fault.IoFault.{IoFault}
use Rattle.py_flat.specs.declared.fault.IoFault.TheVariants as fault
use Rattle.py_buffer.specs.Descriptor.{Dimension}

-- how far an index leads within a dimension: the index times the stride, plus the suboffset
abbrev pub step_of : ℕ → Dimension → ℤ
step_of index dimension = pos index *ℤ dimension.1 +ℤ dimension.2

-- where the item of these indices begins: the sum over the dimensions
abbrev pub position_of : List ℕ → List Dimension → ℤ
position_of (index ∷ indices) (dimension ∷ rest) = step_of index dimension +ℤ position_of indices rest
position_of indices dimensions = pos 0

-- each index lies below the shape of its dimension, and there are as many as dimensions
abbrev pub AreIndices : List ℕ → List Dimension → Type 0
AreIndices [] [] = Unit {0}
AreIndices (index ∷ indices) (dimension ∷ rest) = (index < dimension.0) × AreIndices indices rest
AreIndices indices dimensions = ⊥

-- the entry that an index means in a dimension of a shape, from the end where it is negative; none where it is out of bounds
abbrev pub entry_at : ℤ → ℕ → Option ℕ
entry_at (pos index) shape = if nat_lt index shape then Some index else None
entry_at (negsuc before) shape = if nat_lt before shape then Some (shape - (before + 1)) else None

-- a step that is added to what the further indices come to
abbrev pub step_onto : ℤ → Result ℤ IoFault → Result ℤ IoFault
step_onto step (Ok position) = Ok (step +ℤ position)
step_onto step (Err refused) = Err refused

-- what one index and the further ones come to: its own dimension's fault where it means no entry
abbrev pub indexed_by : Option ℕ → Dimension → ℕ → Result ℤ IoFault → Result ℤ IoFault
indexed_by None dimension number rest = Err (fault.IndexError number)
indexed_by (Some index) dimension number rest = step_onto (step_of index dimension) rest

-- what indices come to, their dimensions counted from a number on
abbrev pub indexed_from : ℕ → List ℤ → List Dimension → Result ℤ IoFault
indexed_from number (index ∷ indices) (dimension ∷ rest) = indexed_by (entry_at index dimension.0) dimension number (indexed_from (number + 1) indices rest)
indexed_from number indices dimensions = Ok (pos 0)

-- where the item of these indices begins, or the first dimension whose index is out of bounds
abbrev pub indexed : List ℤ → List Dimension → Result ℤ IoFault
indexed indices dimensions = indexed_from 0 indices dimensions
