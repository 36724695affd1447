-- The items that lie furthest out.
use Rattle.std.specs.Prelude.{ℕ, ◌-◌, ℤ, pos, negsuc, ◌+ℤ◌, Bool, true, false, List, [], ◌∷◌}
use Rattle.py_buffer.specs.Descriptor.{Dimension}
use Rattle.py_buffer.specs.Position.{step_of}

-- the index that leads furthest in a dimension, to the front or to the back: the first or the last one, by the stride's sign
abbrev pub edge_index : Bool → ℕ → ℤ → ℕ
edge_index true shape (pos stride) = 0
edge_index true shape (negsuc stride) = shape - 1
edge_index false shape (pos stride) = shape - 1
edge_index false shape (negsuc stride) = 0

-- where the item that lies furthest to the front begins, or the one furthest to the back
abbrev pub edge_of : Bool → List Dimension → ℤ
edge_of front [] = pos 0
edge_of front (dimension ∷ rest) = step_of (edge_index front dimension.0 dimension.1) dimension +ℤ edge_of front rest
