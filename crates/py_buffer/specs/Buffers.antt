-- Buffers: bytes with a descriptor that doesn't leave them.
use Rattle.std.specs.Prelude.{◌≡◌, ℕ, pos, Bool, false, List, [], ◌∷◌, ◌++◌, length, take, drop}
use Rattle.std.specs.Borrow.{MutBor}
use Rattle.py_buffer.specs.declared.descriptor.BufferDescriptor.{BufferDescriptor}
use Rattle.py_buffer.specs.Descriptor.{IsValid}
use Rattle.py_buffer.specs.Segments.{Covers, bytes_of}

-- a buffer as contracts see it: its bytes, and what they hold
pub record BufferView : Type 0 where
  pub bytes : List ℕ
  pub desc : BufferDescriptor

-- a descriptor that is valid, and whose segments lie within these bytes
pub record IsOver (descriptor : BufferDescriptor) (bytes : List ℕ) : Type 0 where
  pub valid : IsValid descriptor
  pub covers : Covers descriptor (length bytes)

-- the bytes of a buffer's items, in row order
abbrev pub items_of : BufferView → List ℕ
items_of buffer = bytes_of buffer.desc buffer.bytes

-- a buffer with these bytes in place of its own, which keep their number: more are cut, and of fewer the old ones after them stay
abbrev pub refilled : BufferView → List ℕ → BufferView
refilled buffer bytes = record buffer { bytes = take (length buffer.bytes) (bytes ++ drop (length bytes) buffer.bytes) }

-- the descriptor of so many bytes one by one
pub record IsSimple (descriptor : BufferDescriptor) (n : ℕ) (readonly : Bool) : Type 0 where
  pub len : descriptor.len ≡ n
  pub only_read : descriptor.readonly ≡ readonly
  pub itemsize : descriptor.itemsize ≡ 1
  pub letter : descriptor.format.now ≡ 66 ∷ []
  pub dimension : descriptor.dim_desc.items ≡ (n, pos 1, pos 0) ∷ []

-- A buffer that is written.

-- as contracts see it: the borrow of its bytes, by which a caller tells whose they are; how many were lent; and what they hold
pub record WrittenView : Type 0 where
  pub borrow : MutBor (List ℕ)
  pub size : ℕ
  pub desc : BufferDescriptor

-- a descriptor of bytes that are written: valid, its segments within so many bytes, and not readonly
pub record IsWritable (descriptor : BufferDescriptor) (size : ℕ) : Type 0 where
  pub valid : IsValid descriptor
  pub covers : Covers descriptor size
  pub writable : descriptor.readonly ≡ false

-- the buffer as one that is read
abbrev pub as_read : WrittenView → BufferView
as_read buffer = record { bytes = buffer.borrow.now; desc = buffer.desc }

-- the buffer with these bytes
abbrev pub with_bytes : WrittenView → List ℕ → WrittenView
with_bytes buffer bytes = record buffer { borrow = record buffer.borrow { now = bytes } }

-- the buffer with these bytes in the place of its first ones
abbrev pub with_front : WrittenView → List ℕ → WrittenView
with_front buffer front = with_bytes buffer (front ++ drop (length front) buffer.borrow.now)

-- other bytes were left in the place of a buffer's first `len`, and of these there are as many
abbrev pub LeavesFront : WrittenView → List ℕ → WrittenView → Type 0
LeavesFront before new after = (length new ≡ length (take before.desc.len before.borrow.now)) × (after ≡ with_front before new)
