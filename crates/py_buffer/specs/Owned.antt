-- The bytes of a borrowed buffer that owns them, lent to be written.
use Rattle.std.specs.Prelude.{◌≡◌, ℕ, Bool, true, false, List, [], Option, Some, None}
use mir.Syntax.{named}
use Rattle.std.specs.Borrow.{RestsIfNone, Lends, Array, u8, Fml, MutBor}
use Rattle.py_buffer.specs.contracts.owned.OwnedBuffer.{the_row}
use Rattle.py_buffer.specs.contracts.owned.OwnedBytes.{the_row as lent_row}
use Rattle.py_buffer.specs.declared.owned.OwnedBytes.{OwnedBytes}
use Rattle.py_buffer.specs.Buffers.{BufferView, refilled}

-- the borrow of the buffer whose bytes are lent, and the buffer as it is there
abbrev pub borrow_of : OwnedBytes → MutBor BufferView
borrow_of lent = lent.buffer

abbrev pub buffer_of : OwnedBytes → BufferView
buffer_of lent = (borrow_of lent).now

-- the bytes that are lent: all that the buffer has
abbrev pub own_bytes : OwnedBytes → List ℕ
own_bytes lent = (buffer_of lent).bytes

-- the buffer, borrowed as it is; none of one that is readonly
abbrev pub MayWrite : (readonly : Bool) → MutBor BufferView → Option OwnedBytes → Type 0
MayWrite true given result = result ≡ None
MayWrite false given (Some lent) = borrow_of lent ≡ given
MayWrite false given None = ⊥

-- a buffer whose bytes aren't lent stays as it was; one whose are ends as it was left
abbrev pub StaysIfNone : MutBor BufferView → Option OwnedBytes → Fml
StaysIfNone buffer result = RestsIfNone the_row buffer (λ lent. (borrow_of lent).ghost_name) result (λ last. last ≡ buffer.now)

-- the borrowed buffer has the bytes that were left in what it lent, of which there are as many
abbrev pub with_written : OwnedBytes → List ℕ → OwnedBytes
with_written lent bytes = record { buffer = record (borrow_of lent) { now = refilled (buffer_of lent) bytes } }

abbrev pub WritesBytes : MutBor OwnedBytes → MutBor (List ℕ) → Fml
WritesBytes lent bytes = Lends (lent_row (record { mir = named 0; lft = [] })) (Array u8 0) lent bytes (with_written lent.now)
