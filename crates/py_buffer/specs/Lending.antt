-- What a buffer ends as, where its bytes were lent to be written.
use Rattle.std.specs.Prelude.{ℕ, List, []}
use Rattle.std.specs.Borrow.{Lends, Array, u8, Fml, MutBor}
use Rattle.py_buffer.specs.contracts.owned.OwnedBuffer.{the_row as owned}
use mir.Syntax.{named}
use Rattle.py_buffer.specs.contracts.buffer_mut.PyBufferMut.{the_row as lent}
use Rattle.py_buffer.specs.Buffers.{BufferView, WrittenView, with_bytes, refilled}

-- lent bytes end as those that were left in what the buffer lent
abbrev pub WritesAll : MutBor WrittenView → MutBor (List ℕ) → Fml
WritesAll buffer bytes = Lends (lent (record { mir = named 1; lft = [] })) (Array u8 0) buffer bytes (with_bytes buffer.now)

-- the bytes of an owned buffer end as those that were left in what it lent, of which there are as many
abbrev pub WritesOwned : MutBor BufferView → MutBor (List ℕ) → Fml
WritesOwned buffer bytes = Lends owned (Array u8 0) buffer bytes (refilled buffer.now)
