-- What a `BytesIO` ends as, where its bytes were lent to be written.
use Rattle.std.specs.Prelude.{ℕ, List}
use Rattle.std.specs.Borrow.{Lends, Array, u8, Fml, MutBor}
use Rattle.py_memio.specs.contracts.bytes_io.BytesIO.{the_row}
use Rattle.py_memio.specs.BytesIO.{BytesView, with_bytes}

-- the stream ends with the bytes that were left in what it lent, of which there are as many
abbrev pub WritesThrough : MutBor BytesView → MutBor (List ℕ) → Fml
WritesThrough stream lent = Lends the_row (Array u8 0) stream lent (with_bytes stream.now)
