-- The bytes of a borrowed stream, lent to be written.
use Rattle.std.specs.Prelude.{◌≡◌, ℕ, List, [], Option, Some, None, Result, Ok, Err}
use mir.Syntax.{named}
use Rattle.std.specs.Borrow.{RestsIfErr, Lends, Array, u8, Fml, MutBor}
use Rattle.py_flat.specs.declared.fault.IoFault.{IoFault}
use Rattle.py_memio.specs.contracts.bytes_io.BytesIO.{the_row}
use Rattle.py_memio.specs.contracts.bytes_io.lent.LentBytes.{the_row as lent_row}
use Rattle.py_memio.specs.declared.bytes_io.lent.LentBytes.{LentBytes}
use Rattle.py_memio.specs.BytesIO.{BytesView, with_bytes}

-- the borrow of the stream whose bytes are lent, and the stream as it is there
abbrev pub borrow_of : LentBytes → MutBor BytesView
borrow_of lent = lent.stream

abbrev pub stream_of : LentBytes → BytesView
stream_of lent = (borrow_of lent).now

-- the bytes that are lent: all that the stream has
abbrev pub bytes_of : LentBytes → List ℕ
bytes_of lent = (stream_of lent).file.bytes

-- the stream, borrowed as it is, or what refuses to lend its bytes
abbrev pub MayLend : Option IoFault → MutBor BytesView → Result LentBytes IoFault → Type 0
MayLend (Some why) given result = result ≡ Err why
MayLend None given (Ok lent) = borrow_of lent ≡ given
MayLend None given (Err why) = ⊥

-- a stream whose bytes aren't lent stays as it was; one whose are ends as it was left
abbrev pub StaysUnlessLent : MutBor BytesView → Result LentBytes IoFault → Fml
StaysUnlessLent stream result = RestsIfErr the_row stream (λ lent. (borrow_of lent).ghost_name) result (λ last. last ≡ stream.now)

-- the borrowed stream has the bytes that were left in what it lent, of which there are as many
abbrev pub with_written : LentBytes → List ℕ → LentBytes
with_written lent bytes = record { stream = record (borrow_of lent) { now = with_bytes (stream_of lent) bytes } }

abbrev pub WritesBytes : MutBor LentBytes → MutBor (List ℕ) → Fml
WritesBytes lent bytes = Lends (lent_row (record { mir = named 0; lft = [] })) (Array u8 0) lent bytes (with_written lent.now)
