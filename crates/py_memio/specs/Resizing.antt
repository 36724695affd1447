-- A borrowed stream of bytes whose length may change.
use Rattle.std.specs.Prelude.{◌≡◌, Option, Some, None, Result, Ok, Err}
use Rattle.std.specs.Borrow.{RestsIfErr, RestsIfNone, Fml, MutBor}
use Rattle.py_flat.specs.declared.fault.IoFault.{IoFault}
use Rattle.py_memio.specs.contracts.bytes_io.BytesIO.{the_row}
use Rattle.py_memio.specs.declared.bytes_io.resizing.Resizable.{Resizable}
use Rattle.py_memio.specs.BytesIO.{BytesView}

-- the borrow that a `Resizable` holds, and the stream as it is there
abbrev pub borrow_of : Resizable → MutBor BytesView
borrow_of resizable = resizable.stream

abbrev pub stream_of : Resizable → BytesView
stream_of resizable = (borrow_of resizable).now

-- the borrow is still that of the same stream
abbrev pub IsSameBorrow : Resizable → Resizable → Type 0
IsSameBorrow before after = (borrow_of after).ghost_name ≡ (borrow_of before).ghost_name

-- the stream, borrowed as it is, or what refuses it
abbrev pub MayResize : Option IoFault → MutBor BytesView → Result Resizable IoFault → Type 0
MayResize (Some why) given result = result ≡ Err why
MayResize None given (Ok resizable) = borrow_of resizable ≡ given
MayResize None given (Err why) = ⊥

-- the stream, borrowed as it is, or none where something refuses it
abbrev pub MayResizeIf : Option IoFault → MutBor BytesView → Option Resizable → Type 0
MayResizeIf (Some why) given result = result ≡ None
MayResizeIf None given (Some resizable) = borrow_of resizable ≡ given
MayResizeIf None given None = ⊥

-- a stream that isn't borrowed stays as it was; one that is ends as it was left
abbrev pub StaysIfRefused : MutBor BytesView → Result Resizable IoFault → Fml
StaysIfRefused stream result = RestsIfErr the_row stream (λ resizable. (borrow_of resizable).ghost_name) result (λ last. last ≡ stream.now)

abbrev pub StaysIfNone : MutBor BytesView → Option Resizable → Fml
StaysIfNone stream result = RestsIfNone the_row stream (λ resizable. (borrow_of resizable).ghost_name) result (λ last. last ≡ stream.now)
