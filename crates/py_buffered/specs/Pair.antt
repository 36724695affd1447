-- A reader and a writer that go as one stream.
use Rattle.std.specs.Prelude.{◌≡◌, ℕ, ◌⊎◌, Bool, true, false, IsTrue, Option, Some, Result, Ok, Err}
use Rattle.std.specs.Result.{result_and}
use Rattle.py_flat.specs.declared.fault.IoFault.{IoFault}
use Rattle.py_flat.specs.declared.fault.IoFault.TheVariants as fault
use Rattle.py_flat.specs.Calls.{Close}
use Rattle.py_raw.specs.RawStream.{Raw}
use Rattle.py_stream.specs.declared.detached.Detached.{Detached}
use Rattle.py_stream.specs.declared.new_refused.NewRefused.{NewRefused}
use Rattle.py_stream.specs.Stream.{Stream, reader_can, writer_can}
use Rattle.py_stream.specs.Answers.{Answers}
use Rattle.py_stream.specs.Opening.{Opens, RefusesRaw}
use Rattle.py_stream.specs.Handing.{PartsOutcome}
use Rattle.py_stream.specs.Replies.{done_reply}
use Rattle.py_stream.specs.Taken.{WriterView}

-- a pair: the stream that is read, and the one that is written
pub record PairView : Type 0 where
  pub reader : Stream
  pub writer : WriterView

-- Opening.

-- a new pair: a new reader over the one raw, and a new writer over the other
pub record OpensBoth (reader writer : Raw) (size : ℕ) (pair : PairView) : Type 0 where
  pub reads : Opens (λ shown. shown.readable) reader_can reader (Some size) pair.reader
  pub writes : Opens (λ shown. shown.writable) (writer_can false) writer (Some size) pair.writer.stream
  pub taken : pair.writer.taken ≡ 0

-- the raw of the reader was refused, and that of the writer is as it was
pub record RefusesReader (reader writer : Raw) (size : ℕ) (why : IoFault) (back left : Raw) : Type 0 where
  pub refused : RefusesRaw (λ shown. shown.readable) false reader (Some size) why back
  pub still : left ≡ writer

-- a reader was made, and then the raw of the writer was refused: the reader's is handed back as it was after that
pub record RefusesWriter (reader writer : Raw) (size : ℕ) (why : IoFault) (back left : Raw) : Type 0 where
  pub stream : Stream
  pub opens : Opens (λ shown. shown.readable) reader_can reader (Some size) stream
  pub raw : back ≡ stream.raw
  pub refused : RefusesRaw (λ shown. shown.writable) false writer (Some size) why left

-- a pair is opened over two raws, of which the reader's is tried first; or both are handed back
abbrev pub PairOutcome : {R W : Type 0} → (R → Raw) → (W → Raw) → R → W → ℕ → Result PairView (NewRefused (R × W)) → Type 0
PairOutcome reads writes reader writer size (Ok pair) = OpensBoth (reads reader) (writes writer) size pair
PairOutcome reads writes reader writer size (Err refused) = RefusesReader (reads reader) (writes writer) size refused.fault (reads refused.raw.0) (writes refused.raw.1) ⊎ RefusesWriter (reads reader) (writes writer) size refused.fault (reads refused.raw.0) (writes refused.raw.1)

-- Closing.

-- whether a close would have blocked
abbrev pub had_to_wait : Result (Unit {0}) IoFault → Bool
had_to_wait (Err (fault.WouldBlock taken)) = true
had_to_wait result = false

-- a reader is closed, and of two faults the first is answered
pub record ClosesReader (first : Result (Unit {0}) IoFault) (before : Stream) (result : Result (Unit {0}) IoFault) (after : Stream) : Type 0 where
  pub second : Result (Unit {0}) IoFault
  pub reader : Answers before Close (done_reply second) after
  pub answer : result ≡ result_and first second

-- the writer is closed first, and then the reader, unless the writer would have blocked: then the reader is as it was
pub record ClosesBoth (old : PairView) (result : Result (Unit {0}) IoFault) (new : PairView) : Type 0 where
  pub first : Result (Unit {0}) IoFault
  pub writer : Answers old.writer.stream Close (done_reply first) new.writer.stream
  pub taken : new.writer.taken ≡ old.writer.taken
  pub waits : IsTrue (had_to_wait first) → (result ≡ first) × (new.reader ≡ old.reader)
  pub closes : had_to_wait first ≡ false → ClosesReader first old.reader result new.reader

-- Handing back.

-- what both hand back
pub record HandsBoth {R W : Type 0} (reads : R → Raw) (writes : W → Raw) (pair : PairView) (reader : Option (Detached R)) (writer : Option (Detached W)) : Type 0 where
  pub reader_is : PartsOutcome reads pair.reader reader
  pub writer_is : PartsOutcome writes pair.writer.stream writer
