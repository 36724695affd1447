-- What a copy from one stream to another comes to.
use Rattle.std.specs.Prelude.{◌≡◌, ◌⊎◌, ℕ, Bool, true, false, List, length, None, Result, Ok, Err}
use Rattle.py_flat.specs.declared.fault.IoFault.{IoFault}
use Rattle.py_flat.specs.Bytes.{lay}
use Rattle.py_flat.specs.Calls.{Read, Write, Flush, Bytes, Count, Done, NotReady, Refused}
use Rattle.py_flat.specs.ExactStep.{rest}
use Rattle.py_raw.specs.RawStream.{WhereTold}
use Rattle.py_stream.specs.Stream.{Stream, file_of}
use Rattle.py_stream.specs.Answers.{Answers}

-- where both raws tell their bytes and their places: that of the writer holds all that was written to it, and at its place all that the reader had left
abbrev pub Copied : Stream → Stream → Stream → Type 0
Copied reader writer after = WhereTold reader.raw (WhereTold writer.raw (after.raw.bytes ≡ lay (file_of writer).bytes writer.place (rest (file_of reader))))

-- a copy is three calls: what the reader has left is read, all that came is written, and the writer passes it on
pub record CopiesPart (reader writer read after : Stream) : Type 0 where
  pub part : List ℕ
  pub written : Stream
  pub reads : Answers reader (Read None) (Bytes part) read
  pub writes : Answers writer (Write part) (Count (length part)) written
  pub flushes : Answers written Flush Done after

-- the reader's raw would have blocked before anything came, and the writer is as it was
pub record CopiesNothing (reader writer read after : Stream) : Type 0 where
  pub reads : Answers reader (Read None) NotReady read
  pub same : after ≡ writer

-- the writer refused these bytes, or to pass them on
abbrev pub RefusesPart : Stream → List ℕ → IoFault → Stream → Type 0
RefusesPart writer part why after = Answers writer (Write part) (Refused why) after ⊎ ((written : Stream) × Answers writer (Write part) (Count (length part)) written × Answers written Flush (Refused why) after)

-- the reader refused to read, and the writer is as it was; or what came was refused by the writer
abbrev pub RefusesCopy : Stream → Stream → IoFault → Stream → Stream → Type 0
RefusesCopy reader writer why read after = (Answers reader (Read None) (Refused why) read × (after ≡ writer)) ⊎ ((part : List ℕ) × Answers reader (Read None) (Bytes part) read × RefusesPart writer part why after)

-- `true`: no wait cut the reading short. `false`: one did, and what came before it was copied. Else the call that refused
abbrev pub CopyOutcome : Stream → Stream → Result Bool IoFault → Stream → Stream → Type 0
CopyOutcome reader writer (Ok true) read after = (read.short ≡ false) × CopiesPart reader writer read after
CopyOutcome reader writer (Ok false) read after = (read.short ≡ true) × (CopiesPart reader writer read after ⊎ CopiesNothing reader writer read after)
CopyOutcome reader writer (Err why) read after = RefusesCopy reader writer why read after
