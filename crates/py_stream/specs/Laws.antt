-- What holds over several calls of any stream, whatever raw is below; and what one call answers where nothing stands in its way.
use Rattle.std.specs.Prelude.{◌≡◌, ◌≢◌, ℕ, Bool, true, false, ◌&&◌, not, IsTrue, List, [], ◌∷◌, length}
use Rattle.py_flat.specs.declared.fault.IoFault.TheVariants as fault
use Rattle.py_flat.specs.declared.life.Life.TheVariants as life
use Rattle.py_flat.specs.Causes.{rose}
use Rattle.py_flat.specs.Lines.{joined}
use Rattle.py_flat.specs.FlatFile.{FlatFile}
use Rattle.py_flat.specs.Calls.{FileCall, FileReply, Bytes, Lines, Refused}
use Rattle.py_flat.specs.ExactStep.{rest, after_read, after_write}
use Rattle.py_raw.specs.RawStream.{WhereTold, tells}
use Rattle.py_stream.specs.Stream.{Stream, file_of}
use Rattle.py_stream.specs.Kinds.{is_seek}
use Rattle.py_stream.specs.Answers.{Answers}

-- the stream stands where it stood, and says so; where the raw tells, its flat file is what it was, and what is left of it
pub record ComesBack (before : Stream) (told back : ℕ) (after : Stream) : Type 0 where
  pub says : back ≡ told
  pub place : after.place ≡ before.place
  pub file : WhereTold before.raw (file_of after ≡ file_of before)
  pub left : WhereTold before.raw (rest (file_of after) ≡ rest (file_of before))

-- nothing stands in the way of a call of a stream: it lives, its raw tells its bytes and its place, no count of that rose, and memory
-- didn't run out
pub record GoesSmoothly (before : Stream) (reply : FileReply) (after : Stream) : Type 0 where
  pub lives : before.life ≡ life.Live
  pub told : IsTrue (tells before.raw)
  pub no_wait : rose before.raw.waits after.raw.waits ≡ false
  pub no_fault : rose before.raw.faults after.raw.faults ≡ false
  pub memory : reply ≢ Refused fault.NoMemory

-- a call answers just this, and leaves just this flat file
pub record AnswersJust (expected : FileReply) (left : FlatFile) (reply : FileReply) (after : Stream) : Type 0 where
  pub says : reply ≡ expected
  pub leaves : file_of after ≡ left

-- a call gives just these bytes, and the place moves past them
abbrev pub GivesJust : Stream → List ℕ → FileReply → Stream → Type 0
GivesJust before bytes reply after = AnswersJust (Bytes bytes) (after_read (file_of before) (length bytes)) reply after

-- a call gives just these lines, and the place moves past them
abbrev pub GivesJustLines : Stream → List (List ℕ) → FileReply → Stream → Type 0
GivesJustLines before lines reply after = AnswersJust (Lines lines) (after_read (file_of before) (length (joined lines))) reply after

-- a call takes all of these bytes, and lays them at the place
abbrev pub TakesJust : Stream → FileReply → List ℕ → FileReply → Stream → Type 0
TakesJust before expected bytes reply after = AnswersJust expected (after_write (file_of before) bytes) reply after

-- a list of calls of a stream is answered, one after the other
abbrev pub AnswersEach : Stream → List FileCall → List FileReply → Stream → Type 0
AnswersEach before [] [] after = after ≡ before
AnswersEach before (call ∷ calls) (reply ∷ replies) after = (mid : Stream) × Answers before call reply mid × AnswersEach mid calls replies after
AnswersEach before calls replies after = ⊥

-- whether none of the calls is a seek
abbrev pub none_seeks : List FileCall → Bool
none_seeks [] = true
none_seeks (call ∷ calls) = not (is_seek call) && none_seeks calls
