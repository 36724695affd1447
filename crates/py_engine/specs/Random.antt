-- Readings of an engine that may owe bytes, and needn't read on from the bytes held as it stands.
use Rattle.std.specs.Prelude.{◌≡◌, ◌≢◌, ℕ, ◌<◌, Bool, true, false, IsTrue, List, [], ◌++◌, length, take, unwrap_or, Option, Some, None, Result, Ok, Err}
use Rattle.std.specs.declared.alloc.AllocError.{AllocError}
use Rattle.py_flat.specs.declared.fault.IoFault.{IoFault}
use Rattle.py_flat.specs.declared.fault.IoFault.TheVariants as fault
use Rattle.py_flat.specs.declared.life.Life.TheVariants as life
use Rattle.py_flat.specs.Lines.{joined, lines_of}
use Rattle.py_flat.specs.Calls.{FileCall, Read1, ReadInto1, ReadLines, Peek, FileReply, Bytes, NotReady, Refused}
use Rattle.py_lines.specs.Collecting.{HasEnough}
use Rattle.py_stream.specs.Access.{is_read}
use Rattle.py_stream.specs.Stream.{Stream}
use Rattle.py_stream.specs.Kinds.{is_reading, is_single, asks_none, asks_nothing, takes_space_first, says_no_memory}
use Rattle.py_stream.specs.Answers.{Answers, ahead, FlushesFirst, InHand}
use Rattle.py_stream.specs.Reading.{wanted_by}
use Rattle.py_window.specs.Window.{ahead_of, advanced}
use Rattle.py_engine.specs.Engine.{EngineView, stream_of}
use Rattle.py_engine.specs.Reading.{IsReading}

-- a reading has to go to the raw: it asks for some byte, and the bytes held don't answer it
pub record GoesToRaw (stream : Stream) (call : FileCall) : Type 0 where
  pub reads : is_reading call ≡ true
  pub some : asks_none stream.buffer call ≡ false
  pub apart : InHand stream call → ⊥

-- what answers a reading of the one stream answers it of the other, where running out of memory has its cause
abbrev pub AnswersFrom : Stream → Stream → Type 0
AnswersFrom before mid = (call : FileCall) (reply : FileReply) (after : Stream) → GoesToRaw before call → (IsTrue (says_no_memory reply) → IsTrue (takes_space_first call) → IsTrue mid.raw.takes_memory) → Answers mid call reply after → Answers before call reply after

-- all was passed on, and a reading goes on from the bytes held
pub record WentAhead (old new : EngineView) : Type 0 where
  pub reads : IsReading new
  pub live : new.life ≡ life.Live
  pub whole : new.short ≡ false
  pub size : new.window.size ≡ old.window.size
  pub answers : AnswersFrom (stream_of old) (stream_of new)

-- all was passed on; or what stopped that answers the reading, whichever it is
abbrev pub GoesAhead : EngineView → Result Bool IoFault → EngineView → Type 0
GoesAhead old (Ok true) new = WentAhead old new
GoesAhead old (Ok false) new = (call : FileCall) → GoesToRaw (stream_of old) call → Answers (stream_of old) call NotReady (stream_of new)
GoesAhead old (Err why) new = (call : FileCall) → GoesToRaw (stream_of old) call → Answers (stream_of old) call (Refused why) (stream_of new)

-- some of whatever comes after bytes is wanted with all of these
abbrev pub WantsPast : (List ℕ → List ℕ) → List ℕ → Type 0
WantsPast wanted bytes = (more : List ℕ) → more ≢ [] → length bytes < length (wanted (bytes ++ more))

-- the lines at the front of a piece that are above a hint, and how many bytes they have, whatever comes after the piece; or more than the
-- piece is wanted
abbrev pub LinesIn : List ℕ → Option ℕ → Result (Option (List (List ℕ) × ℕ)) AllocError → Type 0
LinesIn bytes hint (Ok (Some held)) = HasEnough (wanted_by (ReadLines hint)) [] bytes held.1 (joined held.0) × (lines_of (joined held.0) ≡ held.0)
LinesIn bytes hint (Ok None) = WantsPast (wanted_by (ReadLines hint)) bytes
LinesIn bytes hint (Err lacks) = Unit {0}

-- the front of the bytes held was given
abbrev pub gave : ℕ → EngineView → EngineView
gave wanted engine = record engine { window = advanced (length (take wanted (ahead_of engine.window))) engine.window }

-- those held answer each call by one transfer that wants n bytes and needn't pass on first
pub record AnswersSome (old : EngineView) (wanted : ℕ) (new : EngineView) : Type 0 where
  pub reads : is_read new.access ≡ true
  pub readinto1 : Answers (stream_of old) (ReadInto1 wanted) (Bytes (take wanted (ahead_of new.window))) (stream_of (gave wanted new))
  pub look : old.window.size ≡ wanted → Answers (stream_of old) Peek (Bytes (ahead_of new.window)) (stream_of new)

-- those held answer each such call, a `read1` too, where it has passed on first
pub record AnswersOnce (old : EngineView) (wanted : ℕ) (new : EngineView) : Type 0 where
  pub live : new.life ≡ life.Live
  pub some : ahead (stream_of old) ≡ 0 → AnswersSome old wanted new
  pub reads : is_read new.access ≡ true
  pub read1 : (size : Option ℕ) → unwrap_or size old.window.size ≡ wanted → Answers (stream_of old) (Read1 size) (Bytes (take wanted (ahead_of new.window))) (stream_of (gave wanted new))
  pub lacks : (size : Option ℕ) → unwrap_or size old.window.size ≡ wanted → Answers (stream_of old) (Read1 size) (Refused fault.NoMemory) (stream_of new)

-- a reply answers each call by one transfer that asks for some byte and has to pass on first
abbrev pub AnswersFirst : EngineView → FileReply → EngineView → Type 0
AnswersFirst old reply new = (call : FileCall) → is_single call ≡ true → asks_nothing call ≡ false → FlushesFirst (stream_of old) call → Answers (stream_of old) call reply (stream_of new)

-- those held answer such a call once all was passed on; or what stopped that, or the one transfer, answers it
abbrev pub OnceOutcome : EngineView → ℕ → Result Bool IoFault → EngineView → Type 0
OnceOutcome old wanted (Ok true) new = AnswersOnce old wanted new
OnceOutcome old wanted (Ok false) new = AnswersFirst old NotReady new
OnceOutcome old wanted (Err why) new = AnswersFirst old (Refused why) new

-- those held answer a call by one transfer that needn't pass on first; or where none was held, what stopped it answers it
abbrev pub SomeOutcome : EngineView → ℕ → Result Bool IoFault → EngineView → Type 0
SomeOutcome old wanted (Ok true) new = AnswersSome old wanted new
SomeOutcome old wanted (Ok false) new = (ahead (stream_of old) ≡ 0) × AnswersFirst old NotReady new
SomeOutcome old wanted (Err why) new = (ahead (stream_of old) ≡ 0) × AnswersFirst old (Refused why) new
