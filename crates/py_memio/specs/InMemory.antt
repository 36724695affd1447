-- Streams in memory. Each call is the exact step of the flat file. A character is its number, so the same is said of bytes and of
-- characters, and a gap of characters is filled with U+0000 as one of bytes is with zeros.
use Rattle.std.specs.Prelude.{◌≡◌, ℕ, Bool, true, false, ◌&&◌, IsTrue, List, Option, Some, None, Result, Ok, Err, if◌then◌else◌}
use Rattle.py_flat.specs.declared.fault.IoFault.{IoFault}
use Rattle.py_flat.specs.declared.fault.IoFault.TheVariants as fault
use Rattle.py_flat.specs.declared.life.Life.{Life}
use Rattle.py_flat.specs.declared.life.Life.TheVariants as life
use Rattle.py_flat.specs.Calls.{FileCall, Read, Read1, ReadLine, ReadLines, Write, WriteLines, FileReply, Refused}
use Rattle.py_flat.specs.FlatFile.{Abilities, FlatFile, InMemory}
use Rattle.py_flat.specs.Refusals.{refusal}
use Rattle.py_flat.specs.ExactStep.{carried_out}
use Rattle.py_stream.specs.Buffer.{changes_length, refusal_lent}

-- a stream in memory reads, writes and seeks, and doesn't append
abbrev pub can_in_memory : Abilities
can_in_memory = record { readable = true; writable = true; seekable = true; appending = false }

-- nothing fails a stream in memory, and none has a raw to be detached from: it is live, or closed
abbrev pub life_of : (closed : Bool) → Life
life_of true = life.Closed
life_of false = life.Live

-- the flat file of a stream in memory, by its bytes or characters and its place
abbrev pub file_in_memory : List ℕ → ℕ → (closed : Bool) → FlatFile
file_in_memory items place closed = record { bytes = items; place = place; can = can_in_memory; buffering = InMemory; life = life_of closed }

-- what refuses a call, by whether bytes are lent out: these keep their number, so what changes it is refused then, after what the life
-- refuses, and before a place or a size that a stream can't have
abbrev pub refusal_in_memory : (lent : Bool) → FlatFile → FileCall → Option IoFault
refusal_in_memory lent file call = if lent && changes_length call then refusal_lent file call else refusal file call

-- calls that take memory: they give a list of their own, or may lengthen the stream
abbrev pub may_lack_memory : FileCall → Bool
may_lack_memory (Read size) = true
may_lack_memory (Read1 size) = true
may_lack_memory (ReadLine limit) = true
may_lack_memory (ReadLines hint) = true
may_lack_memory (Write items) = true
may_lack_memory (WriteLines lines) = true
may_lack_memory call = false

-- what an accepted call answers and leaves: the exact reply and the exact next file, or out of memory with all as before
abbrev pub CarriedOutInMemory : FlatFile → FileCall → FileReply → FlatFile → Type 0
CarriedOutInMemory before call (Refused why) after = IsTrue (may_lack_memory call) × (why ≡ fault.NoMemory) × (after ≡ before)
CarriedOutInMemory before call reply after = (reply, after) ≡ carried_out before call

-- a refused call answers its refusal, with all as before
abbrev pub AnswersWith : Option IoFault → FlatFile → FileCall → FileReply → FlatFile → Type 0
AnswersWith (Some why) before call reply after = (reply ≡ Refused why) × (after ≡ before)
AnswersWith None before call reply after = CarriedOutInMemory before call reply after

-- One call of a stream in memory, by whether bytes of it are lent out.
abbrev pub AnswersInMemory : (lent : Bool) → FlatFile → FileCall → FileReply → FlatFile → Type 0
AnswersInMemory lent before call reply after = AnswersWith (refusal_in_memory lent before call) before call reply after

-- The steps of a call.

-- a call that a closed stream doesn't let through goes on, or is refused
abbrev pub OpenOutcome : Life → Result (Unit {0}) IoFault → Type 0
OpenOutcome current (Ok done) = current ≡ life.Live
OpenOutcome current (Err why) = (current ≡ life.Closed) × (why ≡ fault.Closed)

-- a call that changes how many bytes there are goes on, or is refused
abbrev pub UnlentOutcome : (lent : Bool) → Result (Unit {0}) IoFault → Type 0
UnlentOutcome lent (Ok done) = lent ≡ false
UnlentOutcome lent (Err why) = (lent ≡ true) × (why ≡ fault.BufferError)
