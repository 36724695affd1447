-- What std's traits know of a stream, where it tells its bytes.
use Rattle.std.specs.Prelude.{◌≡◌, ℕ, ◌<◌, Bool, true, false, List, [], length, take, drop, Option, Some, None, Result, Ok, Err, IfOk, IfErr}
use Rattle.std.specs.Io.KnownBytes.{Keeps, Appends, Consumes, IsAtEnd}
use Rattle.py_flat.specs.declared.fault.IoFault.{IoFault}
use Rattle.py_flat.specs.Bytes.{filled_to}
use Rattle.py_flat.specs.Calls.{FileReply, Bytes, ReadInto1}
use Rattle.py_flat.specs.Refusals.{life_fault}
use Rattle.py_flat.specs.ExactStep.{rest}
use Rattle.py_raw.specs.RawStream.{tells}
use Rattle.py_stream.specs.Stream.{Stream, file_of}
use Rattle.py_stream.specs.Buffer.{Buffer, flat_of}
use Rattle.py_memio.specs.InMemory.{AnswersInMemory}
use Rattle.py_memio.specs.Replies.{passed_reply}
use Rattle.py_memio.specs.BytesIO.{BytesView, is_lent}

-- some bytes, where they are told
abbrev pub if_told : Bool → List ℕ → Option (List ℕ)
if_told true bytes = Some bytes
if_told false bytes = None

-- the bytes that a stream has left from its place on
abbrev pub left_in : Stream → Option (List ℕ)
left_in stream = if_told (tells stream.raw) (rest (file_of stream))

-- all bytes of a stream, those that it owes among them
abbrev pub bytes_in : Buffer → Option (List ℕ)
bytes_in buffer = if_told (tells buffer.raw) (flat_of buffer).bytes

-- the bytes of a stream up to its place, with zeros up to that where it lies past the end: what was written, as std sees it
abbrev pub written_in : Buffer → Option (List ℕ)
written_in buffer = if_told (tells buffer.raw) (filled_to (flat_of buffer).bytes buffer.place)

-- a reading of so many bytes gave the next of those that were left, none only where none were asked for or are left; one that gives none
-- leaves them as they were
abbrev pub GivesNext : Option (List ℕ) → ℕ → FileReply → Option (List ℕ) → Type 0
GivesNext before size (Bytes part) after = Consumes before after part × (part ≡ [] → 0 < size → IsAtEnd after)
GivesNext before size reply after = Keeps before after

-- Readings and writes of all that was asked for, which an error may end.

-- some front of what was asked for was given, not all of it: it stands at the front of the buffer, and what the buffer has after it stays
pub record GivesFront (before : Option (List ℕ)) (old new : List ℕ) (after : Option (List ℕ)) : Type 0 where
  pub count : ℕ
  pub within : count < length old
  pub gave : Consumes before after (take count new)
  pub behind : drop count new ≡ drop count old

-- some front of the bytes was taken, not all of them
pub record TakesFront (before : Option (List ℕ)) (own : List ℕ) (after : Option (List ℕ)) : Type 0 where
  pub count : ℕ
  pub within : count < length own
  pub took : Appends before after (take count own)

-- A stream in memory lends all that is left.

-- looking ahead leaves it as it was; only a closed one refuses that
abbrev pub LooksInMemory : BytesView → Result Bool IoFault → BytesView → Type 0
LooksInMemory before (Ok shown) after = (life_fault before.file.life ≡ None) × (shown ≡ true) × (after ≡ before)
LooksInMemory before (Err why) after = (life_fault before.file.life ≡ Some why) × (after ≡ before)

-- as many bytes are passed over as are asked for, of those that are left: as `readinto1` gives them. Only the life refuses it
pub record PassesInMemory (before : BytesView) (amount : ℕ) (result : Result ℕ IoFault) (after : BytesView) : Type 0 where
  pub answer : AnswersInMemory (is_lent before) before.file (ReadInto1 amount) (passed_reply result (take amount (rest before.file))) after.file
  pub count : IfOk result (λ count. count ≡ length (take amount (rest before.file)))
  pub refused : IfErr result (λ why. life_fault before.file.life ≡ Some why)
  pub exports : after.exports ≡ before.exports
  pub taken : after.taken ≡ before.taken
